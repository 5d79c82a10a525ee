use Rattle.fz_model.specs.Meaning.{Partial}
use Rattle.fz_model.specs.of_builtins.of_kernel.Given.{ints_at}
use Rattle.fz_bounds.specs.Within.{NumbersLie, given}
use Rattle.fz_bounds.proofs.Picked.{IsPickedSoFar}
use Rattle.fz_bounds.proofs.bounded.BoundedConstraint.fixed_numbers.Given as goal

abbrev pub invariant-loop-place : goal.invariant-loop-place
invariant-loop-place l = (K : Partial) → NumbersLie l.self l.array K
    → IsPickedSoFar l.numbers.items l.place (ints_at K (given l.self) l.array)
