use Rattle.std.proofs.Common.{drop}
use Rattle.fz_model.specs.Meaning.{Partial}
use Rattle.fz_model.specs.Relations.{count_in}
use Rattle.fz_model.specs.of_builtins.of_kernel.Given.{ints_at, set_at}
use Rattle.fz_bounds.specs.Within.{NumbersLie, SetLies, given}
use Rattle.fz_bounds.proofs.Added.{IsSoFar}
use Rattle.fz_bounds.proofs.bounded.BoundedConstraint.count_in.Given as goal

abbrev pub invariant-loop-place : goal.invariant-loop-place
invariant-loop-place l = (K : Partial) → NumbersLie l.self 1 K → SetLies l.self 2 K
    → IsSoFar (count_in (ints_at K (given l.self) 1) (set_at K (given l.self) 2))
    (count_in (drop l.place (ints_at K (given l.self) 1)) (set_at K (given l.self) 2)) l.sum
