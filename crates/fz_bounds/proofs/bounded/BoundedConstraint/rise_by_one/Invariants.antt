use Rattle.std.proofs.Common.{◌≡◌, ℤ, drop, pos, true}
use Rattle.fz_model.specs.Meaning.{Partial}
use Rattle.fz_model.specs.Relations.{rises_by_one}
use Rattle.fz_model.specs.of_builtins.of_kernel.Given.{ints_at}
use Rattle.fz_bounds.specs.Decided.{LiesIn}
use Rattle.fz_bounds.specs.Within.{NumbersLie, given}
use Rattle.fz_bounds.proofs.bounded.BoundedConstraint.rise_by_one.Given as goal

abbrev pub invariant-loop-place : goal.invariant-loop-place
invariant-loop-place l = (K : Partial) → NumbersLie l.self 0 K → (m : ℤ) × LiesIn l.most m
    × (rises_by_one (pos 0) (ints_at K (given l.self) 0) ≡ true → rises_by_one m (drop l.place (ints_at K (given l.self) 0)) ≡ true)
