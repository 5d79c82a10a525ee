use Rattle.std.proofs.Common.{◌≡◌, ◌<◌, ℕ, ℤ, Some, slice_get}
use Rattle.fz_model.specs.Meaning.{Partial}
use Rattle.fz_model.specs.of_builtins.of_kernel.Given.{ints_at}
use Rattle.fz_bounds.specs.Decided.{LiesIn}
use Rattle.fz_bounds.specs.Within.{NumbersLie, given}
use Rattle.fz_bounds.proofs.bounded.BoundedConstraint.are_crowded.Given as goal

abbrev pub invariant-loop-place : goal.invariant-loop-place
invariant-loop-place l = (K : Partial) → NumbersLie l.self 0 K
    → ((n : ℤ) → slice_get (ints_at K (given l.self) 0) 0 ≡ Some n → LiesIn l.hull n)
    × ((i : ℕ) (n : ℤ) → i < l.place → slice_get (ints_at K (given l.self) 0) i ≡ Some n → LiesIn l.hull n)
