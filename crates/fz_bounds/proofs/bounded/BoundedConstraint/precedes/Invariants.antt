use Rattle.std.proofs.Common.{◌≡◌, ◌<◌, ℕ, ℤ, Some, false, slice_get}
use Rattle.fz_model.specs.Meaning.{Partial}
use Rattle.fz_model.specs.Relations.{◌=ℤ◌}
use Rattle.fz_model.specs.of_builtins.of_kernel.Given.{ints_at}
use Rattle.fz_bounds.specs.Decided.{LiesIn}
use Rattle.fz_bounds.specs.Within.{NumbersLie, given}
use Rattle.fz_bounds.proofs.bounded.BoundedConstraint.precedes.Given as goal

abbrev pub invariant-loop-place : goal.invariant-loop-place
invariant-loop-place l = (K : Partial) → NumbersLie l.self l.array K → (s : ℤ) → LiesIn l.first s
    → (i : ℕ) → i < l.place → (n : ℤ) → slice_get (ints_at K (given l.self) l.array) i ≡ Some n
    → (n =ℤ s) ≡ false
