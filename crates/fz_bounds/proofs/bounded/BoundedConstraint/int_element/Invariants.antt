use Rattle.std.proofs.Common.{◌≡◌, ◌<◌, ℕ, suc, ℤ, pos, Some, false, slice_get}
use Rattle.fz_model.specs.Meaning.{Partial}
use Rattle.fz_model.specs.Relations.{◌=ℤ◌}
use Rattle.fz_model.specs.of_builtins.of_kernel.Given.{int_at, ints_at}
use Rattle.fz_bounds.specs.Within.{NumberLies, NumbersLie, given}
use Rattle.fz_bounds.proofs.bounded.BoundedConstraint.int_element.Given as goal

abbrev pub invariant-loop-place : goal.invariant-loop-place
invariant-loop-place l = (K : Partial) → NumberLies l.self 0 K → NumbersLie l.self 1 K
    → NumberLies l.self 2 K → (i : ℕ) → i < l.place → (n : ℤ)
    → slice_get (ints_at K (given l.self) 1) i ≡ Some n → int_at K (given l.self) 0 ≡ pos (suc i)
    → (n =ℤ int_at K (given l.self) 2) ≡ false
