use Rattle.std.proofs.Common.{◌≡◌, ◌<◌, ℕ, suc, Bool, pos, Some, false, slice_get}
use Rattle.fz_model.specs.Meaning.{Partial}
use Rattle.fz_model.specs.Relations.{◌=ᴮ◌}
use Rattle.fz_model.specs.of_builtins.of_kernel.Given.{bool_at, bools_at, int_at}
use Rattle.fz_bounds.specs.Within.{NumberLies, TruthLies, TruthsLie, given}
use Rattle.fz_bounds.proofs.bounded.BoundedConstraint.bool_element.Given as goal

abbrev pub invariant-loop-place : goal.invariant-loop-place
invariant-loop-place l = (K : Partial) → NumberLies l.self 0 K → TruthsLie l.self 1 K
    → TruthLies l.self 2 K → (i : ℕ) → i < l.place → (b : Bool)
    → slice_get (bools_at K (given l.self) 1) i ≡ Some b → int_at K (given l.self) 0 ≡ pos (suc i)
    → (b =ᴮ bool_at K (given l.self) 2) ≡ false
