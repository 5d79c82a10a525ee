use Rattle.std.proofs.Common.{◌≡◌, ℕ, ◌<◌, Option, Some, slice_get}
use Rattle.fz_model.specs.declared.Term.{Term}
use Rattle.fz_model.specs.of_builtins.of_kernel.Given.{slots_at}
use Rattle.fz_bounds.specs.Opened.{IsFactor, probed}
use Rattle.fz_bounds.specs.Within.{given}
use Rattle.fz_bounds.proofs.opened.OpenConstraint.has_factors.Given as goal

abbrev pub invariant-loop-place : goal.invariant-loop-place
invariant-loop-place l = (i : ℕ) (s : Option Term) → i < l.place
    → slice_get (slots_at (given l.self.at) 0) i ≡ Some s
    → IsFactor l.self.variable (probed l.self) l.self.at.lowest.now l.self.at.highest.now s
