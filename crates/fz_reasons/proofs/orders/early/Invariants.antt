use Rattle.std.proofs.Common.{◌≡◌, ℕ, ◌<◌, Some, slice_get}
use Rattle.fz_builtins.specs.of_kernel.Views.{ints}
use Rattle.fz_reasons.proofs.orders.early.Given as goal

abbrev pub invariant-loop-place : goal.invariant-loop-place
invariant-loop-place l = (k : ℕ) → k < l.place → slice_get (ints l.elements) k ≡ Some l.before → ⊥
