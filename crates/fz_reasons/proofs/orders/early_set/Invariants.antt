use Rattle.std.proofs.Common.{◌≡◌, ℕ, ◌<◌, false, slice_get}
use Rattle.std.specs.Option.{option_map_or}
use Rattle.fz_builtins.specs.of_meaning.Relations.{has_only}
use Rattle.fz_builtins.specs.of_kernel.Views.{sets}
use Rattle.fz_reasons.proofs.orders.early_set.Given as goal

abbrev pub invariant-loop-place : goal.invariant-loop-place
invariant-loop-place l =
    (k : ℕ) → k < l.place → option_map_or (has_only l.before l.value) (slice_get (sets l.parts) k) false ≡ false
