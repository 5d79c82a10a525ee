use Rattle.std.proofs.Common.{◌≡◌, ℕ, ◌<◌, ◌-◌, length, slice_get}
use Rattle.fz_reasons.proofs.orders.difference.Given as goal

abbrev pub invariant-loop-place : goal.invariant-loop-place
invariant-loop-place l = (k : ℕ) → k < l.place → slice_get l.one k ≡ slice_get l.other k

abbrev pub decreases-loop-place : goal.decreases-loop-place
decreases-loop-place l = length l.one - l.place
