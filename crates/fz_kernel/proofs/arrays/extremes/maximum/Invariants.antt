use Rattle.std.proofs.Common.{◌≡◌, true, take}
use Rattle.fz_kernel.specs.Views.{ints}
use Rattle.fz_kernel.proofs.Best.{is_best, not_above}
use Rattle.fz_kernel.proofs.arrays.extremes.maximum.Given as goal

abbrev pub invariant-loop-place : goal.invariant-loop-place
invariant-loop-place l = is_best not_above l.greatest (take l.place (ints l.elements)) ≡ true
