use Rattle.std.proofs.Common.{◌≡◌, drop}
use Rattle.fz_kernel.specs.Views.{bools}
use Rattle.fz_kernel.proofs.Passed.{turned, odd_of}
use Rattle.fz_kernel.proofs.arrays.truths.odd_number_true.Given as goal

abbrev pub invariant-loop-place : goal.invariant-loop-place
invariant-loop-place l = odd_of (bools l.elements) ≡ turned l.odd (odd_of (drop l.place (bools l.elements)))
