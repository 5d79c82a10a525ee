use Rattle.std.proofs.Common.{◌≡◌, take}
use Rattle.fz_kernel.specs.Views.{ints}
use Rattle.fz_kernel.proofs.arrays.different.numbers_of.Given as goal

abbrev pub invariant-loop-place : goal.invariant-loop-place
invariant-loop-place l = l.numbers.items ≡ take l.place (ints l.elements)
