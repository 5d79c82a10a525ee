use Rattle.std.proofs.Common.{◌≡◌, take}
use Rattle.fz_builtins.specs.of_kernel.Views.{slots_of, under}
use Rattle.fz_reasons.specs.Reasons.{numbers_of}
use Rattle.fz_reasons.proofs.readings.numbers_in.Given as goal

abbrev pub invariant-loop-place : goal.invariant-loop-place
invariant-loop-place l = l.numbers.items ≡ take l.place (numbers_of l.kind (under l.elements) (slots_of l.elements))
