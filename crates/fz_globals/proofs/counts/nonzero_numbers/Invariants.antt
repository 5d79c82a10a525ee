use Rattle.std.proofs.Common.{◌≡◌, take, filter}
use Rattle.fz_kernel.specs.of_meaning.Relations.{is_nonzero}
use Rattle.fz_kernel.specs.Views.{ints}
use Rattle.fz_globals.proofs.counts.nonzero_numbers.Given as goal

abbrev pub invariant-loop-place : goal.invariant-loop-place
invariant-loop-place l = l.numbers.items ≡ filter is_nonzero (take l.place (ints l.elements))
