use Rattle.fz_kernel.specs.Views.{ints}
use Rattle.fz_globals.proofs.Choosing.{AreListed}
use Rattle.fz_globals.proofs.chosen.chosen_numbers.Given as goal

abbrev pub invariant-loop-place : goal.invariant-loop-place
invariant-loop-place l = AreListed l.first (ints l.numbers) l.indices l.place l.listed.items
