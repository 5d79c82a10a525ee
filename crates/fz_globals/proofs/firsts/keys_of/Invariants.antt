use Rattle.std.proofs.Common.{◌≡◌, ◌++◌, drop}
use Rattle.fz_kernel.specs.Views.{ints}
use Rattle.fz_globals.specs.Keys.{keys_from}
use Rattle.fz_globals.proofs.firsts.keys_of.Given as goal

abbrev pub invariant-loop-place : goal.invariant-loop-place
invariant-loop-place l = l.keys.items ++ keys_from l.place (drop l.place (ints l.elements)) ≡ keys_from 0 (ints l.elements)
