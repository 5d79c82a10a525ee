use Rattle.std.proofs.Common.{◌≡◌, pos, drop}
use Rattle.fz_kernel.specs.of_meaning.Relations.{rises_by_one}
use Rattle.fz_kernel.specs.Views.{ints}
use Rattle.fz_globals.proofs.precedence.rises_by_one.Given as goal

abbrev pub invariant-loop-place : goal.invariant-loop-place
invariant-loop-place l = rises_by_one (pos 0) (ints l.elements) ≡ rises_by_one l.most (drop l.place (ints l.elements))
