use Rattle.std.proofs.Common.{◌≡◌, drop}
use Rattle.fz_kernel.specs.of_meaning.Relations.{precedes}
use Rattle.fz_kernel.specs.Views.{ints}
use Rattle.fz_globals.proofs.precedence.precedes.Given as goal

abbrev pub invariant-loop-place : goal.invariant-loop-place
invariant-loop-place l = precedes l.first l.second (ints l.elements) ≡ precedes l.first l.second (drop l.place (ints l.elements))
