use Rattle.std.proofs.Common.{◌≡◌, drop}
use Rattle.fz_kernel.specs.of_meaning.Relations.{precedes_in_sets}
use Rattle.fz_kernel.specs.Views.{sets}
use Rattle.fz_globals.proofs.precedence.precedes_in_sets.Given as goal

abbrev pub invariant-loop-place : goal.invariant-loop-place
invariant-loop-place l = precedes_in_sets l.first l.second (sets l.parts) ≡ precedes_in_sets l.first l.second (drop l.place (sets l.parts))
