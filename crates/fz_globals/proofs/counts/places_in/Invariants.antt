use Rattle.std.specs.FinSet.{contains}
use Rattle.fz_kernel.specs.Views.{ints}
use Rattle.fz_globals.proofs.Each.{IsTold}
use Rattle.fz_globals.proofs.counts.places_in.Given as goal

abbrev pub invariant-loop-place : goal.invariant-loop-place
invariant-loop-place l = IsTold (contains l.values) (ints l.elements) l.place l.count
