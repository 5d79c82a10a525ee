use Rattle.fz_kernel.specs.Views.{sets}
use Rattle.fz_globals.proofs.Choosing.{IsUnited}
use Rattle.fz_globals.proofs.chosen.union_of_chosen.Given as goal

abbrev pub invariant-loop-place : goal.invariant-loop-place
invariant-loop-place l = IsUnited (sets l.parts) l.indices l.place l.union
