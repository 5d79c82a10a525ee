use Rattle.fz_kernel.specs.of_meaning.Relations.{◌=ℤ◌}
use Rattle.fz_kernel.specs.Views.{ints}
use Rattle.fz_globals.proofs.Each.{IsTold}
use Rattle.fz_globals.proofs.counts.places_of.Given as goal

abbrev pub invariant-loop-place : goal.invariant-loop-place
invariant-loop-place l = IsTold (λ x. x =ℤ l.value) (ints l.elements) l.place l.count
