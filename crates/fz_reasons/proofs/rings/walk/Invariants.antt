use Rattle.std.proofs.Common.{◌≡◌, Some}
use Rattle.fz_builtins.specs.of_meaning.Relations.{as_places, end_of_tour}
use Rattle.fz_builtins.specs.of_kernel.Views.{ints}
use Rattle.fz_reasons.proofs.rings.walk.Given as goal

abbrev pub invariant-loop-step : goal.invariant-loop-step
invariant-loop-step l = end_of_tour (as_places l.first (ints l.next)) l._step l.start ≡ Some l.position
