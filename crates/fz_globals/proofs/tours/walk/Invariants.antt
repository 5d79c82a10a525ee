use Rattle.std.proofs.Common.{◌≡◌, ◌+◌, ◌<◌, pos, Some, length}
use Rattle.fz_kernel.specs.of_meaning.Relations.{as_places, end_of_tour}
use Rattle.fz_kernel.specs.Views.{ints, slots_of}
use Rattle.fz_globals.proofs.Walked.{NotBack}
use Rattle.fz_globals.proofs.tours.walk.Given as goal

abbrev pub invariant-loop-step : goal.invariant-loop-step
invariant-loop-step l =
    let f = as_places l.first (ints l.next) in
    record {
      in_range : l.place < length (slots_of l.next);
      here : end_of_tour f l.step (pos (l.start + 1)) ≡ Some (pos (l.place + 1));
      ahead : NotBack f (pos (l.start + 1)) l.step;
    }
