use Rattle.std.proofs.Common.{◌≡◌, ◌+◌, ◌<◌, pos, Some, length}
use Rattle.fz_model.specs.Meaning.{Partial}
use Rattle.fz_model.specs.Relations.{as_places, end_of_tour}
use Rattle.fz_model.specs.of_builtins.of_kernel.Given.{int_at, ints_at, slots_at}
use Rattle.fz_bounds.specs.Within.{NumberLies, NumbersLie, given}
use Rattle.fz_bounds.proofs.bounded.BoundedConstraint.ring_from.Given as goal

abbrev pub invariant-loop-step : goal.invariant-loop-step
invariant-loop-step l = record {
  in_range : l.place < length (slots_at (given l.self) 1);
  here : (K : Partial) → NumberLies l.self 0 K → NumbersLie l.self 1 K → end_of_tour
      (as_places (int_at K (given l.self) 0) (ints_at K (given l.self) 1)) l.step (pos (l.start + 1))
      ≡ Some (pos (l.place + 1));
}
