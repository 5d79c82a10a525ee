use Rattle.std.proofs.Common.{◌≡◌, ◌++◌, flat_map, map, take}
use Rattle.fz_filling.specs.of_model.Meaning.{terms_at}
use Rattle.fz_filling.specs.of_model.Parts.{place_view}
use Rattle.fz_filling.specs.of_model.Slots.{scalar_term}
use Rattle.fz_explain.proofs.scalars.push_places.Given as goal

abbrev pub invariant-loop-slot : goal.invariant-loop-slot
invariant-loop-slot l =
    map scalar_term l.scalars.items
    ≡ map scalar_term l.fn.scalars.items ++ flat_map terms_at (map (place_view l.parts.variables.now l.parts.arrays.now l.parts.store.now.constants.items) (take l.slot-index l.slots))
