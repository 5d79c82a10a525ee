use Rattle.std.proofs.Common.{◌≡◌, ◌++◌, map, take}
use Rattle.fz_filling.specs.of_model.Slots.{scalar_term, slot_term}
use Rattle.fz_explain.proofs.scalars.push_list.Given as goal

abbrev pub invariant-loop-slot : goal.invariant-loop-slot
invariant-loop-slot l = map scalar_term l.scalars.items ≡ map scalar_term l.fn.scalars.items ++ map (slot_term l.constants) (take l.slot-index l.slots)
