use Rattle.std.proofs.Common.{◌≡◌, ◌++◌, drop, map, option_map}
use Rattle.fz_filling.specs.of_model.Slots.{slot_term}
use Rattle.fz_explain.specs.Fixings.{fixed_values}
use Rattle.fz_explain.proofs.fixed.values_of.Given as goal

abbrev pub invariant-loop-slot : goal.invariant-loop-slot
invariant-loop-slot l =
    fixed_values (map (slot_term l.scalars.constants.now) l.scalars.slots.now)
    ≡ option_map (λ more. l.values.items ++ more) (fixed_values (map (slot_term l.scalars.constants.now) (drop l.slot-index l.scalars.slots.now)))
