use Rattle.fz_kernel.specs.Given.{set_of_slot}
use Rattle.fz_kernel.specs.Views.{slot_read, under}
use Rattle.fz_kernel.proofs.Kept.{slot_found}
use Rattle.fz_kernel.proofs.elements.Elements.set.Goals as goal

pub returns : goal.returns
returns c =
    let e = c.args.self.now in
    record { read = slot_found (set_of_slot (under e)) (slot_read e.constants.now) e.slots.now c.args.index c.slot.result.now c.slot_set.result.now c.slot.ensures.there c.slot_set.ensures }
