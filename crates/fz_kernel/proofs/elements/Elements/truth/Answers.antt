use Rattle.fz_kernel.specs.Given.{bool_of}
use Rattle.fz_kernel.specs.Views.{slot_read, under}
use Rattle.fz_kernel.proofs.Kept.{slot_found}
use Rattle.fz_kernel.proofs.elements.Elements.truth.Goals as goal

pub returns : goal.returns
returns c =
    let e = c.args.self.now in
    record { read = slot_found (bool_of (under e)) (slot_read e.constants.now) e.slots.now c.args.index c.slot.result.now c.slot_truth.result c.slot.ensures.there c.slot_truth.ensures }
