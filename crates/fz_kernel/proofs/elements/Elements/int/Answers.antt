use Rattle.std.proofs.Common.{rules, FitsSigned, w64}
use Rattle.std.proofs.lemmas.Int.{to_z-of_z}
use Rattle.fz_kernel.specs.Given.{int_of}
use Rattle.fz_kernel.specs.Views.{slot_read, under}
use Rattle.fz_kernel.proofs.Kept.{slot_found}
use Rattle.fz_kernel.proofs.elements.Elements.int.Goals as goal

pub returns : goal.returns
returns c =
    let e = c.args.self.now in
    let fits : FitsSigned w64 c.slot_int.result = search rules in
    simp to_z-of_z (record { read = slot_found (int_of (under e)) (slot_read e.constants.now) e.slots.now c.args.index c.slot.result.now c.slot_int.result c.slot.ensures.there c.slot_int.ensures })
