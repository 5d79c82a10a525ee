use Rattle.std.proofs.Common.{◌<◌, length, arith}
use Rattle.std.proofs.lemmas.List.{length-map}
use Rattle.fz_kernel.specs.Views.{slot_read, slots_of}
use Rattle.fz_kernel.proofs.elements.Elements.slot.Goals as goal

pub bounds-self-index : goal.bounds-self-index
bounds-self-index c =
    let e = c.args.self.now in
    let h : c.args.index < length (slots_of e) = c.requires.in_range in
    omega (arith, h, length-map e.slots.now (slot_read e.constants.now))
