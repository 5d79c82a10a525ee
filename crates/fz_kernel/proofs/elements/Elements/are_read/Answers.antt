use Rattle.std.proofs.Common.{sym, ◌∙◌}
use Rattle.std.proofs.lemmas.List.Folds.{list_all-map}
use Rattle.fz_kernel.specs.Given.{is_read}
use Rattle.fz_kernel.specs.Views.{slot_read, under}
use Rattle.fz_kernel.proofs.elements.Elements.are_read.Goals as goal

pub returns : goal.returns
returns c =
    let e = c.args.self.now in
    c.slots_are_read.ensures ∙ sym (list_all-map (is_read (under e) c.args.kind) (slot_read e.constants.now) e.slots.now)
