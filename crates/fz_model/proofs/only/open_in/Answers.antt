use Rattle.std.proofs.Common.{map, sym, ap, subst, ◌∙◌}
use Rattle.fz_builtins.specs.of_store.Slots.{segment, slot_term}
use Rattle.fz_model.specs.Openings.{AreOpen, IsFlat, terms_of}
use Rattle.fz_model.proofs.StoredScalars.{flat_terms}
use Rattle.fz_model.proofs.only.open_in.Goals as goal

pub returns-in-List : goal.returns-in-List
returns-in-List c =
    let p = c.args.parts.now in
    let cs = p.store.now.constants.items in
    let ss = segment p.store.now.slots.items c.in-List.at in
    let here = c.part.ensures ∙ ap (λ zs. segment zs c.in-List.at) c.deref.ensures.value in
    let flat = subst (IsFlat p) c.in-List.is c.requires.flat in
    subst (λ a. AreOpen c.args.partial.now c.args.target (terms_of p a) c.open_slots.result) (sym c.in-List.is)
    (subst (λ ts. AreOpen c.args.partial.now c.args.target ts c.open_slots.result) (ap (map (slot_term cs)) here ∙ flat_terms p.variables.now p.arrays.now cs ss flat) (c.open_slots.ensures cs))
