use Rattle.std.proofs.Common.{◌≡◌, Some, None, length, slice_get, map, refl, sym, subst}
use Rattle.std.specs.Option.{option_map_or}
use Rattle.std.proofs.lemmas.Option.{slice_get_past, slice_get_read}
use Rattle.fz_builtins.specs.of_meaning.Meaning.{terms_at}
use Rattle.fz_builtins.specs.of_store.Parts.{array_view, no_array, place_view}
use Rattle.fz_builtins.specs.of_store.Slots.{slot_term}
use Rattle.fz_model.specs.declared.only.Open.TheVariants.{Nothing}
use Rattle.fz_model.specs.Openings.{AreOpen}
use Rattle.fz_model.proofs.only.open_place.Goals as goal

pub returns-in-Some : goal.returns-in-Some
returns-in-Some c =
    let p = c.args.parts.now in
    let K = c.args.partial.now in
    let n = c.args.target in
    let a = c.in-Some.array.now in
    let found = c.in-Some.ensures.lookup in
    let at : slice_get p.arrays.now c.in-Array.number ≡ Some a = slice_get_read p.arrays.now (length p.arrays.now) c.in-Array.number a refl found.3.0 found.1 in
    subst (λ s. AreOpen K n (terms_at (place_view p.variables.now p.arrays.now p.store.now.constants.items s)) c.open_slots.result) (sym c.in-Array.is)
    (subst (λ o. AreOpen K n (terms_at (option_map_or array_view o no_array)) c.open_slots.result) (sym at)
    (subst (λ ss. AreOpen K n (map (slot_term a.elements.constants.items) ss) c.open_slots.result) c.deref.ensures.value (c.open_slots.ensures a.elements.constants.items)))

pub returns-in-None : goal.returns-in-None
returns-in-None c =
    let p = c.args.parts.now in
    let none : slice_get p.arrays.now c.in-Array.number ≡ None = slice_get_past p.arrays.now c.in-Array.number c.in-None.ensures.lookup.3 in
    subst (λ s. AreOpen c.args.partial.now c.args.target (terms_at (place_view p.variables.now p.arrays.now p.store.now.constants.items s)) Nothing) (sym c.in-Array.is)
    (subst (λ o. AreOpen c.args.partial.now c.args.target (terms_at (option_map_or array_view o no_array)) Nothing) (sym none) (λ L later. refl))
