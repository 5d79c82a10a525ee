use Rattle.std.proofs.Common.{◌≡◌, ◌++◌, [], map, sym, ap, append-nil, ◌∙◌}
use Rattle.fz_filling.specs.of_model.Meaning.{terms_at}
use Rattle.fz_filling.specs.of_model.Parts.{place_view}
use Rattle.fz_filling.specs.of_model.Slots.{scalar_term}
use Rattle.fz_explain.proofs.Collecting.{no_terms}
use Rattle.fz_explain.proofs.scalars.push_place.Goals as goal

pub returns-in-None : goal.returns-in-None
returns-in-None c =
    let parts = c.args.parts.now in
    let view = place_view parts.variables.now parts.arrays.now parts.store.now.constants.items in
    let before = map scalar_term c.args.scalars.now.items in
    let none : terms_at (view c.args.slot) ≡ [] = ap (λ s. terms_at (view s)) c.in-Array.is ∙ no_terms parts.arrays.now c.in-Array.number c.in-None.ensures.lookup.3 in
    sym (ap (λ ts. before ++ ts) none ∙ append-nil before)
