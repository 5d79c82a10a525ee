use Rattle.std.proofs.Common.{refl, sym, ◌∙◌, subst}
use Rattle.fz_builtins.proofs.of_meaning.Values.{no}
use Rattle.fz_builtins.specs.of_meaning.Known.{known_row}
use Rattle.fz_builtins.specs.of_kernel.Views.{arguments_of, assigned}
use Rattle.fz_model.specs.Left.{IsPlaceOf}
use Rattle.fz_model.proofs.Held.{nothing_placed}
use Rattle.fz_model.proofs.Tables.{same_numbers}
use Rattle.fz_model.proofs.Chosen.{scalar_chosen}
use Rattle.fz_model.proofs.row.value_at.Goals as goal

pub returns-then-is_place : goal.returns-then-is_place
returns-then-is_place c =
    let K = assigned c.args.view.now in
    let xs = arguments_of c.args.view.now in
    let r = known_row c.args.known in
    let place = subst (λ o. IsPlaceOf o c.args.spot.argument) c.filled-2.ensures (c.if-is_place.ensures.0 refl) in
    scalar_chosen K xs r c.args.spot c.requires.ready place (same_numbers K xs r c.requires.row c.requires.ready.shaped)
    c.left_value.result c.left_value.ensures

pub returns : goal.returns
returns c =
    let K = assigned c.args.view.now in
    let xs = arguments_of c.args.view.now in
    let r = known_row c.args.known in
    nothing_placed K xs r c.args.spot c.requires.ready
    (λ place k is. no (c.if-is_place.ensures.1 (subst (λ o. IsPlaceOf o c.args.spot.argument) (sym c.filled-2.ensures) place)))
    (λ unit. no (c.if-is_unit_term.ensures.1 (c.filled.ensures ∙ unit)))
