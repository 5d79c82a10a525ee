use Rattle.std.proofs.Common.{◌≡◌, List, [], ◌∷◌, length, map, refl, sym, subst, ◌∙◌}
use Rattle.std.proofs.lemmas.Slice.Zip.{zip_turn, zip_end}
use Rattle.fz_store.specs.declared.Slot.{Slot}
use Rattle.fz_index.specs.of_model.declared.Term.{Term}
use Rattle.fz_index.specs.of_model.Slots.{slot_term}
use Rattle.fz_index.specs.of_model.Meaning.{Partial}
use Rattle.fz_index.specs.of_model.Names.{literal_value}
use Rattle.fz_stream.specs.of_syntax.View.{bare_literal}
use Rattle.fz_stream.specs.of_syntax.declared.Literal.{Literal}
use Rattle.fz_filling.specs.Filling.{pairs}
use Rattle.fz_filling.specs.Working.{IsWithin, with_all}
use Rattle.fz_filling.proofs.Lists.{both_end, mapped_at}
use Rattle.fz_filling.proofs.start.set_elements.Goals as goal

no_literals : (K : Partial) (ts : List Term) → with_all K (pairs ts []) ≡ K
no_literals K [] = refl
no_literals K (t ∷ ts) = refl

pub set_scalar-requires : goal.set_scalar-requires
set_scalar-requires c =
    let t = zip_turn c.args.list.slots.now c.args.literals.now c.loop-slot.yielded c.into_iter-slot-iterator.result c.loop-slot.slot-iterator c.next.new.self c.next.result (cc) (cc) c.loop-slot.yielded_by (c.in-Some.slot, c.in-Some.literal) c.in-Some.is c.next.ensures.steps in
    let slot = c.in-Some.slot.now in
    let here : IsWithin (length c.args.partial.now) (slot_term c.args.list.constants.now slot) =
    mapped_at (IsWithin (length c.args.partial.now)) (slot_term c.args.list.constants.now) c.args.list.slots.now (length c.loop-slot.yielded) slot t.0 (t.2 slot) c.requires.within in
    record { within = subst (IsWithin (length c.loop-slot.partial)) (sym c.scalar_at-scalar.ensures) (subst (λ n. IsWithin n (slot_term c.args.list.constants.now slot)) (sym c.loop-slot.invariant.long) here) }

pub returns : goal.returns
returns c =
    let e = zip_end c.args.list.slots.now c.args.literals.now c.loop-slot.yielded c.into_iter-slot-iterator.result c.loop-slot.slot-iterator c.next.new.self c.next.result (cc) (cc) c.loop-slot.yielded_by c.in-None.is c.next.ensures.steps in
    sym (c.loop-slot.invariant.given
    ∙ both_end (λ (xs : List Slot) (ls : List Literal). with_all c.loop-slot.partial (pairs (map (slot_term c.args.list.constants.now) xs) (map literal_value (map bare_literal ls)))) c.loop-slot.partial (λ ls. refl) (λ xs. no_literals c.loop-slot.partial (map (slot_term c.args.list.constants.now) xs)) c.args.list.slots.now c.args.literals.now (length c.loop-slot.yielded) e)
