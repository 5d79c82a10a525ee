use Rattle.std.proofs.Common.{◌+◌, ◌∷◌, [], Some, IfSome, drop, map, refl, sym, ap, subst, ◌∙◌}
use Rattle.fz_builtins.specs.of_meaning.declared.term.Term.TheVariants.{Var}
use Rattle.fz_builtins.specs.of_meaning.Steps.{open_terms}
use Rattle.fz_builtins.specs.of_store.Slots.{slot_term}
use Rattle.fz_model.proofs.Opens.{SoFar, StandsAmong, alone, ends, finds, finds_twice, front, goes_on, has_other}
use Rattle.fz_model.proofs.StoredScalars.{mapped_at}
use Rattle.fz_model.proofs.only.open_slots.Goals as goal
use Rattle.fz_model.proofs.only.open_slots.Goals.{in-Nothing, in-Target+in-None}

pub returns-in-Other : goal.returns-in-Other
returns-in-Other c = λ cs.
    has_other c.args.partial.now c.args.target (map (slot_term cs)) (λ s. slot_term cs s ∷ []) (λ s ss. refl) c.args.slots.now c.loop-place.place c.item_at.result.now c.item_at.ensures c.loop-place.found (c.loop-place.invariant.seen cs)
    c.in-Other.other (c.in-Other.ensures cs)

pub returns-in-Some : goal.returns-in-Some
returns-in-Some c = λ cs.
    let (unset, _, one) = c.in-Target.ensures cs in
    finds_twice c.args.partial.now c.args.target (map (slot_term cs)) (λ s. slot_term cs s ∷ []) (λ s ss. refl) c.args.slots.now c.loop-place.place c.item_at.result.now c.item_at.ensures c.loop-place.found (c.loop-place.invariant.seen cs)
    one c.in-Some.field-0 c.in-Some.is unset

pub loop-place-preserved : goal.loop-place-preserved
loop-place-preserved c =
    let K = c.args.partial.now in
    let n = c.args.target in
    let ss = c.args.slots.now in
    let i = c.loop-place.place in
    let s = c.item_at.result.now in
    elim c.match-open_slot.branch [
      | in-Nothing w ↦ record {
        seen = λ cs. subst (SoFar K n (map (slot_term cs) ss) (map (slot_term cs) (drop (i + 1) ss))) (sym w.found-is) (goes_on K n (map (slot_term cs)) (λ z. slot_term cs z ∷ []) (λ z zs. refl) ss i s c.item_at.ensures c.loop-place.found (c.loop-place.invariant.seen cs) (w.in-Nothing.ensures cs));
        stands = subst (λ o. IfSome o (StandsAmong K n ss)) (sym w.found-is) c.loop-place.invariant.stands;
      }
      | in-Target+in-None w ↦ record {
        seen = λ cs. subst (SoFar K n (map (slot_term cs) ss) (map (slot_term cs) (drop (i + 1) ss))) (sym w.found-is) (finds K n (map (slot_term cs)) (λ z. slot_term cs z ∷ []) (λ z zs. refl) ss i s c.item_at.ensures c.loop-place.found (c.loop-place.invariant.seen cs) (w.in-Target.ensures cs).2 i w.in-None.is);
        stands = subst (λ o. IfSome o (StandsAmong K n ss)) (sym w.found-is) ((w.in-Target.ensures []).0, λ cs. sym (mapped_at (slot_term cs) ss i s c.item_at.ensures) ∙ ap Some (alone (slot_term cs s) (Var n) w.in-Target.field-0 (w.in-Target.ensures cs).1));
      }
    ]

pub returns-in-Some-found : goal.returns-in-Some-found
returns-in-Some-found c = λ cs.
    let one = ends c.args.partial.now c.args.target (map (slot_term cs)) c.args.slots.now c.loop-place.place c.loop-place.found refl c.loop-place-test.false (c.loop-place.invariant.seen cs) in
    let (unset, stands) = subst (λ o. IfSome o (StandsAmong c.args.partial.now c.args.target c.args.slots.now)) c.in-Some-found.is c.loop-place.invariant.stands in
    (unset, stands cs, λ L later. one L later ∙ (λ j. open_terms L (front c.args.target (c.in-Some-found.is j))))

pub returns-in-None-found : goal.returns-in-None-found
returns-in-None-found c = λ cs L later.
    ends c.args.partial.now c.args.target (map (slot_term cs)) c.args.slots.now c.loop-place.place c.loop-place.found refl c.loop-place-test.false (c.loop-place.invariant.seen cs) L later
    ∙ (λ j. open_terms L (front c.args.target (c.in-None-found.is j)))
