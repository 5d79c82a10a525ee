use Rattle.std.proofs.Common.{◌+◌, ◌∷◌, [], Some, IfSome, cond, drop, is_none, slice_get, refl, sym, ap, subst, ◌∙◌}
use Rattle.std.specs.Option.{option_map_or}
use Rattle.fz_builtins.specs.of_meaning.declared.term.Term.TheVariants.{Var}
use Rattle.fz_builtins.specs.of_meaning.Meaning.{terms_in}
use Rattle.fz_builtins.specs.of_meaning.Steps.{open_terms}
use Rattle.fz_builtins.proofs.of_meaning.Lists.{at_place}
use Rattle.fz_builtins.specs.of_store.Parts.{argument_view}
use Rattle.fz_model.specs.declared.only.Spot.{Spot}
use Rattle.fz_model.specs.Openings.{IsFlat, posted_with, terms_of}
use Rattle.fz_model.proofs.Opens.{SoFar, StandsIn, ends, finds, finds_twice, front, goes_on, has_other, never_there, scalars, waits_for}
use Rattle.fz_model.proofs.StoredScalars.{mapped_at}
use Rattle.fz_model.proofs.only.opening_among.Goals as goal
use Rattle.fz_model.proofs.only.opening_among.Goals.{in-Nothing, in-Target+in-None}

pub open_in-requires : goal.open_in-requires
open_in-requires c = record { flat = at_place (IsFlat c.args.parts.now) c.args.arguments.now c.loop-number.number c.item_at.result.now c.requires.flat c.item_at.ensures }

pub returns-in-Other-clause-opening : goal.returns-in-Other-clause-opening
returns-in-Other-clause-opening c =
    let p = c.args.parts.now in
    let n = c.args.target in
    waits_for c.args.partial.now (posted_with p c.args.arguments.now n) n refl c.in-Other.other
    (has_other c.args.partial.now n (λ bs. scalars (posted_with p bs n)) (terms_of p) (λ a as'. refl) c.args.arguments.now c.loop-number.number c.item_at.result.now c.item_at.ensures c.loop-number.found c.loop-number.invariant.seen c.in-Other.other c.in-Other.ensures)

pub returns-in-Some-clause-opening : goal.returns-in-Some-clause-opening
returns-in-Some-clause-opening c =
    let p = c.args.parts.now in
    let n = c.args.target in
    waits_for c.args.partial.now (posted_with p c.args.arguments.now n) n refl n
    (finds_twice c.args.partial.now n (λ bs. scalars (posted_with p bs n)) (terms_of p) (λ a as'. refl) c.args.arguments.now c.loop-number.number c.item_at.result.now c.item_at.ensures c.loop-number.found c.loop-number.invariant.seen c.in-Target.ensures.2 c.in-Some.field-0 c.in-Some.is c.in-Target.ensures.0)

pub loop-number-preserved : goal.loop-number-preserved
loop-number-preserved c =
    let K = c.args.partial.now in
    let p = c.args.parts.now in
    let n = c.args.target in
    let as' = c.args.arguments.now in
    let i = c.loop-number.number in
    let a = c.item_at.result.now in
    elim c.match-open_in.branch [
      | in-Nothing w ↦ record {
        seen = subst (SoFar K n (scalars (posted_with p as' n)) (scalars (posted_with p (drop (i + 1) as') n))) (sym w.found-is) (goes_on K n (λ bs. scalars (posted_with p bs n)) (terms_of p) (λ b bs. refl) as' i a c.item_at.ensures c.loop-number.found c.loop-number.invariant.seen w.in-Nothing.ensures);
        stands = subst (λ o. IfSome o (StandsIn K n (posted_with p as' n))) (sym w.found-is) c.loop-number.invariant.stands;
      }
      | in-Target+in-None w ↦
          let spot : Spot = record { variable = n; argument = i; place = w.in-Target.place } in
          let here = ap (λ o. slice_get (option_map_or terms_in o []) w.in-Target.place) (sym (mapped_at (argument_view p.variables.now p.arrays.now p.store.now) as' i a c.item_at.ensures)) in
          record {
            seen = subst (SoFar K n (scalars (posted_with p as' n)) (scalars (posted_with p (drop (i + 1) as') n))) (sym w.found-is) (finds K n (λ bs. scalars (posted_with p bs n)) (terms_of p) (λ b bs. refl) as' i a c.item_at.ensures c.loop-number.found c.loop-number.invariant.seen w.in-Target.ensures.2 spot w.in-None.is);
            stands = subst (λ o. IfSome o (StandsIn K n (posted_with p as' n))) (sym w.found-is) (w.in-Target.ensures.0, refl, here ∙ w.in-Target.ensures.1);
          }
    ]

pub returns-in-Some-found-clause-opening : goal.returns-in-Some-found-clause-opening
returns-in-Some-found-clause-opening c =
    let K = c.args.partial.now in
    let n = c.args.target in
    let as' = c.args.arguments.now in
    let (unset, is, stands) = subst (λ o. IfSome o (StandsIn K n (posted_with c.args.parts.now as' n))) c.in-Some-found.is c.loop-number.invariant.stands in
    let one = ends K n (λ bs. scalars (posted_with c.args.parts.now bs n)) as' c.loop-number.number c.loop-number.found refl c.loop-number-test.false c.loop-number.invariant.seen K (λ k v e. e) in
    record {
      target = ap Some (sym is);
      only_open = one ∙ (λ j. open_terms K (front n (c.in-Some-found.is j))) ∙ ap (λ o. cond (is_none o) (Var n ∷ []) []) unset ∙ ap (λ j. Var j ∷ []) (sym is);
      stands = stands ∙ ap (λ j. Some (Var j)) (sym is);
    }

pub returns-in-None-found-clause-opening : goal.returns-in-None-found-clause-opening
returns-in-None-found-clause-opening c =
    let n = c.args.target in
    let none = ends c.args.partial.now n (λ bs. scalars (posted_with c.args.parts.now bs n)) c.args.arguments.now c.loop-number.number c.loop-number.found refl c.loop-number-test.false c.loop-number.invariant.seen in
    never_there c.args.partial.now (posted_with c.args.parts.now c.args.arguments.now n) n refl (λ L later. none L later ∙ (λ j. open_terms L (front n (c.in-None-found.is j))))

pub returns-in-None-found-clause-none_open : goal.returns-in-None-found-clause-none_open
returns-in-None-found-clause-none_open c = λ never.
    let n = c.args.target in
    let K = c.args.partial.now in
    ends K n (λ bs. scalars (posted_with c.args.parts.now bs n)) c.args.arguments.now c.loop-number.number c.loop-number.found refl c.loop-number-test.false c.loop-number.invariant.seen K (λ k v e. e)
    ∙ (λ j. open_terms K (front n (c.in-None-found.is j)))
