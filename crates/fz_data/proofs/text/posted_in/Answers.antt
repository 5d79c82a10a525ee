use Rattle.std.proofs.Common.{List, [], ◌∷◌, ◌++◌, sym, subst, inr}
use Rattle.std.proofs.lemmas.List.{map-append}
use Rattle.fz_store.specs.of_meaning.Located.{Constraint as Located}
use Rattle.fz_store.specs.of_meaning.View.{located_constraint}
use Rattle.fz_syntax.proofs.Offers.{took_left, took_more, took_none, took_still}
use Rattle.fz_data.specs.Posting.{Posts}
use Rattle.fz_data.proofs.OneMore.{posts_none}
use Rattle.fz_data.proofs.RestOfText.{told_at_constraint}
use Rattle.fz_data.proofs.text.posted_in.Goals as goal

pub loop-found-init : goal.loop-found-init
loop-found-init c = ([], took_none, posts_none c.args.scope.now c.args.store.now c.new-found.result.items c.new-found.ensures.items)

pub returns-in-Err-clause-refused : goal.returns-in-Err-clause-refused
returns-in-Err-clause-refused c = λ ds declares.
    let o = c.loop-found.invariant in
    let r = c.in_ok-behind_constraint-in-Item.ensures.left in
    let one = took_still (c.in-Item.constraint ∷ []) (rw c.in-Item.is at c.in_ok-constraint.ensures.offers).0 c.in-Err.ensures.same in
    inr (record { rest = (o.0 ++ c.in-Item.constraint ∷ r.0.0, r.0.1); left = o.1.all_left _ (one.all_left r.0 r.1); tells = told_at_constraint ds o.0 c.in-Item.constraint r.0 c.args.scope.now c.in-Err.fault declares o.2.clean c.in-Err.ensures.tells })

pub loop-found-preserved : goal.loop-found-preserved
loop-found-preserved c =
    let o = c.loop-found.invariant in (
      o.0 ++ c.in-Item.constraint ∷ [],
      took_more _ _ o.1 (took_still (c.in-Item.constraint ∷ []) (rw c.in-Item.is at c.in_ok-constraint.ensures.offers).0 c.in_default.ensures.same),
      subst (λ (cs : List Located). Posts c.args.scope.now cs c.take_constraint.new.store c.take_constraint.new.found.items) (sym (map-append located_constraint o.0 (c.in-Item.constraint ∷ []))) (c.in_default.ensures.more _ o.2),
    )

pub returns-in-End-clause-posted : goal.returns-in-End-clause-posted
returns-in-End-clause-posted c =
    let o = c.loop-found.invariant in
    record { constraints = o.0; left = took_left _ o.1 (rw c.in-End.is at c.in_ok-constraint.ensures.offers); posts = o.2 }
