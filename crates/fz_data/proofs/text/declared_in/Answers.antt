use Rattle.std.proofs.Common.{List, [], ◌∷◌, ◌++◌, sym, subst, inr}
use Rattle.std.proofs.lemmas.List.{map-append}
use Rattle.fz_store.specs.of_meaning.Located.{Decl as Located}
use Rattle.fz_store.specs.of_meaning.View.{located_decl}
use Rattle.fz_syntax.proofs.Offers.{took_all, took_more, took_none, took_still}
use Rattle.fz_data.specs.Stands.{Declares}
use Rattle.fz_data.proofs.RestOfText.{told_at_decl}
use Rattle.fz_data.proofs.text.declared_in.Goals as goal

pub loop-scope-init : goal.loop-scope-init
loop-scope-init c = record { declared = ([], took_none, c.requires.nothing); kinds = c.requires.kinds }

pub returns-in-Err-clause-refused : goal.returns-in-Err-clause-refused
returns-in-Err-clause-refused c =
    let o = c.loop-scope.invariant.declared in
    let r = c.in_ok-behind_decl-in-Item.ensures.left in
    let one = took_still (c.in-Item.decl ∷ []) (rw c.in-Item.is at c.in_ok-decl.ensures.offers).0 c.in-Err.ensures.same in
    inr (record { rest = (o.0 ++ c.in-Item.decl ∷ r.0.0, r.0.1); left = o.1.all_left _ (one.all_left r.0 r.1); tells = told_at_decl o.0 c.in-Item.decl r.0 c.in-Err.fault o.2.clean (c.in-Err.ensures.tells _ o.2) })

pub loop-scope-preserved : goal.loop-scope-preserved
loop-scope-preserved c =
    let o = c.loop-scope.invariant.declared in
    record {
      declared = (
        o.0 ++ c.in-Item.decl ∷ [],
        took_more _ _ o.1 (took_still (c.in-Item.decl ∷ []) (rw c.in-Item.is at c.in_ok-decl.ensures.offers).0 c.in_default.ensures.same),
        subst (λ (ds : List Located). Declares ds c.take_decl.new.scope) (sym (map-append located_decl o.0 (c.in-Item.decl ∷ []))) (c.in_default.ensures.more _ o.2),
      );
      kinds = c.in_default.ensures.kinds;
    }

pub returns-in-End-clause-declared : goal.returns-in-End-clause-declared
returns-in-End-clause-declared c =
    let o = c.loop-scope.invariant.declared in
    record { decls = o.0; took = took_all _ o.1 (rw c.in-End.is at c.in_ok-decl.ensures.offers); declares = o.2 }
