use Rattle.std.proofs.Common.{List, sym, subst}
use Rattle.std.proofs.lemmas.Result.{err_from_is_err_and}
use Rattle.fz_store.specs.of_meaning.Located.{Decl}
use Rattle.fz_store.specs.of_meaning.View.{located_decl}
use Rattle.fz_store.proofs.of_meaning.ScanSteps.{take_one_more, decls_stops}
use Rattle.fz_data.specs.Stands.{Declares}
use Rattle.fz_data.proofs.Tells.{tells_further}
use Rattle.fz_data.proofs.loading.declared.Goals as goal

pub returns-in_err-declare-clause-tells : goal.returns-in_err-declare-clause-tells
returns-in_err-declare-clause-tells c =
    let p = err_from_is_err_and c.from_residual-in_err-declare.result c.from_residual-in_err-declare.ensures.1 in
    let h = c.loop-decl.invariant.declares in
    rw (p.1, p.2) (tells_further _ _ _ (λ y here. decls_stops located_decl c.args.decls.now c.loop-decl.decl-index c.decl-item.result y c.loop-decl-test.true c.decl-item.is h.clean here) (c.in_err-declare.ensures.tells _ h))

pub loop-decl-preserved : goal.loop-decl-preserved
loop-decl-preserved c = record {
  declares = subst (λ (ds : List Decl). Declares ds c.declare.new.scope) (sym (take_one_more located_decl c.args.decls.now c.loop-decl.decl-index c.decl-item.result c.loop-decl-test.true c.decl-item.is))
      (c.in_ok-declare.ensures.more _ c.loop-decl.invariant.declares);
  kinds = c.in_ok-declare.ensures.kinds;
}
