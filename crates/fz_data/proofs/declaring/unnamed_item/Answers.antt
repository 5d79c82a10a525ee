use Rattle.std.proofs.Common.{Some, sym, ◌∙◌, subst}
use Rattle.std.proofs.lemmas.Result.{err_from_is_err_and}
use Rattle.fz_store.specs.of_meaning.View.{Tells, located_value}
use Rattle.fz_store.specs.of_meaning.Names.{parts, parts_fault}
use Rattle.fz_data.specs.Scope.{kinds_in}
use Rattle.fz_data.proofs.declaring.unnamed_item.Goals as goal

pub returns-in_err-value-clause-tells : goal.returns-in_err-value-clause-tells
returns-in_err-value-clause-tells c =
    let p = err_from_is_err_and c.from_residual-in_err-value.result c.from_residual-in_err-value.ensures.1 in
    rw (p.1, p.2) (subst (Tells c.in_err-value.field-0.0) (λ i. parts_fault (kinds_in c.args.scope.now) (Some (c.base_kind.ensures i)) (parts (located_value c.args.decl.now.value))) (c.in_err-value.ensures.tells c.args.scope.now))

pub returns-clause-clean : goal.returns-clause-clean
returns-clause-clean c = (λ i. parts_fault (kinds_in c.args.scope.now) (Some (sym c.base_kind.ensures i)) (parts (located_value c.args.decl.now.value))) ∙ c.in_ok-value.ensures.clean c.args.scope.now
