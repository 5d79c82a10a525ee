use Rattle.std.proofs.Common.{Some, subst}
use Rattle.std.proofs.lemmas.Result.{err_from_is_err_and}
use Rattle.fz_store.specs.of_meaning.View.{Tells, located_value}
use Rattle.fz_store.specs.of_meaning.Names.{parts, parts_fault}
use Rattle.fz_data.specs.Scope.{kinds_in}
use Rattle.fz_data.proofs.declaring.variable_of.Goals as goal

pub returns-in_err-definition-clause-tells : goal.returns-in_err-definition-clause-tells
returns-in_err-definition-clause-tells c =
    let p = err_from_is_err_and c.from_residual.result c.from_residual.ensures.1 in
    rw (p.1, p.2) (subst (Tells c.in_err-definition.field-0.0) (λ i. parts_fault (kinds_in c.args.scope.now) (Some (c.base_kind-kind.ensures i)) (parts (located_value c.args.decl.now.value))) c.in_err-definition.ensures.tells)
