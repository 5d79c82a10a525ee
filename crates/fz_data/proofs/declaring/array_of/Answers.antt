use Rattle.std.proofs.Common.{Some, subst}
use Rattle.std.proofs.lemmas.Result.{err_from_is_err_and}
use Rattle.fz_store.specs.of_meaning.View.{Tells}
use Rattle.fz_store.specs.of_meaning.Names.{parts_fault}
use Rattle.fz_data.specs.Scope.{kinds_in}
use Rattle.fz_data.proofs.declaring.array_of.Goals as goal

pub returns-in_err-elements-clause-tells : goal.returns-in_err-elements-clause-tells
returns-in_err-elements-clause-tells c =
    let p = err_from_is_err_and c.from_residual.result c.from_residual.ensures.1 in
    rw (p.1, p.2) (subst (Tells c.in_err-elements.field-0.0) (λ i. parts_fault (kinds_in c.args.scope.now) (Some (c.base_kind-kind.ensures i)) (c.value_parts.ensures i)) c.in_err-elements.ensures.tells)
