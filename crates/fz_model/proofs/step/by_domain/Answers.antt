use Rattle.std.proofs.Common.{FitsSigned, w64, refl, rules}
use Rattle.std.proofs.lemmas.Int.{to_z-of_z}
use Rattle.fz_builtins.specs.of_store.Parts.{variable_view}
use Rattle.fz_model.proofs.Gaps.{gone}
use Rattle.fz_model.proofs.Sides.{domain_forces}
use Rattle.fz_model.proofs.step.by_domain.Goals as goal

pub returns : goal.returns
returns c =
    let fits : FitsSigned w64 c.in_ok-only.only = search rules in
    let none = gone c.get.result _ c.if-is_some.ensures c.get.ensures.looked_up in
    rw to_z-of_z
    (λ m partial own. domain_forces m c.args.partial.now partial (variable_view c.args.variable.now) c.args.number c.in_ok-only.only own (c.if-not-is_int.ensures.0 refl) none fits c.in_ok-only.ensures.exact)
