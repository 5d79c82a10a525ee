use Rattle.std.proofs.Common.{[], subst, sym}
use Rattle.fz_model.specs.Parts.{variable_view}
use Rattle.fz_model.specs.Shown.{point_view}
use Rattle.fz_bounds.specs.Bounds.{NeverHolds}
use Rattle.fz_bounds.proofs.Declared.{domain_never}
use Rattle.fz_bounds.proofs.refuting.parts_fail.Goals as goal

pub returns-in-Domain : goal.returns-in-Domain
returns-in-Domain c = λ out.
    let B = c.args.bounds.now in
    subst (λ p. NeverHolds B (point_view p)) (sym c.in-Domain.is) (domain_never B (variable_view c.in-Domain.variable.now) c.in-Domain.number (c.lies_outside.ensures out))

pub returns-in-Definition : goal.returns-in-Definition
returns-in-Definition c = λ fails.
    subst (λ p. NeverHolds c.args.bounds.now (point_view p)) (sym c.in-Definition.is) (c.definition_fails.ensures fails (variable_view c.in-Definition.field-0.now))

pub returns-in-Elements : goal.returns-in-Elements
returns-in-Elements c = λ fails.
    subst (λ p. NeverHolds c.args.bounds.now (point_view p)) (sym c.in-Elements.is) (c.elements_fail.ensures fails [])
