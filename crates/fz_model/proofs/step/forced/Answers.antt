use Rattle.fz_builtins.specs.of_meaning.Meaning.{points}
use Rattle.fz_builtins.specs.of_meaning.Meaning.Point.{ConstraintPoint, DefinitionPoint, DomainPoint}
use Rattle.fz_builtins.proofs.of_meaning.Lists.{at_place}
use Rattle.fz_builtins.proofs.of_meaning.Points.{points_fit}
use Rattle.fz_builtins.proofs.of_meaning.Steps.{PointFits}
use Rattle.fz_builtins.specs.of_store.Parts.{constraint_view, variable_view}
use Rattle.fz_model.proofs.Gaps.{gives, gives_nothing, forces, forces_nothing}
use Rattle.fz_model.proofs.KindsFit.{known_fits}
use Rattle.fz_model.proofs.step.forced.Goals as goal

pub returns-in-Domain-clause-given : goal.returns-in-Domain-clause-given
returns-in-Domain-clause-given c =
    let m = c.args.model.now in
    let p = DomainPoint (variable_view c.in-Domain.variable.now) c.in-Domain.own in
    gives m c.args.partial.now p (points m) c.args.number c.in-Domain.ensures.parts c.by_domain.result
    (c.by_domain.ensures m c.requires.fits (at_place (PointFits m) (points m) c.args.number p (points_fit m) c.in-Domain.ensures.parts))

pub returns-in-Domain-clause-nothing : goal.returns-in-Domain-clause-nothing
returns-in-Domain-clause-nothing c =
    let m = c.args.model.now in
    let p = DomainPoint (variable_view c.in-Domain.variable.now) c.in-Domain.own in
    gives_nothing m c.args.partial.now p (points m) c.args.number c.in-Domain.ensures.parts c.by_domain.result
    (c.by_domain.ensures m c.requires.fits (at_place (PointFits m) (points m) c.args.number p (points_fit m) c.in-Domain.ensures.parts))

pub returns-in-Definition-clause-given : goal.returns-in-Definition-clause-given
returns-in-Definition-clause-given c =
    let x = variable_view c.in-Definition.field-0.now in
    forces c.args.model.now c.args.partial.now (DefinitionPoint x c.in-Definition.own c.in-Definition.side.now) (points c.args.model.now) c.args.number c.in-Definition.ensures.parts
    c.by_definition.result (c.by_definition.ensures x)

pub returns-in-Definition-clause-nothing : goal.returns-in-Definition-clause-nothing
returns-in-Definition-clause-nothing c =
    let x = variable_view c.in-Definition.field-0.now in
    forces_nothing c.args.model.now c.args.partial.now (DefinitionPoint x c.in-Definition.own c.in-Definition.side.now) (points c.args.model.now) c.args.number c.in-Definition.ensures.parts
    c.by_definition.result (c.by_definition.ensures x)

pub by_row-requires-clause-kinds : goal.by_row-requires-clause-kinds
by_row-requires-clause-kinds c =
    let k = c.in-Constraint.parts in
    known_fits c.args.model.now c.args.partial.now c.requires.fits (constraint_view k) k.posted.now.known c.in-Constraint.ensures.kinds c.in-Constraint.ensures.known

pub returns-in-Constraint-clause-given : goal.returns-in-Constraint-clause-given
returns-in-Constraint-clause-given c =
    let k = c.in-Constraint.parts in
    forces c.args.model.now c.args.partial.now (ConstraintPoint k.number (constraint_view k)) (points c.args.model.now) c.args.number
    c.in-Constraint.ensures.parts c.by_row.result (c.by_row.ensures.forced c.args.model.now c.requires.fits c.in-Constraint.ensures.kinds)

pub returns-in-Constraint-clause-nothing : goal.returns-in-Constraint-clause-nothing
returns-in-Constraint-clause-nothing c =
    let k = c.in-Constraint.parts in
    forces_nothing c.args.model.now c.args.partial.now (ConstraintPoint k.number (constraint_view k)) (points c.args.model.now) c.args.number
    c.in-Constraint.ensures.parts c.by_row.result (c.by_row.ensures.forced c.args.model.now c.requires.fits c.in-Constraint.ensures.kinds)
