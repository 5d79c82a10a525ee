use Rattle.std.proofs.Common.{refl, ap, ◌∙◌}
use Rattle.fz_builtins.proofs.of_meaning.Values.{no}
use Rattle.fz_builtins.specs.of_meaning.Known.{known_row}
use Rattle.fz_builtins.specs.of_kernel.Views.{arguments_of, assigned}
use Rattle.fz_model.proofs.Tables.{same_numbers, unit_row, unit_shapes, unit_wide}
use Rattle.fz_model.proofs.Units.{element_left, elsewhere, read_as_none}
use Rattle.fz_model.proofs.row.element_left.Goals as goal
use Rattle.fz_model.proofs.row.element_left.Goals.{then-spot-ne1-via-then-spot-ne1, then-spot-ne1-via-else-spot-ne1+then-not-has_unit}

pub returns-then-spot-ne1 : goal.returns-then-spot-ne1
returns-then-spot-ne1 c =
    let K = assigned c.args.view.now in
    let xs = arguments_of c.args.view.now in
    let r = known_row c.args.known in
    let row = unit_row c.args.known c.requires.unit_term in
    let shapes = ap (λ q. q.shapes) row ∙ unit_shapes in
    λ within w f.
    let found = elsewhere K xs r c.args.spot c.requires.ready shapes within w (rw c.requires.unit_term at f.result) in
    elim c.then-spot-ne1.branch [
      | then-spot-ne1-via-then-spot-ne1 v ↦ v.if-spot-ne1.true found.0
      | then-spot-ne1-via-else-spot-ne1+then-not-has_unit v ↦ no (v.if-not-has_unit.ensures.1 found.1)
    ]

pub unit_value-requires-clause-open : goal.unit_value-requires-clause-open
unit_value-requires-clause-open c =
    let row = unit_row c.args.known c.requires.unit_term in
    read_as_none (assigned c.args.view.now) (arguments_of c.args.view.now) (known_row c.args.known) c.args.spot c.requires.ready (ap (λ q. q.shapes) row ∙ unit_shapes) c.if-spot-ne1.false

pub returns : goal.returns
returns c =
    let K = assigned c.args.view.now in
    let xs = arguments_of c.args.view.now in
    let r = known_row c.args.known in
    let row = unit_row c.args.known c.requires.unit_term in
    let shapes = ap (λ q. q.shapes) row ∙ unit_shapes in
    element_left K xs r c.args.spot c.requires.ready shapes c.if-spot-ne1.false row c.requires.unit_term (ap (λ q. q.wide) row ∙ unit_wide)
    (same_numbers K xs r c.requires.row c.requires.ready.shaped) (c.if-not-has_unit.ensures.0 refl) c.unit_value.result c.unit_value.ensures.left c.unit_value.ensures.too_large
