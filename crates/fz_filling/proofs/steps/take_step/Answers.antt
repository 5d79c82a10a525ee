use Rattle.std.proofs.Common.{refl, sym, ap, subst, arith}
use Rattle.std.proofs.lemmas.Option.{slice_get_within}
use Rattle.fz_index.specs.of_model.Meaning.{IsPartial, points}
use Rattle.fz_index.specs.of_model.Partial.{unset_count}
use Rattle.fz_filling.specs.Filling.{IsGivenBy}
use Rattle.fz_filling.specs.Givers.{AddsSteps}
use Rattle.fz_filling.specs.declared.steps.Giver.{Giver}
use Rattle.fz_filling.proofs.Furthering.{adds_nothing, adds_one}
use Rattle.fz_filling.proofs.Running.{given_fits, given_unset, given_within, one_fewer}
use Rattle.fz_filling.proofs.Stepping.{point_gives}
use Rattle.fz_filling.proofs.steps.take_step.Goals as goal

pub returns-then-point-points-clause-steps : goal.returns-then-point-points-clause-steps
returns-then-point-points-clause-steps c = adds_nothing c.args.completion c.args.model.now c.args.partial.now c.args.steps.now

pub returns-then-point-points-clause-none : goal.returns-then-point-points-clause-none
returns-then-point-points-clause-none c = λ _. (
  refl,
  λ p at. absurd (
      let within = slice_get_within (points c.args.model.now) c.args.point p at in
      omega (arith, within, c.points.ensures.counted, c.if-point-points.true)),
)

pub returns-in_default-clause-steps : goal.returns-in_default-clause-steps
returns-in_default-clause-steps c = adds_nothing c.args.completion c.args.model.now c.args.partial.now c.args.steps.now

pub set-requires-clause-in_range : goal.set-requires-clause-in_range
set-requires-clause-in_range c =
    let (p, at, g) = point_gives c.args.model.now (IsGivenBy c.args.completion c.args.model.now c.args.partial.now) c.args.point c.in-Some.variable c.in-Some.value c.in_ok-variable.field-0 c.points.result c.in-Some.is c.points.ensures.counted c.if-point-points.false c.in_ok-variable.ensures.given in
    given_within c.args.completion c.args.model.now c.args.partial.now p c.in-Some.variable c.in-Some.value g c.requires.fits

pub set-requires-clause-unset : goal.set-requires-clause-unset
set-requires-clause-unset c =
    let (p, at, g) = point_gives c.args.model.now (IsGivenBy c.args.completion c.args.model.now c.args.partial.now) c.args.point c.in-Some.variable c.in-Some.value c.in_ok-variable.field-0 c.points.result c.in-Some.is c.points.ensures.counted c.if-point-points.false c.in_ok-variable.ensures.given in
    given_unset c.args.completion c.args.model.now c.args.partial.now p c.in-Some.variable c.in-Some.value g

pub returns-clause-steps : goal.returns-clause-steps
returns-clause-steps c =
    let (p, at, g) = point_gives c.args.model.now (IsGivenBy c.args.completion c.args.model.now c.args.partial.now) c.args.point c.in-Some.variable c.in-Some.value c.in_ok-variable.field-0 c.points.result c.in-Some.is c.points.ensures.counted c.if-point-points.false c.in_ok-variable.ensures.given in
    let one : Giver = record { variable = c.in-Some.variable; point = c.args.point } in
    subst (λ L. AddsSteps c.args.completion c.args.model.now c.args.partial.now L c.args.steps.now c.note.new.self) (sym c.set.ensures.given)
    (adds_one c.args.completion c.args.model.now c.args.partial.now c.args.steps.now c.note.new.self one p c.in-Some.value at g c.in_ok-note.ensures)

pub returns-clause-kinds : goal.returns-clause-kinds
returns-clause-kinds c =
    let (p, at, g) = point_gives c.args.model.now (IsGivenBy c.args.completion c.args.model.now c.args.partial.now) c.args.point c.in-Some.variable c.in-Some.value c.in_ok-variable.field-0 c.points.result c.in-Some.is c.points.ensures.counted c.if-point-points.false c.in_ok-variable.ensures.given in
    subst (IsPartial c.args.model.now) (sym c.set.ensures.given) (given_fits c.args.completion c.args.model.now c.args.partial.now p c.in-Some.variable c.in-Some.value g c.requires.fits)

pub returns-clause-fewer : goal.returns-clause-fewer
returns-clause-fewer c = λ _.
    let (p, at, g) = point_gives c.args.model.now (IsGivenBy c.args.completion c.args.model.now c.args.partial.now) c.args.point c.in-Some.variable c.in-Some.value c.in_ok-variable.field-0 c.points.result c.in-Some.is c.points.ensures.counted c.if-point-points.false c.in_ok-variable.ensures.given in
    let fewer = one_fewer c.args.completion c.args.model.now c.args.partial.now p c.in-Some.variable c.in-Some.value g c.requires.fits in
    let same = ap unset_count c.set.ensures.given in
    omega (arith, fewer, same)
