use Rattle.std.proofs.Common.{is_some, sym, ap, subst, arith}
use Rattle.fz_index.specs.of_model.Meaning.{IsPartial}
use Rattle.fz_index.specs.of_model.Partial.{unset_count}
use Rattle.fz_filling.specs.Filling.{Chain, IsFirstStep}
use Rattle.fz_filling.specs.Filling.Chain.{Ends, Step}
use Rattle.fz_filling.specs.Givers.{AddsSteps}
use Rattle.fz_filling.specs.declared.completion.Completion.TheVariants.{Off}
use Rattle.fz_filling.proofs.Furthering.{adds_joined, adds_nothing, adds_one}
use Rattle.fz_filling.proofs.Running.{given_fits, given_unset, given_within, one_fewer}
use Rattle.fz_filling.proofs.Stepping.{at_some}
use Rattle.fz_filling.proofs.steps.fill_on.Goals as goal

pub loop-step-init : goal.loop-step-init
loop-step-init c = record {
  reaches = λ F chain. chain;
  steps = adds_nothing Off c.args.model.now c.args.partial.now c.args.steps.now;
  fits = c.requires.fits;
  in_range = omega arith;
}

pub set-requires-clause-in_range : goal.set-requires-clause-in_range
set-requires-clause-in_range c =
    let first = at_some _ c.in_ok-step.field-0 c.in-Some.step c.in-Some.is c.in_ok-step.ensures.first in
    given_within Off c.args.model.now c.loop-step.partial first.point c.in-Some.step.variable c.in-Some.step.value first.gives c.loop-step.invariant.fits

pub set-requires-clause-unset : goal.set-requires-clause-unset
set-requires-clause-unset c =
    let first = at_some _ c.in_ok-step.field-0 c.in-Some.step c.in-Some.is c.in_ok-step.ensures.first in
    given_unset Off c.args.model.now c.loop-step.partial first.point c.in-Some.step.variable c.in-Some.step.value first.gives

pub loop-step-smaller : goal.loop-step-smaller
loop-step-smaller c =
    let first = at_some _ c.in_ok-step.field-0 c.in-Some.step c.in-Some.is c.in_ok-step.ensures.first in
    let fewer = one_fewer Off c.args.model.now c.loop-step.partial first.point c.in-Some.step.variable c.in-Some.step.value first.gives c.loop-step.invariant.fits in
    let same = ap unset_count c.set.ensures.given in
    omega (arith, fewer, same)

pub loop-step-preserved : goal.loop-step-preserved
loop-step-preserved c =
    let m = c.args.model.now in
    let K = c.loop-step.partial in
    let n = c.in-Some.step.variable in
    let v = c.in-Some.step.value in
    let gs = c.loop-step.steps in
    let first : IsFirstStep m K c.loop-step.from c.in-Some.step.point n v = at_some _ c.in_ok-step.field-0 c.in-Some.step c.in-Some.is c.in_ok-step.ensures.first in
    let one = adds_one Off m K gs c.note.new.self (record { variable = n; point = c.in-Some.step.point }) first.point v first.at first.gives c.in_ok-note.ensures in
    let told : AddsSteps Off m K c.set.new.self gs c.note.new.self = subst (λ L. AddsSteps Off m K L gs c.note.new.self) (sym c.set.ensures.given) one in
    record {
      reaches = λ F chain. c.loop-step.invariant.reaches F (Step first (subst (λ L. Chain m L c.in-Some.step.point F) c.set.ensures.given chain));
      steps = adds_joined Off m c.args.partial.now K c.set.new.self c.args.steps.now gs c.note.new.self c.loop-step.invariant.steps told;
      fits = subst (IsPartial m) (sym c.set.ensures.given) (given_fits Off m K first.point n v first.gives c.loop-step.invariant.fits);
      in_range = at_some _ c.in_ok-step.field-0 c.in-Some.step c.in-Some.is c.in_ok-step.ensures.in_range;
    }

pub returns-clause-filled : goal.returns-clause-filled
returns-clause-filled c = c.loop-step.invariant.reaches c.loop-step.partial (Ends (c.in_ok-step.ensures.none (ap is_some c.in_default.is)))
