use Rattle.std.proofs.Common.{is_some, ap, arith}
use Rattle.fz_filling.proofs.Stepping.{at_some, none_and_one}
use Rattle.fz_filling.proofs.steps.step_between.Goals as goal

pub loop-point-init : goal.loop-point-init
loop-point-init c = λ j p above below at. absurd (omega (arith, above, below))

pub returns-in-Some-clause-first : goal.returns-in-Some-clause-first
returns-in-Some-clause-first c = record {
  ahead = omega (arith, c.loop-point.auto);
  below = c.loop-point-test.true;
  none_before = c.loop-point.invariant;
  gives = at_some _ c.in_ok-variable.field-0 (c.in-Some.variable, c.in-Some.value) c.in-Some.is c.in_ok-variable.ensures.given;
}

pub loop-point-preserved : goal.loop-point-preserved
loop-point-preserved c = none_and_one c.args.model.now c.args.partial.now c.args.from c.loop-point.point c.loop-point.invariant (c.in_ok-variable.ensures.nothing (ap is_some c.in_default.is))

pub returns-clause-none : goal.returns-clause-none
returns-clause-none c = λ _ j p above below at. c.loop-point.invariant j p above (omega (arith, below, c.loop-point-test.false)) at
