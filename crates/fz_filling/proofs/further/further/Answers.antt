use Rattle.std.proofs.Common.{sym, ◌∙◌}
use Rattle.fz_filling.proofs.Furthering.{adds_joined, adds_nothing}
use Rattle.fz_filling.proofs.Stepping.{none_left}
use Rattle.fz_filling.specs.declared.completion.Completion.TheVariants.{On}
use Rattle.fz_filling.proofs.further.further.Goals as goal

pub returns-then-unset-eq0-clause-steps : goal.returns-then-unset-eq0-clause-steps
returns-then-unset-eq0-clause-steps c = adds_nothing On c.args.model.now c.args.partial.now c.args.steps.now

pub returns-then-unset-eq0-clause-none_left : goal.returns-then-unset-eq0-clause-none_left
returns-then-unset-eq0-clause-none_left c = none_left c.args.model.now c.args.partial.now c.requires.fits (sym c.unset.ensures.counted ∙ c.if-unset-eq0.true)

pub loop-init : goal.loop-init
loop-init c = record { steps = adds_nothing On c.args.model.now c.args.partial.now c.args.steps.now; fits = c.requires.fits }

pub loop-preserved : goal.loop-preserved
loop-preserved c = record {
  steps = adds_joined On c.args.model.now c.args.partial.now c.loop.partial c.pass.new.partial c.args.steps.now c.loop.steps c.pass.new.steps c.loop.invariant.steps c.in_ok-pass.ensures.steps;
  fits = c.in_ok-pass.ensures.kinds;
}

pub returns-clause-steps : goal.returns-clause-steps
returns-clause-steps c = adds_joined On c.args.model.now c.args.partial.now c.loop.partial c.pass.new.partial c.args.steps.now c.loop.steps c.pass.new.steps c.loop.invariant.steps c.in_ok-pass.ensures.steps
