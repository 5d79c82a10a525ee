use Rattle.fz_filling.specs.declared.completion.Completion.TheVariants.{Off}
use Rattle.fz_filling.proofs.Furthering.{adds_joined, adds_nothing}
use Rattle.fz_filling.proofs.steps.fill_along.Goals as goal

pub loop-point-init : goal.loop-point-init
loop-point-init c = record { steps = adds_nothing Off c.args.model.now c.args.partial.now c.args.steps.now; fits = c.requires.fits }

pub loop-point-preserved : goal.loop-point-preserved
loop-point-preserved c = record {
  steps = adds_joined Off c.args.model.now c.args.partial.now c.loop-point.partial c.take_step.new.partial c.args.steps.now c.loop-point.steps c.take_step.new.steps c.loop-point.invariant.steps c.in_ok-take_step.ensures.steps;
  fits = c.in_ok-take_step.ensures.kinds;
}
