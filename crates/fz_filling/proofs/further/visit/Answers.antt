use Rattle.fz_filling.proofs.Furthering.{adds_joined, adds_nothing}
use Rattle.fz_filling.specs.declared.completion.Completion.TheVariants.{On}
use Rattle.fz_filling.proofs.further.visit.Goals as goal

pub loop-place-init : goal.loop-place-init
loop-place-init c = record { steps = adds_nothing On c.args.model.now c.args.partial.now c.args.steps.now; fits = c.requires.fits }

pub loop-place-preserved : goal.loop-place-preserved
loop-place-preserved c = record {
  steps = adds_joined On c.args.model.now c.args.partial.now c.loop-place.partial c.take_step.new.partial c.args.steps.now c.loop-place.steps c.take_step.new.steps c.loop-place.invariant.steps c.in_ok-take_step.ensures.steps;
  fits = c.in_ok-take_step.ensures.kinds;
}
