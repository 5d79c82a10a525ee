use Rattle.fz_filling.proofs.Furthering.{adds_joined, adds_nothing}
use Rattle.fz_filling.specs.declared.completion.Completion.TheVariants.{On}
use Rattle.fz_filling.proofs.further.follow.Goals as goal

pub loop-number-init : goal.loop-number-init
loop-number-init c = record { steps = adds_nothing On c.args.model.now c.args.partial.now c.args.steps.now; fits = c.requires.fits }

pub loop-number-preserved : goal.loop-number-preserved
loop-number-preserved c = record {
  steps = adds_joined On c.args.model.now c.args.partial.now c.loop-number.partial c.visit.new.partial c.args.steps.now c.loop-number.steps c.visit.new.steps c.loop-number.invariant.steps c.in_ok-visit.ensures.steps;
  fits = c.in_ok-visit.ensures.kinds;
}
