use Rattle.fz_index.specs.of_model.Meaning.{IsPartial}
use Rattle.fz_filling.specs.Givers.{AddsSteps}
use Rattle.fz_filling.specs.declared.completion.Completion.TheVariants.{On}
use Rattle.fz_filling.proofs.further.follow.Given as goal

abbrev pub invariant-loop-number : goal.invariant-loop-number
invariant-loop-number l = record {
  steps : AddsSteps On l.model l.fn.partial l.partial l.fn.steps l.steps;
  fits : IsPartial l.model l.partial;
}
