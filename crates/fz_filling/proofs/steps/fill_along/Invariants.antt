use Rattle.fz_index.specs.of_model.Meaning.{IsPartial}
use Rattle.fz_filling.specs.Givers.{AddsSteps}
use Rattle.fz_filling.specs.declared.completion.Completion.TheVariants.{Off}
use Rattle.fz_filling.proofs.steps.fill_along.Given as goal

abbrev pub invariant-loop-point : goal.invariant-loop-point
invariant-loop-point l = record {
  steps : AddsSteps Off l.model l.fn.partial l.partial l.fn.steps l.steps;
  fits : IsPartial l.model l.partial;
}
