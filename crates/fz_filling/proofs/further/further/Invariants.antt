use Rattle.fz_index.specs.of_model.Meaning.{IsPartial}
use Rattle.fz_index.specs.of_model.Partial.{unset_count}
use Rattle.fz_filling.specs.Givers.{AddsSteps}
use Rattle.fz_filling.specs.declared.completion.Completion.TheVariants.{On}
use Rattle.fz_filling.proofs.further.further.Given as goal

abbrev pub invariant-loop : goal.invariant-loop
invariant-loop l = record {
  steps : AddsSteps On l.model l.fn.partial l.partial l.fn.steps l.steps;
  fits : IsPartial l.model l.partial;
}

abbrev pub decreases-loop : goal.decreases-loop
decreases-loop l = unset_count l.partial
