use Rattle.std.proofs.Common.{◌≤◌, length}
use Rattle.fz_index.specs.of_model.Meaning.{IsPartial, Partial, points}
use Rattle.fz_index.specs.of_model.Partial.{unset_count}
use Rattle.fz_filling.specs.Filling.{Chain}
use Rattle.fz_filling.specs.Givers.{AddsSteps}
use Rattle.fz_filling.specs.declared.completion.Completion.TheVariants.{Off}
use Rattle.fz_filling.proofs.steps.fill_on.Given as goal

abbrev pub invariant-loop-step : goal.invariant-loop-step
invariant-loop-step l = record {
  reaches : (F : Partial) → Chain l.model l.partial l.from F → Chain l.model l.fn.partial 0 F;
  steps : AddsSteps Off l.model l.fn.partial l.partial l.fn.steps l.steps;
  fits : IsPartial l.model l.partial;
  in_range : l.from ≤ length (points l.model);
}

abbrev pub decreases-loop-step : goal.decreases-loop-step
decreases-loop-step l = unset_count l.partial
