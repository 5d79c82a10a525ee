use Rattle.std.proofs.Common.{◌≡◌, ℕ, ◌<◌, false, IsTrue}
use Rattle.fz_index.specs.of_model.Meaning.{IsPartial}
use Rattle.fz_index.specs.of_model.Partial.{unset_count}
use Rattle.fz_filling.specs.Givers.{AddsSteps}
use Rattle.fz_filling.specs.Stepping.{GivesNoneAt}
use Rattle.fz_filling.specs.declared.completion.Completion.TheVariants.{On}
use Rattle.fz_filling.proofs.further.pass.Given as goal

abbrev pub invariant-loop-point : goal.invariant-loop-point
invariant-loop-point l = record {
  steps : AddsSteps On l.model l.fn.partial l.partial l.fn.steps l.steps;
  fits : IsPartial l.model l.partial;
  fewer : IsTrue l.took → unset_count l.partial < unset_count l.fn.partial;
  none : l.took ≡ false → (j : ℕ) → j < l.point → GivesNoneAt On l.model l.partial j;
}
