use Rattle.std.proofs.Common.{◌≡◌, ◌∙◌, ap}
use Rattle.fz_search.specs.of_model.Meaning.{Model}
use Rattle.fz_search.specs.of_model.Parts.{goal_view}
use Rattle.fz_filling.specs.of_stream.Found.{block_of}
use Rattle.fz_filling.specs.Judged.{JudgeState}
use Rattle.fz_filling.specs.View.{verdict_view}
use Rattle.fz_check.proofs.LearningLemmas.{learned}
use Rattle.fz_check.proofs.learning.learn_block.Goals as goal

pub returns-in-Ok-Satisfied-clause-knows : goal.returns-in-Ok-Satisfied-clause-knows
returns-in-Ok-Satisfied-clause-knows g c =
    let same : c.forget.new.self.model ≡ c.args.judge.now.model = ap (λ (s : JudgeState). s.model) c.forget.ensures in
    let aim : goal_view c.goal.result.now ≡ c.args.judge.now.model.aim = c.goal.ensures.asked ∙ ap (λ (m : Model). m.aim) (c.model.ensures ∙ c.judge.ensures.same_model ∙ same) in
    learned c.args.judge.now.model c.forget.new.self c.judge.new.self (block_of c.args.block.now) _ _ _ _ _ _ same c.in-Ok-Satisfied.ensures.judged (ap verdict_view c.in-Ok-Satisfied.field-0-is) aim c.objective.ensures c.with.ensures
