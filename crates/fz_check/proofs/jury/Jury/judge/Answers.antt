use Rattle.std.proofs.Common.{◌≡◌, ◌∙◌, ℤ, Option, None, IfOk, IfSome, ap, sym, subst}
use Rattle.fz_check.specs.Bounds.{IsBound}
use Rattle.fz_search.specs.of_model.Meaning.{Model}
use Rattle.fz_search.specs.of_model.Parts.{goal_view}
use Rattle.fz_filling.specs.of_stream.Found.{block_of}
use Rattle.fz_filling.specs.Judged.{JudgeState}
use Rattle.fz_filling.specs.View.{verdict_view}
use Rattle.fz_check.specs.declared.jury.Jury.{Jury}
use Rattle.fz_check.specs.Claims.{IsOutcome, behind_block, is_satisfied, late_refuted}
use Rattle.fz_check.specs.Telling.{last_outcome}
use Rattle.fz_check.proofs.ClaimLemmas.{outcome_of}
use Rattle.fz_check.proofs.jury.Jury.judge.Goals as goal

pub returns-clause-judged : goal.returns-clause-judged
returns-clause-judged c =
    let j = c.args.self.now.judge in
    let block = block_of c.args.block.now in
    let v = verdict_view c.in-Ok.verdict in
    let bound = c.in_ok-bound.bound in
    let same = ap (λ (k : Jury). k.judge) c.bound.ensures.same in
    let model = ap (λ (s : JudgeState). s.model) same ∙ c.judge.ensures.same_model in
    let aim : goal_view c.goal-goal.result.now ≡ j.model.aim = c.goal-goal.ensures.asked ∙ ap (λ (m : Model). m.aim) (c.model.ensures ∙ model) in
    let bounded = subst (λ m. IfSome bound (IsBound m block)) c.judge.ensures.same_model c.in_ok-bound.ensures.bounded in
    record {
      bound = bound;
      outcome = subst (λ s. IsOutcome j.completion j.model j.before j.found block (last_outcome s v bound)) (sym same)
          (outcome_of j c.judge.new.self block v bound c.in-Ok.ensures.judged bounded
          (λ off. subst (λ r. IfOk r (λ (o : Option ℤ). o ≡ None)) c.in_ok-bound.was (c.bound.ensures.unasked (c.judge.ensures.same_completion ∙ off))));
      same_model = model;
      same_completion = ap (λ (s : JudgeState). s.completion) same ∙ c.judge.ensures.same_completion;
      same_claims = ap (λ (k : Jury). k.claims) c.bound.ensures.same;
      account_is = c.hear_block-late.ensures.heard ∙ (λ i. behind_block (aim i) (c.bound.ensures.same i).account
          (record { verdict = v; filled = c.filled_objective-filled.ensures i; found = c.objective-found.ensures i; bound = bound }));
    }

pub returns-clause-late : goal.returns-clause-late
returns-clause-late c =
    let model = ap (λ (k : Jury). k.judge.model) c.bound.ensures.same ∙ c.judge.ensures.same_model in
    let aim : goal_view c.goal-goal.result.now ≡ c.args.self.now.judge.model.aim = c.goal-goal.ensures.asked ∙ ap (λ (m : Model). m.aim) (c.model.ensures ∙ model) in
    c.hear_block-late.ensures.refuted
    ∙ (λ i. late_refuted (aim i) (c.bound.ensures.same i).account.waiting (is_satisfied (verdict_view c.in-Ok.verdict)) (c.objective-found.ensures i))
