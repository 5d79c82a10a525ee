use Rattle.std.proofs.Common.{Some, IfSome, sym, ap, subst, ◌∙◌}
use Rattle.std.proofs.lemmas.Result.{IfOk-weaker}
use Rattle.fz_search.specs.Found.{HasNone}
use Rattle.fz_filling.specs.of_stream.Found.{block_of}
use Rattle.fz_filling.specs.Judged.{JudgeState}
use Rattle.fz_filling.specs.Verdict.{IsFilled}
use Rattle.fz_check.specs.Bounds.{IsBound}
use Rattle.fz_check.proofs.Refuting.{bounded_by}
use Rattle.fz_check.proofs.judge.Judge.bound.Goals as goal

pub returns-in-Ok-clause-bounded : goal.returns-in-Ok-clause-bounded
returns-in-Ok-clause-bounded c =
    let m = c.args.self.now.model in
    let block = block_of c.args.block.now in
    let same = ap (λ (s : JudgeState). s.model) (c.self-2.view_is ∙ c.filling.ensures.same) in
    let filled = subst (IsFilled c.args.self.now.completion m block) (sym c.deref.ensures) c.in-Ok.ensures.filled in
    IfOk-weaker c.bound.result _ (λ o. IfSome o (IsBound m block)) (λ o none. bounded_by c.args.self.now.completion m block c.deref.result.now o filled
    (subst (λ n. IfSome o (λ b. HasNone (record { model = n; filling = c.deref.result.now; last = Some b }))) same none)) c.bound.ensures
