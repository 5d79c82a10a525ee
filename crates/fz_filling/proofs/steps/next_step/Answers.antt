use Rattle.std.proofs.Common.{sym, ◌∙◌}
use Rattle.std.proofs.lemmas.Option.{IfSome_then}
use Rattle.std.proofs.lemmas.Result.{IfOk-weaker}
use Rattle.fz_filling.proofs.Stepping.{ahead_is_first, no_first, nothing_left, wrapped_is_first}
use Rattle.fz_filling.proofs.steps.next_step.Goals as goal

pub returns-then-is_some-clause-first : goal.returns-then-is_some-clause-first
returns-then-is_some-clause-first c =
    IfSome_then c.in_ok-ahead.ahead c.in_ok-ahead.ensures.first (λ s h. ahead_is_first c.args.model.now c.args.partial.now c.args.from c.points.result s.point s.variable s.value c.points.ensures.counted h)

pub returns-clause-first : goal.returns-clause-first
returns-clause-first c =
    let none = c.in_ok-ahead.ensures.none (sym c.is_some.ensures ∙ c.if-is_some.false) in
    IfOk-weaker c.step_between-2.result _ _ (λ o first.
    IfSome_then o first (λ s h. wrapped_is_first c.args.model.now c.args.partial.now c.args.from c.points.result s.point s.variable s.value c.points.ensures.counted c.requires.in_range none h))
    c.step_between-2.ensures.first

pub returns-clause-none : goal.returns-clause-none
returns-clause-none c =
    let none = c.in_ok-ahead.ensures.none (sym c.is_some.ensures ∙ c.if-is_some.false) in
    IfOk-weaker c.step_between-2.result _ _ (λ o h is_none. no_first c.args.model.now c.args.partial.now c.args.from c.points.result c.points.ensures.counted none (h is_none)) c.step_between-2.ensures.none

pub returns-then-unset-eq0-clause-none : goal.returns-then-unset-eq0-clause-none
returns-then-unset-eq0-clause-none c = λ _. nothing_left c.args.model.now c.args.partial.now c.requires.fits (sym c.unset.ensures.counted ∙ c.if-unset-eq0.true)
