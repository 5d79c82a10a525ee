use Rattle.std.proofs.Common.{◌≡◌, ◌+◌, ap, ◌∙◌, refl, sym, subst, IfSome}
use Rattle.fz_stream.specs.declared.step.Step.TheVariants.{GoesOn}
use Rattle.fz_stream.proofs.EndLemmas.{step_is, drops_line, joins_line, ends_with_block, breaks_with_claim}
use Rattle.fz_stream.proofs.StepLemmas.{breaks_open, open_before}
use Rattle.fz_stream.proofs.held.end_line.Goals as goal

pub returns-in-GoesOn-None-clause-ends : goal.returns-in-GoesOn-None-clause-ends
returns-in-GoesOn-None-clause-ends c lines frames line l =
    drops_line _ lines frames line l
    (step_is _ lines frames line l _ _ _ _ _ c.begun_at-begun.ensures c.deref.ensures.value c.line_kind-kind.ensures c.after_line.ensures (c.in-GoesOn-None.is ∙ ap GoesOn c.in-GoesOn-None.field-0-is))
    _ c.clear.ensures.items refl (ap (λ n. c.args.held.now.before + n) (c.len.ensures ∙ c.args.held.now.buffer.ok.0))

pub returns-in-GoesOn-Some-clause-ends : goal.returns-in-GoesOn-Some-clause-ends
returns-in-GoesOn-Some-clause-ends c lines frames line l =
    joins_line _ lines frames line l c.in-GoesOn-Some.field-0-0
    (step_is _ lines frames line l _ _ _ _ _ c.begun_at-begun.ensures c.deref.ensures.value c.line_kind-kind.ensures c.after_line.ensures (c.in-GoesOn-Some.is ∙ ap GoesOn c.in-GoesOn-Some.field-0-is))
    _ refl (c.len-held.ensures ∙ c.args.held.now.buffer.ok.0) refl

pub returns-in-EndsBlock-clause-ends : goal.returns-in-EndsBlock-clause-ends
returns-in-EndsBlock-clause-ends c lines frames line l =
    ends_with_block _ lines frames line l c.in-EndsBlock.field-0
    (step_is _ lines frames line l _ _ _ _ _ c.begun_at-begun.ensures c.deref.ensures.value c.line_kind-kind.ensures c.after_line.ensures c.in-EndsBlock.is)

pub returns-in-Claims-clause-ends : goal.returns-in-Claims-clause-ends
returns-in-Claims-clause-ends c lines frames line l = step_is _ lines frames line l _ _ _ _ _ c.begun_at-begun.ensures c.deref.ensures.value c.line_kind-kind.ensures c.after_line.ensures c.in-Claims.is

pub returns-in-Breaks-clause-breaks : goal.returns-in-Breaks-clause-breaks
returns-in-Breaks-clause-breaks c limits lines frames line l =
    breaks_with_claim _ lines frames line l limits c.in-Breaks.start
    (step_is _ lines frames line l _ _ _ _ _ c.begun_at-begun.ensures c.deref.ensures.value c.line_kind-kind.ensures c.after_line.ensures c.in-Breaks.is)
    _ refl refl

pub returns-in-Breaks-clause-begins : goal.returns-in-Breaks-clause-begins
returns-in-Breaks-clause-begins c =
    let h = c.args.held.now in
    breaks_open _ h.before (subst (λ b. IfSome b (λ n. n ≡ h.before)) (sym c.begun_at-begun.ensures) (open_before h.line h.before)) _ _ c.in-Breaks.start (sym c.after_line.ensures ∙ c.in-Breaks.is)
