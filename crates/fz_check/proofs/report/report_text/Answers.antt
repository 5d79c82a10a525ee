use Rattle.std.proofs.Common.{◌≡◌, ◌∙◌, ◌++◌, map}
use Rattle.fz_filling.specs.View.{verdict_view}
use Rattle.fz_check.specs.Report.{event_line, in_order, text_of}
use Rattle.fz_check.specs.Report.Event.{Answered}
use Rattle.fz_check.specs.View.{answer_view, report_events}
use Rattle.fz_check.proofs.EventLemmas.{answer_last}
use Rattle.fz_check.proofs.report.report_text.Goals as goal

pub returns : goal.returns
returns c =
    let parts : c.push_parts.new.text.items ≡ text_of event_line (report_events c.args.report.now) =
    c.in_ok-push_parts.ensures
    ∙ (λ i. c.new-text.ensures.items i ++ text_of event_line (in_order 0 (map verdict_view (c.deref.ensures.value i)) (c.deref-2.ensures.value i))) in
    answer_last (report_events c.args.report.now) (Answered (answer_view c.args.report.now.answer)) c.push_parts.new.text.items c.push_answer.new.text.items
    parts c.in_ok-push_answer.ensures
