use Rattle.std.proofs.Common.{◌≡◌, ◌++◌, drop, map}
use Rattle.fz_filling.specs.View.{verdict_view}
use Rattle.fz_check.specs.Report.{event_line, in_order, text_of}
use Rattle.fz_check.proofs.report.push_parts.Given as goal

abbrev pub invariant-loop-index : goal.invariant-loop-index
invariant-loop-index l = l.text.items ++ text_of event_line (in_order l.index (map verdict_view (drop l.index l.verdicts)) l.rest) ≡ l.fn.text.items ++ text_of event_line (in_order 0 (map verdict_view l.verdicts) l.claims)
