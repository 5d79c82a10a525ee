use Rattle.std.proofs.Common.{◌≡◌, ◌++◌, map, take}
use Rattle.fz_check.specs.Report.{claimed, event_line, text_of}
use Rattle.fz_check.proofs.report.push_rest.Given as goal

abbrev pub invariant-loop-claim : goal.invariant-loop-claim
invariant-loop-claim l = l.text.items ≡ l.fn.text.items ++ text_of event_line (map claimed (take l.claim-index l.claims))
