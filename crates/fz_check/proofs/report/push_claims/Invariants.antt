use Rattle.std.proofs.Common.{◌≡◌, ◌++◌, length}
use Rattle.fz_check.specs.Report.{claims_by, claims_past, event_line, text_of}
use Rattle.fz_check.proofs.report.push_claims.Given as goal

abbrev pub invariant-loop-first : goal.invariant-loop-first
invariant-loop-first l = (l.text.items ++ text_of event_line (claims_by l.after l.rest) ≡ l.fn.text.items ++ text_of event_line (claims_by l.after l.fn.claims))
    × (claims_past l.after l.rest ≡ claims_past l.after l.fn.claims)

abbrev pub decreases-loop-first : goal.decreases-loop-first
decreases-loop-first l = length l.rest
