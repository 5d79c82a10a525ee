use Rattle.std.proofs.Common.{◌≡◌, ◌+◌, ◌-◌, ◌≤◌, length}
use Rattle.std.specs.List.{prefix_len}
use Rattle.fz_check.specs.Report.{is_shown}
use Rattle.fz_check.proofs.line.shown_len.Given as goal

abbrev pub invariant-loop-first : goal.invariant-loop-first
invariant-loop-first l = (length l.rest ≤ length l.text)
    × (prefix_len is_shown l.text ≡ length l.text - length l.rest + prefix_len is_shown l.rest)

abbrev pub decreases-loop-first : goal.decreases-loop-first
decreases-loop-first l = length l.rest
