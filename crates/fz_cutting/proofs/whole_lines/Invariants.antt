use Rattle.std.proofs.Common.{length, ◌≡◌, ◌≤◌, reverse}
use Rattle.fz_cutting.specs.Short.{up_to_feed}
use Rattle.fz_cutting.proofs.whole_lines.Given as goal

abbrev pub invariant-loop-last : goal.invariant-loop-last
invariant-loop-last l = (up_to_feed (reverse l.whole) ≡ up_to_feed (reverse l.text))
    × (length l.whole ≤ length l.text)

abbrev pub decreases-loop-last : goal.decreases-loop-last
decreases-loop-last l = length l.whole
