use Rattle.std.proofs.Common.{◌-◌, ◌≤◌, [], length}
use Rattle.fz_tree.specs.Lexing.{CutBetween}
use Rattle.fz_tree.proofs.lexer.gap_end.Given as goal

abbrev pub invariant-loop-place : goal.invariant-loop-place
invariant-loop-place l = record { after : l.from ≤ l.place; within : l.place ≤ length l.source; gap : CutBetween l.source l.from l.place [] }

abbrev pub decreases-loop-place : goal.decreases-loop-place
decreases-loop-place l = length l.source - l.place
