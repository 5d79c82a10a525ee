use Rattle.std.proofs.Common.{◌≡◌, ◌-◌, length}
use Rattle.fz_tree.proofs.ahead.scan.Given as goal

abbrev pub invariant-loop-token : goal.invariant-loop-token
invariant-loop-token l = record { same_source : l.lexer.source.now ≡ l.fn.lexer.source.now }

abbrev pub decreases-loop-token : goal.decreases-loop-token
decreases-loop-token l = length l.lexer.source.now - l.lexer.place
