use Rattle.std.proofs.Common.{length, ◌-◌}
use Rattle.fz_stream.proofs.TakeLemmas.{Taking}
use Rattle.fz_stream.proofs.held.take_bytes.Given as goal

abbrev pub invariant-loop-at : goal.invariant-loop-at
invariant-loop-at l = Taking l.most_held l.fn.held l.held l.piece l.at

abbrev pub decreases-loop-at : goal.decreases-loop-at
decreases-loop-at l = length l.piece - l.at
