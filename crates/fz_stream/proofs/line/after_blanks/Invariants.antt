use Rattle.std.proofs.Common.{length, ◌≡◌}
use Rattle.fz_stream.specs.Parts.{skip_blanks}
use Rattle.fz_stream.proofs.line.after_blanks.Given as goal

abbrev pub invariant-loop-first : goal.invariant-loop-first
invariant-loop-first l = skip_blanks l.rest ≡ skip_blanks l.line

abbrev pub decreases-loop-first : goal.decreases-loop-first
decreases-loop-first l = length l.rest
