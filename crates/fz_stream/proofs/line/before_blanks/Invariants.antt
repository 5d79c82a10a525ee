use Rattle.std.proofs.Common.{length, ◌≡◌, reverse}
use Rattle.fz_stream.specs.Parts.{skip_blanks}
use Rattle.fz_stream.proofs.line.before_blanks.Given as goal

abbrev pub invariant-loop-last : goal.invariant-loop-last
invariant-loop-last l = skip_blanks (reverse l.rest) ≡ skip_blanks (reverse l.line)

abbrev pub decreases-loop-last : goal.decreases-loop-last
decreases-loop-last l = length l.rest
