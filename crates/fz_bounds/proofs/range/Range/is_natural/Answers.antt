use Rattle.std.proofs.Common.{pos}
use Rattle.fz_bounds.proofs.range.Range.is_natural.Goals as goal

pub returns : goal.returns
returns c = λ a lies. c.at_most.ensures (pos 0) a c.of.ensures lies
