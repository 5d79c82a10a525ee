use Rattle.fz_bounds.proofs.Ranges.{above_lesser, below_greater}
use Rattle.fz_bounds.proofs.range.Range.hull.Goals as goal

pub returns : goal.returns
returns c = λ a b n f g low high.
    (above_lesser c.args.self.low c.args.other.low c.lesser.result a b n f.0 g.0 c.lesser.ensures low, below_greater c.args.self.high c.args.other.high c.greater.result a b n f.1 g.1 c.greater.ensures high)
