use Rattle.fz_bounds.proofs.Ranges.{max_high, max_low}
use Rattle.fz_bounds.proofs.range.Range.max.Goals as goal

pub returns : goal.returns
returns c = λ a b f g.
    (max_low c.args.self.low c.args.other.low c.greater.result a b f.0 g.0 c.greater.ensures, max_high c.args.self.high c.args.other.high c.greater-2.result a b f.1 g.1 c.greater-2.ensures)
