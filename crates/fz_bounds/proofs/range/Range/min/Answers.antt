use Rattle.fz_bounds.proofs.Ranges.{min_high, min_low}
use Rattle.fz_bounds.proofs.range.Range.min.Goals as goal

pub returns : goal.returns
returns c = λ a b f g.
    (min_low c.args.self.low c.args.other.low c.lesser.result a b f.0 g.0 c.lesser.ensures, min_high c.args.self.high c.args.other.high c.lesser-2.result a b f.1 g.1 c.lesser-2.ensures)
