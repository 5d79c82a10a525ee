use Rattle.fz_bounds.proofs.Ranges.{sum_high, sum_low}
use Rattle.fz_bounds.proofs.range.Range.plus.Goals as goal

pub returns : goal.returns
returns c = λ a b f g.
    (sum_low c.args.self.low c.args.other.low c.added.result a b f.0 g.0 c.added.ensures, sum_high c.args.self.high c.args.other.high c.added-2.result a b f.1 g.1 c.added-2.ensures)
