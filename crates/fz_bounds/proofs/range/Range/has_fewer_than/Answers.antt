use Rattle.fz_bounds.proofs.Distinct.{sum_below}
use Rattle.fz_bounds.proofs.range.Range.has_fewer_than.Goals as goal

pub returns : goal.returns
returns c = λ less.
    sum_below c.args.self.high c.added.result c.added-end.result c.args.self.low c.size.result.low c.args.count (c.is_below.ensures less) c.added.ensures c.added-end.ensures c.size.ensures.0
