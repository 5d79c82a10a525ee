use Rattle.std.proofs.Common.{pos, ◌-ℤ◌, subst}
use Rattle.std.specs.Int.{int_max}
use Rattle.fz_bounds.specs.Decided.{LiesIn}
use Rattle.fz_bounds.proofs.Ranges.{absolute_is}
use Rattle.fz_bounds.proofs.range.Range.abs.Goals as goal

pub returns : goal.returns
returns c = λ a f.
    subst (LiesIn c.max-2.result) (absolute_is a) (c.max-2.ensures (int_max a (pos 0 -ℤ a)) (pos 0) (c.max.ensures a (pos 0 -ℤ a) f (c.negated.ensures a f)) c.of.ensures)
