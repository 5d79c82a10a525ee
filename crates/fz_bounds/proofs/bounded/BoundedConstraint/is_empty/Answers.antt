use Rattle.std.proofs.Common.{pos}
use Rattle.fz_bounds.proofs.bounded.BoundedConstraint.is_empty.Goals as goal

pub returns : goal.returns
returns c = λ K f d at. c.equal.ensures d (pos 0) (c.number_at.ensures K f d at) c.of.ensures
