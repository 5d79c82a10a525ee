use Rattle.std.proofs.Common.{rules}
use Rattle.fz_bounds.proofs.bounded.BoundedConstraint.keep_all_apart.Goals as goal

pub returns-then-overlaps : goal.returns-then-overlaps
returns-then-overlaps c = λ K f g. c.overlaps.ensures (search rules) K f g
