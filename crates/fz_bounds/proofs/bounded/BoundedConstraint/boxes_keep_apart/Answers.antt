use Rattle.std.proofs.Common.{rules}
use Rattle.fz_bounds.proofs.bounded.BoundedConstraint.boxes_keep_apart.Goals as goal

pub returns-then-box_overlaps : goal.returns-then-box_overlaps
returns-then-box_overlaps c = λ K f g h k. c.box_overlaps.ensures (search rules) K f g h k
