use Rattle.std.proofs.Common.{◌+ℤ◌, int_le, int_lt}
use Rattle.fz_bounds.proofs.bounded.BoundedConstraint.runs_at.Goals as goal

pub returns : goal.returns
returns c = λ K f g t s d lies at_s at_d.
    c.and.ensures (int_le s t) (int_lt t (s +ℤ d)) (c.at_most-started.ensures s t (c.number_at.ensures K f s at_s) lies)
    (c.below.ensures t (s +ℤ d) lies (c.end_of.ensures K f g s d at_s at_d))
