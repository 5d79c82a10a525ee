use Rattle.std.proofs.Common.{◌+ℤ◌}
use Rattle.fz_bounds.proofs.bounded.BoundedConstraint.ends_before.Goals as goal

pub returns : goal.returns
returns c = λ K f g s d t at_s at_d at_t.
    c.at_most.ensures (s +ℤ d) t (c.end_of.ensures K f g s d at_s at_d) (c.number_at.ensures K f t at_t)
