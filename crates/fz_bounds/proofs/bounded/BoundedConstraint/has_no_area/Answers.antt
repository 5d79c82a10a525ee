use Rattle.std.proofs.Common.{pos}
use Rattle.fz_model.specs.Relations.{◌=ℤ◌}
use Rattle.fz_bounds.proofs.bounded.BoundedConstraint.has_no_area.Goals as goal

pub returns : goal.returns
returns c = λ K f g d e at_d at_e.
    c.or.ensures (d =ℤ pos 0) (e =ℤ pos 0) (c.is_empty.ensures K f d at_d) (c.is_empty-2.ensures K g e at_e)
