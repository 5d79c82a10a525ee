use Rattle.fz_model.specs.Relations.{is_natural}
use Rattle.fz_bounds.proofs.bounded.BoundedConstraint.is_counted.Goals as goal

pub returns : goal.returns
returns c = λ K f g d u at_d at_u.
    c.and.ensures (is_natural d) (is_natural u) (c.is_natural-lasts.ensures d (c.number_at.ensures K f d at_d)) (c.is_natural.ensures u (c.number_at-2.ensures K g u at_u))
