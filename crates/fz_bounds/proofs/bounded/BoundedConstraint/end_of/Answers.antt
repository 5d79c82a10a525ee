use Rattle.fz_bounds.proofs.bounded.BoundedConstraint.end_of.Goals as goal

pub returns : goal.returns
returns c = λ K f g s d at_s at_d. c.plus.ensures s d (c.number_at.ensures K f s at_s) (c.number_at-2.ensures K g d at_d)
