use Rattle.fz_model.specs.Relations.{ends_before}
use Rattle.fz_bounds.proofs.bounded.BoundedConstraint.are_apart.Goals as goal

pub returns : goal.returns
returns c = λ K f g s d t e at_s at_d at_t at_e.
    c.or.ensures (ends_before (s, d) (t, e)) (ends_before (t, e) (s, d)) (c.ends_before.ensures K f g s d t at_s at_d at_t) (c.ends_before-2.ensures K f g t e s at_t at_e at_s)
