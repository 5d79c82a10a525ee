use Rattle.std.proofs.Common.{◌&&◌, ◌||◌}
use Rattle.fz_model.specs.Relations.{are_apart, is_empty_span}
use Rattle.fz_bounds.proofs.bounded.BoundedConstraint.keep_apart.Goals as goal

pub returns : goal.returns
returns c = λ K f g s d t e at_s at_d at_t at_e.
    let spare = c.args.spare in
    let empty = is_empty_span (s, d) || is_empty_span (t, e) in
    c.or.ensures (spare && empty) (are_apart (s, d) (t, e))
    (c.and.ensures spare empty c.of.ensures (c.or-empty.ensures (is_empty_span (s, d)) (is_empty_span (t, e)) (c.is_empty.ensures K g d at_d) (c.is_empty-2.ensures K g e at_e)))
    (c.are_apart.ensures K f g s d t e at_s at_d at_t at_e)
