use Rattle.fz_model.specs.Shown.{point_view}
use Rattle.fz_bounds.proofs.Beginnings.{in_domain}
use Rattle.fz_bounds.proofs.bounds.Bounds.new.Goals as goal

pub domains-preserved : goal.domains-preserved
domains-preserved c = λ A solution.
    c.bound.ensures A (c.domains.invariant A solution) (in_domain c.args.model.now A c.domains.number (point_view c.point_parts.result) solution c.point_parts.ensures.parts)
