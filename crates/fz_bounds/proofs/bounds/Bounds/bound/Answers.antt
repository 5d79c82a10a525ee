use Rattle.std.proofs.Common.{ap, subst}
use Rattle.fz_model.specs.Shown.{point_view}
use Rattle.fz_bounds.specs.Bounds.{IsInDomain}
use Rattle.fz_bounds.proofs.Numbers.{domain_inside}
use Rattle.fz_bounds.proofs.bounds.Bounds.bound.Goals as goal

pub returns-in-Some : goal.returns-in-Some
returns-in-Some c = λ A inside lies.
    domain_inside A c.args.self.now c.write.new.self c.in-Domain.variable.now.kind c.in-Domain.variable.now.domain c.in-Domain.number c.in-Some.low c.in-Some.high c.write.ensures.written
    (subst (IsInDomain A) (ap point_view c.in-Domain.is) lies) c.in-Some.ensures inside
