use Rattle.std.proofs.Common.{sym}
use Rattle.fz_bounds.proofs.Numbers.{fixed_inside}
use Rattle.fz_bounds.proofs.bounds.Bounds.fix_as.Goals as goal

pub returns-in_ok-settle : goal.returns-in_ok-settle
returns-in_ok-settle c = λ A inside under.
    fixed_inside A c.args.self.now c.settle.new.self c.args.number c.in-Some.value.now c.in_ok-settle.ensures.settled
    (under c.args.number c.in-Some.value.now (sym c.in-Some.ensures.looked_up)) inside
