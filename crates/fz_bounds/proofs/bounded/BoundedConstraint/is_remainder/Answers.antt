use Rattle.std.proofs.Common.{rules}
use Rattle.fz_model.specs.of_builtins.of_kernel.Given.{int_at}
use Rattle.fz_bounds.specs.Within.{given}
use Rattle.fz_bounds.proofs.bounded.BoundedConstraint.is_remainder.Goals as goal

pub returns-then-cannot_leave : goal.returns-then-cannot_leave
returns-then-cannot_leave c = λ K f g h. c.cannot_leave.ensures (search rules) K f g (int_at K (given c.args.self.now) 2) (c.number.ensures K h)
