use Rattle.std.proofs.Common.{◌-ℤ◌, ◌*ℤ◌, pos, rules}
use Rattle.fz_model.specs.Relations.{◌=ℤ◌}
use Rattle.fz_model.specs.of_builtins.of_kernel.Given.{int_at}
use Rattle.fz_bounds.specs.Within.{given}
use Rattle.fz_bounds.proofs.Remainders.{no_quotient}
use Rattle.fz_bounds.proofs.bounded.BoundedConstraint.is_quotient.Goals as goal

pub returns-then-cannot_leave : goal.returns-then-cannot_leave
returns-then-cannot_leave c = λ K f g h.
    let xs = given c.args.self.now in
    let a = int_at K xs 0 in
    let b = int_at K xs 1 in
    let q = int_at K xs 2 in
    no_quotient (b =ℤ pos 0) a b q
    (c.cannot_leave.ensures (search rules) K f g (a -ℤ (b *ℤ q)) (c.minus-rest.ensures a (b *ℤ q) (c.number.ensures K f) (c.product.ensures K g h)))
