use Rattle.std.proofs.Common.{◌≡◌, ◌<◌, ℤ, false, length, arith, rules}
use Rattle.fz_model.specs.of_builtins.of_kernel.Given.{int_at, ints_at, slots_at}
use Rattle.fz_bounds.specs.Decided.{in_order}
use Rattle.fz_bounds.specs.Within.{given}
use Rattle.fz_bounds.proofs.Failed.{never_so}
use Rattle.fz_model.proofs.of_builtins.Failing.{one_fails}
use Rattle.fz_bounds.proofs.Lists.{is_there}
use Rattle.fz_bounds.proofs.bounded.BoundedConstraint.all_are.Goals as goal

pub returns-then-is_never : goal.returns-then-is_never
returns-then-is_never c = λ K f g.
    let xs = given c.args.self.now in
    let test = λ (x : ℤ). in_order c.args.order x (int_at K xs 0) in
    let p = c.loop-place.place in
    let within : p < length (slots_at xs 1) = omega arith in
    let (n, at) = is_there K xs 1 p within in
    let fails : test n ≡ false = never_so c.of.result (test n) (search rules) (c.of.ensures n (int_at K xs 0) (c.number_at.ensures K g n at) (c.number.ensures K f)) in
    one_fails test (ints_at K xs 1) p n at fails
