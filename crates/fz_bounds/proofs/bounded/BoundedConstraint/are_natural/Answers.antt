use Rattle.std.proofs.Common.{◌≡◌, ◌<◌, false, length, arith, rules}
use Rattle.fz_model.specs.Relations.{is_natural}
use Rattle.fz_model.specs.of_builtins.of_kernel.Given.{ints_at, slots_at}
use Rattle.fz_bounds.specs.Within.{given}
use Rattle.fz_bounds.proofs.Failed.{never_so}
use Rattle.fz_model.proofs.of_builtins.Failing.{one_fails}
use Rattle.fz_bounds.proofs.Lists.{is_there}
use Rattle.fz_bounds.proofs.bounded.BoundedConstraint.are_natural.Goals as goal

pub returns-then-is_never : goal.returns-then-is_never
returns-then-is_never c = λ K f.
    let xs = given c.args.self.now in
    let p = c.loop-place.place in
    let within : p < length (slots_at xs c.args.array) = omega arith in
    let (n, at) = is_there K xs c.args.array p within in
    let fails : is_natural n ≡ false = never_so c.is_natural.result (is_natural n) (search rules) (c.is_natural.ensures n (c.number_at.ensures K f n at)) in
    one_fails is_natural (ints_at K xs c.args.array) p n at fails
