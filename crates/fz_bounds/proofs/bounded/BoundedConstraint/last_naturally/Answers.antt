use Rattle.std.proofs.Common.{◌≡◌, ◌<◌, false, length, arith, rules}
use Rattle.std.specs.List.{zip}
use Rattle.fz_model.specs.Relations.{is_natural}
use Rattle.fz_model.specs.of_builtins.of_kernel.Given.{ints_at, slots_at}
use Rattle.fz_bounds.specs.Within.{given}
use Rattle.fz_bounds.proofs.Failed.{never_so}
use Rattle.fz_model.proofs.of_builtins.Failing.{one_fails, zipped}
use Rattle.fz_bounds.proofs.Lists.{is_there}
use Rattle.fz_bounds.proofs.bounded.BoundedConstraint.last_naturally.Goals as goal

pub returns-then-is_never : goal.returns-then-is_never
returns-then-is_never c = λ K f g.
    let xs = given c.args.self.now in
    let p = c.loop-task.task in
    let first : p < length (slots_at xs 0) = omega arith in
    let second : p < length (slots_at xs 1) = omega arith in
    let (s, at_s) = is_there K xs 0 p first in
    let (d, at_d) = is_there K xs 1 p second in
    let fails : is_natural d ≡ false = never_so c.is_natural.result (is_natural d) (search rules) (c.is_natural.ensures d (c.number_at.ensures K g d at_d)) in
    one_fails (λ k. is_natural k.1) (zip (ints_at K xs 0) (ints_at K xs 1)) p (s, d) (zipped (ints_at K xs 0) (ints_at K xs 1) p s d at_s at_d) fails
