use Rattle.std.proofs.Common.{◌≡◌, ◌<◌, ◌-◌, ◌||◌, false, length, not, arith, rules}
use Rattle.fz_model.specs.of_builtins.of_kernel.Given.{bools_at, slots_at}
use Rattle.fz_bounds.specs.Within.{given}
use Rattle.fz_bounds.proofs.Failed.{next_fails, never_so}
use Rattle.fz_bounds.proofs.Lists.{truth_there}
use Rattle.fz_bounds.proofs.bounded.BoundedConstraint.are_falling.Goals as goal

pub returns-then-is_never : goal.returns-then-is_never
returns-then-is_never c = λ K f.
    let xs = given c.args.self.now in
    let i = c.loop-place.place in
    let first : i - 1 < length (slots_at xs 0) = omega arith in
    let second : i < length (slots_at xs 0) = omega arith in
    let (a, at_a) = truth_there K xs 0 (i - 1) first in
    let (b, at_b) = truth_there K xs 0 i second in
    let fails : (not b || a) ≡ false = never_so c.or.result (not b || a) (search rules) (c.or.ensures (not b) a (c.negated.ensures b (c.truth_at.ensures K f b at_b)) (c.truth_at-before.ensures K f a at_a)) in
    next_fails (λ x y. not y || x) (bools_at K xs 0) (i - 1) i a b (omega arith) at_a at_b fails
