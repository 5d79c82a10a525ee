use Rattle.std.proofs.Common.{◌≡◌, ◌<◌, ◌-◌, false, length, arith, rules}
use Rattle.fz_model.specs.Relations.{precedes}
use Rattle.fz_model.specs.of_builtins.of_kernel.Given.{ints_at, slots_at}
use Rattle.fz_bounds.specs.Within.{given}
use Rattle.fz_bounds.proofs.Failed.{next_fails, never_so}
use Rattle.fz_bounds.proofs.Lists.{is_there}
use Rattle.fz_bounds.proofs.bounded.BoundedConstraint.precede_in_turn.Goals as goal

pub returns-then-is_never : goal.returns-then-is_never
returns-then-is_never c = λ K f g.
    let xs = given c.args.self.now in
    let all = ints_at K xs 1 in
    let i = c.loop-place.place in
    let first : i - 1 < length (slots_at xs 0) = omega arith in
    let second : i < length (slots_at xs 0) = omega arith in
    let (a, at_a) = is_there K xs 0 (i - 1) first in
    let (b, at_b) = is_there K xs 0 i second in
    let fails : precedes a b all ≡ false = never_so c.precedes.result (precedes a b all) (search rules) (c.precedes.ensures K g a b (c.number_at-before.ensures K f a at_a) (c.number_at.ensures K f b at_b)) in
    next_fails (λ s t. precedes s t all) (ints_at K xs 0) (i - 1) i a b (omega arith) at_a at_b fails
