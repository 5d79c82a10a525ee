use Rattle.std.proofs.Common.{◌≡◌, ◌<◌, ◌&&◌, ◌+ℤ◌, ◌-ℤ◌, false, int_le, length, pos, subst, arith, rules}
use Rattle.fz_model.specs.Relations.{lies_between}
use Rattle.fz_model.specs.of_builtins.of_kernel.Given.{int_at, ints_at, slots_at}
use Rattle.fz_bounds.specs.Decided.{LiesIn}
use Rattle.fz_bounds.specs.Within.{given}
use Rattle.fz_bounds.proofs.Failed.{never_so}
use Rattle.fz_model.proofs.of_builtins.Failing.{one_fails}
use Rattle.fz_bounds.proofs.Lists.{is_there, numbers_counted}
use Rattle.fz_bounds.proofs.bounded.BoundedConstraint.are_in_bins.Goals as goal

pub returns-then-is_never : goal.returns-then-is_never
returns-then-is_never c = λ K f g.
    let xs = given c.args.self.now in
    let bins = ints_at K xs 1 in
    let first = int_at K xs 3 in
    let size = pos (length (ints_at K xs 0)) in
    let last = (first +ℤ size) -ℤ pos 1 in
    let i = c.loop-item.item in
    let within : i < length (slots_at xs 1) = omega arith in
    let (b, at) = is_there K xs 1 i within in
    let counted = numbers_counted K xs 0 c.count.result c.count.ensures in
    let sized : LiesIn c.size.result size = subst (λ n. LiesIn c.size.result (pos n)) counted c.size.ensures in
    let ended : LiesIn c.minus-last.result last = c.minus-last.ensures (first +ℤ size) (pos 1) (c.plus.ensures first size (c.number-first.ensures K g) sized) c.of.ensures in
    let here = c.number_at-bin.ensures K f b at in
    let fails : lies_between first last b ≡ false = never_so c.and.result (int_le first b && int_le b last) (search rules) (c.and.ensures (int_le first b) (int_le b last) (c.at_most.ensures first b (c.number-first.ensures K g) here) (c.at_most-in-loop-item.ensures b last here ended)) in
    one_fails (lies_between first last) bins i b at fails
