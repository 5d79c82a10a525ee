use Rattle.std.proofs.Common.{◌≡◌, ◌<◌, ◌&&◌, false, int_le, length, arith, rules}
use Rattle.fz_model.specs.Relations.{count_of}
use Rattle.fz_model.specs.of_builtins.of_kernel.Given.{ints_at, slots_at}
use Rattle.fz_bounds.specs.Within.{given}
use Rattle.fz_bounds.proofs.Failed.{count_fails, never_so}
use Rattle.fz_bounds.proofs.Lists.{is_there}
use Rattle.fz_bounds.proofs.bounded.BoundedConstraint.counts_lie.Goals as goal

pub returns-then-is_never : goal.returns-then-is_never
returns-then-is_never c = λ K f g h k.
    let xs = given c.args.self.now in
    let array = ints_at K xs 0 in
    let i = c.loop-place.place in
    let first : i < length (slots_at xs 1) = omega arith in
    let second : i < length (slots_at xs 2) = omega arith in
    let third : i < length (slots_at xs 3) = omega arith in
    let (v, at_v) = is_there K xs 1 i first in
    let (m, at_m) = is_there K xs 2 i second in
    let (n, at_n) = is_there K xs 3 i third in
    let count = count_of array v in
    let counted = c.count_of-count.ensures K f v (c.number_at.ensures K g v at_v) in
    let fails : (int_le m count && int_le count n) ≡ false = never_so c.and.result (int_le m count && int_le count n) (search rules) (c.and.ensures (int_le m count) (int_le count n) (c.at_most-enough.ensures m count (c.number_at-in-loop-place.ensures K h m at_m) counted) (c.at_most.ensures count n counted (c.number_at-in-loop-place-2.ensures K k n at_n))) in
    count_fails array (ints_at K xs 1) (ints_at K xs 2) (ints_at K xs 3) i v m n at_v at_m at_n fails
