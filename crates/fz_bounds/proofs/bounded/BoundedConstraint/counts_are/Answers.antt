use Rattle.std.proofs.Common.{◌≡◌, ◌<◌, false, length, arith, rules}
use Rattle.fz_model.specs.Relations.{◌=ℤ◌, count_of}
use Rattle.fz_model.specs.of_builtins.of_kernel.Given.{ints_at, slots_at}
use Rattle.fz_bounds.specs.Within.{given}
use Rattle.fz_bounds.proofs.Failed.{never_so}
use Rattle.fz_model.proofs.of_builtins.Failing.{both_fail}
use Rattle.fz_bounds.proofs.Lists.{is_there}
use Rattle.fz_bounds.proofs.bounded.BoundedConstraint.counts_are.Goals as goal

pub returns-then-is_never : goal.returns-then-is_never
returns-then-is_never c = λ K f g h.
    let xs = given c.args.self.now in
    let array = ints_at K xs c.args.array in
    let i = c.loop-place.place in
    let first : i < length (slots_at xs c.args.cover) = omega arith in
    let second : i < length (slots_at xs c.args.numbers) = omega arith in
    let (v, at_v) = is_there K xs c.args.cover i first in
    let (n, at_n) = is_there K xs c.args.numbers i second in
    let fails : (count_of array v =ℤ n) ≡ false = never_so c.equal.result (count_of array v =ℤ n) (search rules) (c.equal.ensures (count_of array v) n (c.count_of-count.ensures K f v (c.number_at.ensures K g v at_v)) (c.number_at-in-loop-place.ensures K h n at_n)) in
    both_fail (λ v n. count_of array v =ℤ n) (ints_at K xs c.args.cover) (ints_at K xs c.args.numbers) i v n at_v at_n fails
