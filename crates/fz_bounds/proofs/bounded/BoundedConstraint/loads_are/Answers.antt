use Rattle.std.proofs.Common.{◌≡◌, ◌<◌, ◌+ℤ◌, false, length, pos, refl, arith, rules}
use Rattle.fz_model.specs.Relations.{◌=ℤ◌, load_of, loads_are}
use Rattle.fz_model.specs.of_builtins.of_kernel.Given.{int_at, ints_at, slots_at}
use Rattle.fz_bounds.specs.Within.{given}
use Rattle.fz_bounds.proofs.Failed.{never_so}
use Rattle.fz_model.proofs.of_builtins.Failing.{indexed_fails}
use Rattle.fz_bounds.proofs.Lists.{is_there}
use Rattle.fz_bounds.proofs.bounded.BoundedConstraint.loads_are.Goals as goal

pub returns-then-is_never : goal.returns-then-is_never
returns-then-is_never c = λ K f g h k.
    let xs = given c.args.self.now in
    let bins = ints_at K xs 1 in
    let weights = ints_at K xs 2 in
    let first = int_at K xs 3 in
    let i = c.loop-place.place in
    let within : i < length (slots_at xs 0) = omega arith in
    let (n, at) = is_there K xs 0 i within in
    let load = load_of bins weights (first +ℤ pos i) in
    let fails : (n =ℤ load) ≡ false = never_so c.equal.result (n =ℤ load) (search rules) (c.equal.ensures n load (c.number_at.ensures K f n at) (c.load_of-load.ensures K g h (first +ℤ pos i) (c.plus.ensures first (pos i) (c.number.ensures K k) c.size.ensures))) in
    indexed_fails (λ m y. y =ℤ load_of bins weights m) (λ m ys. loads_are m bins weights ys) (λ m y ys. refl) first (ints_at K xs 0) i n at fails
