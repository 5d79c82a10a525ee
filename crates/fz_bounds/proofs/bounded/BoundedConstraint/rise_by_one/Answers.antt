use Rattle.std.proofs.Common.{◌≡◌, ◌<◌, ◌+ℤ◌, false, int_le, length, pos, subst, true, arith, rules}
use Rattle.std.specs.Int.{int_max}
use Rattle.fz_model.specs.Relations.{rises_by_one}
use Rattle.fz_model.specs.of_builtins.of_kernel.Given.{ints_at, slots_at}
use Rattle.fz_model.proofs.of_builtins.of_kernel.Left.{next}
use Rattle.fz_model.proofs.Values.{and_second}
use Rattle.fz_bounds.specs.Within.{given}
use Rattle.fz_bounds.proofs.Failed.{never_so, rise_fails}
use Rattle.fz_bounds.proofs.Lists.{is_there}
use Rattle.fz_bounds.proofs.bounded.BoundedConstraint.rise_by_one.Goals as goal

pub loop-place-init : goal.loop-place-init
loop-place-init c = λ K f. (pos 0, c.of-most.ensures, λ h. h)

pub loop-place-preserved : goal.loop-place-preserved
loop-place-preserved c = λ K f.
    let xs = given c.args.self.now in
    let p = c.loop-place.place in
    let within : p < length (slots_at xs 0) = omega arith in
    let (n, at) = is_there K xs 0 p within in
    let (m, lies, rest) = c.loop-place.invariant K f in
    (int_max m n, c.max-most.ensures m n lies (c.number_at-number.ensures K f n at), λ h. and_second (int_le n (m +ℤ pos 1)) _ (subst (λ l. rises_by_one m l ≡ true) (next (ints_at K xs 0) p n at) (rest h)))

pub returns-then-is_never : goal.returns-then-is_never
returns-then-is_never c = λ K f.
    let xs = given c.args.self.now in
    let p = c.loop-place.place in
    let within : p < length (slots_at xs 0) = omega arith in
    let (n, at) = is_there K xs 0 p within in
    let (m, lies, rest) = c.loop-place.invariant K f in
    let fails : int_le n (m +ℤ pos 1) ≡ false = never_so c.at_most.result (int_le n (m +ℤ pos 1)) (search rules) (c.at_most.ensures n (m +ℤ pos 1) (c.number_at-number.ensures K f n at) (c.plus.ensures m (pos 1) lies c.of.ensures)) in
    rise_fails (rises_by_one (pos 0) (ints_at K xs 0)) m n _ (λ h. subst (λ l. rises_by_one m l ≡ true) (next (ints_at K xs 0) p n at) (rest h)) fails
