use Rattle.std.proofs.Common.{◌≡◌, ◌+ℤ◌, ◌-ℤ◌, int_cmp, length, pos, subst, to_z, arith, rules}
use Rattle.std.proofs.lemmas.Int.{ints}
use Rattle.std.specs.Int.{w128}
use Rattle.std.specs.FinSet.{from_list, len}
use Rattle.fz_model.specs.Relations.{values_of}
use Rattle.fz_model.specs.of_builtins.of_kernel.Given.{ints_at}
use Rattle.fz_bounds.specs.Decided.{LiesIn}
use Rattle.fz_bounds.specs.Within.{given}
use Rattle.fz_bounds.proofs.Lists.{numbers_counted}
use Rattle.fz_bounds.proofs.Picked.{values_above, values_below, values_lie}
use Rattle.fz_bounds.proofs.bounded.BoundedConstraint.number_of_values.Goals as goal

pub returns : goal.returns
returns c = λ K g.
    let xs = given c.args.self.now in
    let ns = ints_at K xs 1 in
    let vs = c.in_ok-fixed.fixed.items in
    let n = c.len.result in
    let every = c.count.result in
    let values = length (values_of ns) in
    let wide : to_z w128 n ≡ pos n = omega (arith, ints, c.len.ensures.bound) in
    let lies : LiesIn c.of-least.result (pos n) = subst (LiesIn c.of-least.result) wide c.of-least.ensures in
    let is : n ≡ len (from_list {R = int_cmp} vs) = search rules in
    let (least, most) = values_lie vs ns n (c.in_ok-fixed.ensures K g) is in
    let counted : every ≡ length ns = numbers_counted K xs 1 every c.count.ensures in
    let picked : c.len-2.result ≡ length vs = search rules in
    let some = c.len-2.result in
    let more = pos every -ℤ pos some in
    c.hull.ensures (pos n) (pos n +ℤ more) (pos values) lies
    (c.plus.ensures (pos n) more lies (c.minus-others.ensures (pos every) (pos some) c.size.ensures c.size-2.ensures))
    (values_above n every some values least)
    (values_below n every some values (omega (arith, most)))
