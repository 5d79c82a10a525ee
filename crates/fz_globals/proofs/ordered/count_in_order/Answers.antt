use Rattle.std.proofs.Common.{◌≡◌, int_lt, int_le, length, filter, FitsSigned, w64, arith}
use Rattle.std.proofs.lemmas.Int.{ints, to_z-of_z}
use Rattle.fz_globals.proofs.Halving.{parts_add}
use Rattle.fz_globals.proofs.ordered.count_in_order.Goals as goal

pub overflow_sub-result : goal.overflow_sub-result
overflow_sub-result c =
    let fits : FitsSigned w64 c.args.value = c.ranges.value in
    let below : c.number_below.result ≡ length (filter (λ x. int_lt x c.args.value) c.args.sorted.now) = simp to_z-of_z at c.number_below.ensures in
    let up_to : c.number_up_to.result ≡ length (filter (λ x. int_le x c.args.value) c.args.sorted.now) = simp to_z-of_z at c.number_up_to.ensures in
    omega (arith, parts_add c.args.sorted.now c.args.value)

pub returns : goal.returns
returns c =
    let fits : FitsSigned w64 c.args.value = c.ranges.value in
    let below : c.number_below.result ≡ length (filter (λ x. int_lt x c.args.value) c.args.sorted.now) = simp to_z-of_z at c.number_below.ensures in
    let up_to : c.number_up_to.result ≡ length (filter (λ x. int_le x c.args.value) c.args.sorted.now) = simp to_z-of_z at c.number_up_to.ensures in
    omega (arith, ints, parts_add c.args.sorted.now c.args.value)
