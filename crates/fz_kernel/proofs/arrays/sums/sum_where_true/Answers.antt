use Rattle.std.proofs.Common.{◌≡◌, pos, neg_ℤ, ◌*◌, ◌+ℤ◌, ◌≤ℤ◌, FitsSigned, w64, to_z, [], drop, length, get_or, arith, rules}
use Rattle.std.specs.Int.{w128}
use Rattle.std.proofs.lemmas.Int.{ints as numerals}
use Rattle.std.proofs.lemmas.Option.{slice_get-get_or}
use Rattle.fz_store.specs.of_meaning.Relations.{where_true}
use Rattle.fz_kernel.specs.Views.{ints, bools}
use Rattle.fz_kernel.proofs.Left.{one_ends}
use Rattle.fz_kernel.proofs.Read.{ints_counted, bools_counted}
use Rattle.fz_kernel.proofs.Added.{one_counted, one_passed, none_true_left, all_counted}
use Rattle.fz_kernel.proofs.arrays.sums.sum_where_true.Goals.{then-truth, else-truth}
use Rattle.fz_kernel.proofs.arrays.sums.sum_where_true.Goals as goal

pub loop-place-preserved : goal.loop-place-preserved
loop-place-preserved c =
    let xs = ints c.args.a.now in
    let bs = bools c.args.b.now in
    let s = to_z w128 c.loop-place.sum-bits in
    let i = c.loop-place.place in
    elim c.if-truth.branch [
      | then-truth w ↦
          let fits : FitsSigned w64 w.int.result = search rules in
          let low : neg_ℤ (pos (9223372036854775808 * i)) ≤ℤ s = c.loop-place.invariant.low in
          let high : s ≤ℤ pos (9223372036854775808 * i) = c.loop-place.invariant.high in
          let is : to_z w128 c.if-truth.sum-bits ≡ (s +ℤ w.int.result) = omega (arith, numerals) in
          one_counted xs bs i s w.int.result c.truth.result c.loop-place.invariant w.int.ensures.read c.truth.ensures.read
          (to_z w128 c.if-truth.sum-bits) is w.if-truth.true fits
      | else-truth w ↦
          let counted : c.len.result ≡ length xs = ints_counted c.args.a.now c.len.result c.len.ensures.counted in
          one_passed xs bs i s (get_or xs i (pos 0)) c.truth.result c.loop-place.invariant (slice_get-get_or xs i (pos 0) (omega arith)) c.truth.ensures.read
          (to_z w128 c.if-truth.sum-bits) w.sum-is w.if-truth.false
    ]

pub returns : goal.returns
returns c =
    let xs = ints c.args.a.now in
    let bs = bools c.args.b.now in
    let i = c.loop-place.place in
    let counted_a : c.len.result ≡ length xs = ints_counted c.args.a.now c.len.result c.len.ensures.counted in
    let counted_b : c.len-2.result ≡ length bs = bools_counted c.args.b.now c.len-2.result c.len-2.ensures.counted in
    let ended : where_true (drop i xs) (drop i bs) ≡ [] = none_true_left xs bs i (one_ends (length xs) (length bs) c.min-place-end.result i (omega arith) (omega arith)) in
    record { exact = all_counted xs bs i (to_z w128 c.loop-place.sum-bits) c.loop-place.invariant ended }
