use Rattle.std.proofs.Common.{◌≡◌, ◌+◌, drop, sym, subst}
use Rattle.fz_kernel.specs.Views.{bools}
use Rattle.fz_kernel.proofs.Passed.{turned, odd_of, one_true, one_false}
use Rattle.fz_kernel.proofs.arrays.truths.odd_number_true.Goals.{then-truth, else-truth}
use Rattle.fz_kernel.proofs.arrays.truths.odd_number_true.Goals as goal

pub loop-place-preserved : goal.loop-place-preserved
loop-place-preserved c =
    let xs = bools c.args.elements.now in
    let i = c.loop-place.place in
    elim c.if-truth.branch [
      | then-truth w ↦ subst (λ o. odd_of xs ≡ turned o (odd_of (drop (i + 1) xs))) (sym w.odd-is) (one_true xs i c.loop-place.odd c.truth.result c.truth.ensures.read w.if-truth.true c.loop-place.invariant)
      | else-truth w ↦ subst (λ o. odd_of xs ≡ turned o (odd_of (drop (i + 1) xs))) (sym w.odd-is) (one_false xs i c.loop-place.odd c.truth.result c.truth.ensures.read w.if-truth.false c.loop-place.invariant)
    ]
