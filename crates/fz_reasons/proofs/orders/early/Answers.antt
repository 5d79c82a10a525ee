use Rattle.std.proofs.Common.{◌≡◌, Some, slice_get, w64, to_z, of_z, sym, ◌∙◌, arith}
use borrow.Author.Count.{below_more}
use Rattle.std.proofs.lemmas.Int.{ints as numerals, to_z-of_z}
use Rattle.std.proofs.lemmas.Option.{same_Some}
use Rattle.fz_builtins.specs.of_kernel.Views.{ints}
use Rattle.fz_reasons.proofs.orders.early.Goals as goal

pub loop-place-preserved : goal.loop-place-preserved
loop-place-preserved c =
    let before = to_z w64 (of_z w64 c.args.before) in
    let is : before ≡ c.args.before = to_z-of_z w64 c.args.before c.ranges.before in
    below_more (λ k. slice_get (ints c.args.elements.now) k ≡ Some before → ⊥) c.loop-place.place c.loop-place.invariant
    (λ e. let same : c.int-in-loop-place.result ≡ before = same_Some _ _ (sym c.int-in-loop-place.ensures.read ∙ e) in absurd (omega (arith, numerals, c.if-int-before.false)))
