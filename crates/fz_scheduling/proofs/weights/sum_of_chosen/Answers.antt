use Rattle.std.proofs.Common.{◌≡◌, ◌+◌, ◌*◌, true, false, pos, neg_ℤ, ◌+ℤ◌, ◌≤ℤ◌, ◌∷◌, drop, FitsSigned, w64, to_z, of_z, sym, ap, subst, ◌∙◌, arith, rules}
use Rattle.std.specs.Int.{w128}
use Rattle.std.specs.List.{zip}
use Rattle.std.specs.FinSet.{contains}
use Rattle.std.proofs.lemmas.Int.{ints as numerals, to_z-of_z}
use Rattle.fz_kernel.specs.Views.{ints}
use Rattle.fz_scheduling.specs.Places.{number_at, span_at}
use Rattle.fz_scheduling.proofs.Chosen.{one_chosen, one_left_out, all_chosen}
use Rattle.fz_scheduling.proofs.Zipped.{next_span}
use Rattle.fz_scheduling.proofs.weights.sum_of_chosen.Goals.{then-contains, else-contains}
use Rattle.fz_scheduling.proofs.weights.sum_of_chosen.Goals as goal

pub loop-place-preserved : goal.loop-place-preserved
loop-place-preserved c =
    let xs = ints c.args.things.now in
    let ys = ints c.args.weights.now in
    let pairs = zip xs ys in
    let test = contains c.args.chosen.now in
    let i = c.loop-place.place in
    let s = to_z w128 c.loop-place.sum-bits in
    let t = to_z w128 c.if-contains.sum-bits in
    let fits_thing : FitsSigned w64 c.number_at.result = search rules in
    let told : c.contains.result ≡ test c.number_at.result = simp to_z-of_z at c.contains.ensures in
    let chosen : test (number_at xs i) ≡ c.contains.result = ap test (sym c.number_at.ensures) ∙ sym told in
    let next : drop i pairs ≡ span_at xs ys i ∷ drop (i + 1) pairs = next_span xs ys i (omega arith) in
    elim c.if-contains.branch [
      | then-contains w ↦
          let fits : FitsSigned w64 w.number_at-then-contains.result = search rules in
          let low : neg_ℤ (pos (9223372036854775808 * i)) ≤ℤ s = c.loop-place.invariant.low in
          let high : s ≤ℤ pos (9223372036854775808 * i) = c.loop-place.invariant.high in
          let is : t ≡ (s +ℤ w.number_at-then-contains.result) = omega (arith, numerals) in
          one_chosen test pairs i s (number_at xs i) (number_at ys i) c.loop-place.invariant next
          t (is ∙ ap (λ n. s +ℤ n) w.number_at-then-contains.ensures) (chosen ∙ w.if-contains.true) (subst (λ n. FitsSigned w64 n) w.number_at-then-contains.ensures fits)
      | else-contains w ↦
          one_left_out test pairs i s (number_at xs i) (number_at ys i) c.loop-place.invariant next
          t w.sum-is (chosen ∙ w.if-contains.false)
    ]

pub returns : goal.returns
returns c =
    all_chosen (contains c.args.chosen.now) (zip (ints c.args.things.now) (ints c.args.weights.now)) c.loop-place.place (to_z w128 c.loop-place.sum-bits) c.loop-place.invariant (omega arith)
