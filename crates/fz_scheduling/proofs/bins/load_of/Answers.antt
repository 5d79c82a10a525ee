use Rattle.std.proofs.Common.{◌≡◌, ◌+◌, ◌*◌, ℤ, pos, neg_ℤ, ◌+ℤ◌, ◌≤ℤ◌, ◌∷◌, drop, FitsSigned, w64, to_z, of_z, sym, ap, subst, ◌∙◌, arith, rules}
use Rattle.std.specs.Int.{w128}
use Rattle.std.specs.List.{zip}
use Rattle.std.proofs.lemmas.Int.{ints as numerals, to_z-of_z}
use Rattle.fz_kernel.specs.of_meaning.Relations.{◌=ℤ◌}
use Rattle.fz_kernel.specs.Views.{ints}
use Rattle.fz_scheduling.specs.Places.{number_at, span_at}
use Rattle.fz_scheduling.proofs.Chosen.{chosen, one_chosen, one_left_out, all_chosen}
use Rattle.fz_scheduling.proofs.Zipped.{next_span}
use Rattle.fz_scheduling.proofs.bins.load_of.Goals.{then-is_in, else-is_in}
use Rattle.fz_scheduling.proofs.bins.load_of.Goals as goal

pub loop-place-preserved : goal.loop-place-preserved
loop-place-preserved c =
    let xs = ints c.args.bins.now in
    let ys = ints c.args.weights.now in
    let pairs = zip xs ys in
    let bin = to_z w128 (of_z w128 c.args.bin) in
    let test = λ (b : ℤ). b =ℤ bin in
    let i = c.loop-place.place in
    let s = to_z w128 c.loop-place.load-bits in
    let t = to_z w128 c.if-is_in.load-bits in
    let next : drop i pairs ≡ span_at xs ys i ∷ drop (i + 1) pairs = next_span xs ys i (omega arith) in
    elim c.if-is_in.branch [
      | then-is_in w ↦
          let fits : FitsSigned w64 w.number_at.result = search rules in
          let low : neg_ℤ (pos (9223372036854775808 * i)) ≤ℤ s = c.loop-place.invariant.low in
          let high : s ≤ℤ pos (9223372036854775808 * i) = c.loop-place.invariant.high in
          let is : t ≡ (s +ℤ w.number_at.result) = omega (arith, numerals) in
          one_chosen test pairs i s (number_at xs i) (number_at ys i) c.loop-place.invariant next
          t (is ∙ ap (λ n. s +ℤ n) w.number_at.ensures) (sym c.is_in.ensures ∙ w.if-is_in.true) (subst (λ n. FitsSigned w64 n) w.number_at.ensures fits)
      | else-is_in w ↦
          one_left_out test pairs i s (number_at xs i) (number_at ys i) c.loop-place.invariant next
          t w.load-is (sym c.is_in.ensures ∙ w.if-is_in.false)
    ]

pub returns : goal.returns
returns c =
    let pairs = zip (ints c.args.bins.now) (ints c.args.weights.now) in
    let bin = to_z w128 (of_z w128 c.args.bin) in
    record {
      exact = all_chosen (λ (b : ℤ). b =ℤ bin) pairs c.loop-place.place (to_z w128 c.loop-place.load-bits) c.loop-place.invariant (omega arith)
          ∙ ap (λ v. chosen (λ (b : ℤ). b =ℤ v) pairs) (to_z-of_z w128 c.args.bin c.ranges.bin);
    }
