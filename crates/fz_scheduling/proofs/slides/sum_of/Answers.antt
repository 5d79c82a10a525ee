use Rattle.std.proofs.Common.{◌≡◌, ◌+◌, ◌*◌, ◌<◌, ◌≤◌, pos, neg_ℤ, ◌+ℤ◌, ◌≤ℤ◌, drop, length, option_map, FitsSigned, w64, to_z, of_z, sym, ap, subst, ◌∙◌, arith, rules}
use Rattle.std.specs.Int.{w128}
use Rattle.std.proofs.lemmas.Int.{ints as numerals}
use Rattle.std.proofs.lemmas.List.{get_or-drop, length-drop}
use Rattle.fz_kernel.specs.Views.{ints}
use Rattle.fz_scheduling.specs.Places.{number_at, terms}
use Rattle.fz_scheduling.proofs.Terms.{terms_counted}
use Rattle.fz_scheduling.proofs.Windowed.{one_summed}
use Rattle.fz_scheduling.proofs.slides.sum_of.Goals as goal

pub loop-place-preserved : goal.loop-place-preserved
loop-place-preserved c =
    let o = option_map (λ s. s.now) c.args.counted in
    let xs = terms o (ints c.args.xs.now) in
    let counted : length xs ≡ length (ints c.args.xs.now) = terms_counted o (ints c.args.xs.now) in
    let part = drop c.args.start xs in
    let i = c.loop-place.place in
    let s = to_z w128 c.loop-place.sum-bits in
    let t = to_z w128 (of_z w128 (s +ℤ to_z w128 (of_z w128 c.from-sum.result))) in
    let n = c.term_at.result in
    let fits : FitsSigned w64 n = search rules in
    let low : neg_ℤ (pos (9223372036854775808 * i)) ≤ℤ s = c.loop-place.invariant.low in
    let high : s ≤ℤ pos (9223372036854775808 * i) = c.loop-place.invariant.high in
    let is : t ≡ (s +ℤ n) = omega (arith, numerals) in
    let inside : i < length part = omega (arith, length-drop c.args.start xs) in
    let there : n ≡ number_at part i = c.term_at.ensures ∙ sym (get_or-drop c.args.start xs i (pos 0)) in
    one_summed part i s t c.loop-place.invariant inside (is ∙ ap (λ m. s +ℤ m) there) (subst (λ m. FitsSigned w64 m) there fits)

pub returns-clause-within : goal.returns-clause-within
returns-clause-within c =
    let o = option_map (λ s. s.now) c.args.counted in
    let counted : length (terms o (ints c.args.xs.now)) ≡ length (ints c.args.xs.now) = terms_counted o (ints c.args.xs.now) in
    let within : c.args.start + c.args.width ≤ length (ints c.args.xs.now) = c.requires in
    omega arith
