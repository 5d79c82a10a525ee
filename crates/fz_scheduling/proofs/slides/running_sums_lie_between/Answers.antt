use Rattle.std.proofs.Common.{◌≡◌, ◌+◌, ◌<◌, ◌≤◌, ◌+ℤ◌, ◌-ℤ◌, ◌≤ℤ◌, true, length, option_map, FitsSigned, w64, to_z, of_z, sym, ap, ◌∙◌, arith, rules}
use Rattle.std.specs.Int.{w128}
use Rattle.std.specs.List.{list_all}
use Rattle.std.proofs.lemmas.Int.{ints as numerals, to_z-of_z}
use Rattle.fz_kernel.specs.of_meaning.Relations.{total, lies_between, windows}
use Rattle.fz_kernel.specs.Views.{ints}
use Rattle.fz_scheduling.specs.Places.{number_at, terms}
use Rattle.fz_scheduling.proofs.Terms.{terms_counted}
use Rattle.fz_scheduling.proofs.Windowed.{between_low, between_high, slides_out, slides_on, last_run}
use Rattle.fz_scheduling.proofs.slides.running_sums_lie_between.Goals as goal

pub returns-then-not-is_between : goal.returns-then-not-is_between
returns-then-not-is_between c =
    let o = option_map (λ s. s.now) c.args.counted in
    let xs = terms o (ints c.args.xs.now) in
    let counted : length xs ≡ length (ints c.args.xs.now) = terms_counted o (ints c.args.xs.now) in
    let low = to_z w64 (of_z w64 c.args.low) in
    let high = to_z w64 (of_z w64 c.args.high) in
    let k = c.args.width in
    let i = c.loop-start.start in
    let s = to_z w128 c.loop-start.sum-bits in
    let inside : i + k ≤ length xs = omega arith in
    slides_out low high k xs i s c.loop-start.invariant c.requires.some inside (sym c.is_between.ensures ∙ c.if-not-is_between.true)
    ∙ ap (λ m. list_all (λ w. lies_between m high (total w)) (windows k xs)) (to_z-of_z w64 c.args.low c.ranges.low)
    ∙ ap (λ m. list_all (λ w. lies_between c.args.low m (total w)) (windows k xs)) (to_z-of_z w64 c.args.high c.ranges.high)

passed : (c : goal.After-from-new) → lies_between (to_z w64 (of_z w64 c.args.low))
    (to_z w64 (of_z w64 c.args.high)) (to_z w128 c.loop-start.sum-bits) ≡ true
passed c = sym c.is_between.ensures ∙ c.if-not-is_between.false

pub overflow_sub-sum : goal.overflow_sub-sum
overflow_sub-sum c =
    let low = to_z w64 (of_z w64 c.args.low) in
    let high = to_z w64 (of_z w64 c.args.high) in
    let s = to_z w128 c.loop-start.sum-bits in
    let fits_left : FitsSigned w64 c.term_at.result = search rules in
    let above : low ≤ℤ s = between_low low high s (passed c) in
    let below : s ≤ℤ high = between_high low high s (passed c) in
    omega (arith, numerals)

pub overflow_add-sum : goal.overflow_add-sum
overflow_add-sum c =
    let low = to_z w64 (of_z w64 c.args.low) in
    let high = to_z w64 (of_z w64 c.args.high) in
    let s = to_z w128 c.loop-start.sum-bits in
    let fits_left : FitsSigned w64 c.term_at.result = search rules in
    let fits_new : FitsSigned w64 c.term_at-in-loop-start.result = search rules in
    let above : low ≤ℤ s = between_low low high s (passed c) in
    let below : s ≤ℤ high = between_high low high s (passed c) in
    omega (arith, numerals)

pub loop-start-preserved : goal.loop-start-preserved
loop-start-preserved c =
    let o = option_map (λ s. s.now) c.args.counted in
    let xs = terms o (ints c.args.xs.now) in
    let counted : length xs ≡ length (ints c.args.xs.now) = terms_counted o (ints c.args.xs.now) in
    let low = to_z w64 (of_z w64 c.args.low) in
    let high = to_z w64 (of_z w64 c.args.high) in
    let k = c.args.width in
    let i = c.loop-start.start in
    let s = to_z w128 c.loop-start.sum-bits in
    let x = c.term_at.result in
    let y = c.term_at-in-loop-start.result in
    let fits_left : FitsSigned w64 x = search rules in
    let fits_new : FitsSigned w64 y = search rules in
    let above : low ≤ℤ s = between_low low high s (passed c) in
    let below : s ≤ℤ high = between_high low high s (passed c) in
    let less = to_z w128 (of_z w128 (s -ℤ to_z w128 (of_z w128 c.from-left.result))) in
    let t = to_z w128 (of_z w128 (less +ℤ to_z w128 (of_z w128 c.from-new.result))) in
    let is : t ≡ ((s -ℤ x) +ℤ y) = omega (arith, numerals) in
    let inside : i + k ≤ length xs = omega arith in
    let more : i + k < length xs = omega arith in
    slides_on low high k xs i s c.loop-start.invariant c.requires.some inside (passed c) more t
    (is ∙ ap (λ n. (s -ℤ n) +ℤ y) c.term_at.ensures ∙ ap (λ n. (s -ℤ number_at xs i) +ℤ n) c.term_at-in-loop-start.ensures)

pub returns : goal.returns
returns c =
    let o = option_map (λ s. s.now) c.args.counted in
    let xs = terms o (ints c.args.xs.now) in
    let counted : length xs ≡ length (ints c.args.xs.now) = terms_counted o (ints c.args.xs.now) in
    let low = to_z w64 (of_z w64 c.args.low) in
    let high = to_z w64 (of_z w64 c.args.high) in
    let k = c.args.width in
    let i = c.loop-start.start in
    let s = to_z w128 c.loop-start.sum-bits in
    let fits : k ≤ length (ints c.args.xs.now) = c.requires.fits in
    let end : i + k ≡ length xs = omega arith in
    let inside : i + k ≤ length xs = omega arith in
    c.is_between-2.ensures
    ∙ last_run low high k xs i s c.loop-start.invariant c.requires.some inside end
    ∙ ap (λ m. list_all (λ w. lies_between m high (total w)) (windows k xs)) (to_z-of_z w64 c.args.low c.ranges.low)
    ∙ ap (λ m. list_all (λ w. lies_between c.args.low m (total w)) (windows k xs)) (to_z-of_z w64 c.args.high c.ranges.high)
