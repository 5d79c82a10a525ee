use Rattle.std.proofs.Common.{◌≡◌, ◌≤◌, true, length, subst, arith, FitsSigned, w64, to_z, of_z, ap, ◌∙◌, rules, sym}
use Rattle.std.specs.Int.{int_min}
use Rattle.std.proofs.lemmas.Int.{to_z-of_z}
use Rattle.std.proofs.lemmas.List.{take_all}
use Rattle.fz_kernel.specs.Views.{ints}
use Rattle.fz_kernel.proofs.Read.{ints_counted}
use Rattle.fz_kernel.proofs.Best.{is_best, is_the_best, not_below, one_more_down, downward}
use Rattle.fz_kernel.proofs.arrays.extremes.minimum.Goals as goal

pub loop-place-preserved : goal.loop-place-preserved
loop-place-preserved c =
    let m = to_z w64 c.loop-place.least-bits in
    let n = c.min-least.result in
    let x = c.int.result in
    let fits_x : FitsSigned w64 x = search rules in
    let fits_n : FitsSigned w64 n = search rules in
    one_more_down (ints c.args.elements.now) c.loop-place.place m (to_z w64 (of_z w64 n)) x c.int.ensures.read c.loop-place.invariant
    (to_z-of_z w64 n fits_n ∙ c.min-least.ensures.value ∙ ap (λ y. int_min m y) (to_z-of_z w64 x fits_x))

pub returns-clause-exact : goal.returns-clause-exact
returns-clause-exact c =
    let m = to_z w64 c.loop-place.least-bits in
    let xs = ints c.args.elements.now in
    let counted = ints_counted c.args.elements.now c.len-place-end.result c.len-place-end.ensures.counted in
    let all : length xs ≤ c.loop-place.place = omega (arith, counted, c.loop-place-test.false) in
    let best : is_best not_below m xs ≡ true = subst (λ l. is_best not_below m l ≡ true) (take_all c.loop-place.place xs all) c.loop-place.invariant in
    λ n. sym (is_the_best not_below downward xs m n best)
