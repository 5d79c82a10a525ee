use Rattle.std.proofs.Common.{◌≡◌, ◌+ℤ◌, pos, true, false, int_le, FitsSigned, w64, to_z, of_z, ap, ◌∙◌, arith, rules}
use Rattle.std.specs.Int.{int_max}
use Rattle.std.proofs.lemmas.Int.{ints as numerals, to_z-of_z}
use Rattle.fz_kernel.specs.of_meaning.Relations.{rises_by_one}
use Rattle.fz_kernel.specs.Views.{ints}
use Rattle.fz_globals.proofs.Preceding.{rises, rises_too_far}
use Rattle.fz_globals.proofs.precedence.rises_by_one.Goals as goal

pub returns-then-from : goal.returns-then-from
returns-then-from c =
    let m = to_z w64 c.loop-place.most-bits in
    let x = c.int-element.result in
    let xs = ints c.args.elements.now in
    let fits_x : FitsSigned w64 x = search rules in
    let above : int_le x (m +ℤ pos 1) ≡ false = grind (arith, numerals) in
    record { exact = rises_too_far m xs c.loop-place.place (rises_by_one (pos 0) xs) c.loop-place.invariant x c.int-element.ensures.read above }

pub loop-place-preserved : goal.loop-place-preserved
loop-place-preserved c =
    let m = to_z w64 c.loop-place.most-bits in
    let n = c.max-most.result in
    let x = c.int-element.result in
    let xs = ints c.args.elements.now in
    let fits_x : FitsSigned w64 x = search rules in
    let fits_n : FitsSigned w64 n = search rules in
    let within : int_le x (m +ℤ pos 1) ≡ true = grind (arith, numerals) in
    rises m xs c.loop-place.place (rises_by_one (pos 0) xs) c.loop-place.invariant x c.int-element.ensures.read (to_z w64 (of_z w64 n))
    (to_z-of_z w64 n fits_n ∙ c.max-most.ensures.value ∙ ap (λ y. int_max m y) (to_z-of_z w64 x fits_x)) within
