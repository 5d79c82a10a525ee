use Rattle.std.proofs.Common.{◌≡◌, FitsSigned, w64, arith}
use Rattle.std.proofs.lemmas.Int.{ints as numerals, to_z-of_z}
use Rattle.fz_kernel.specs.of_meaning.Relations.{precedes}
use Rattle.fz_kernel.specs.Views.{ints}
use Rattle.fz_globals.proofs.Preceding.{second_comes, first_comes, neither_comes}
use Rattle.fz_globals.proofs.precedence.precedes.Goals as goal

pub returns-then-element-second : goal.returns-then-element-second
returns-then-element-second c =
    let s = c.args.first in
    let t = c.args.second in
    let x = c.int-element.result in
    let fits_s : FitsSigned w64 s = c.ranges.first in
    let fits_t : FitsSigned w64 t = c.ranges.second in
    let xs = ints c.args.elements.now in
    let same : x ≡ t = omega (arith, numerals) in
    record { exact = second_comes s t xs c.loop-place.place (precedes s t xs) (simp to_z-of_z at c.loop-place.invariant) x c.int-element.ensures.read same }

pub returns-then-element-first : goal.returns-then-element-first
returns-then-element-first c =
    let s = c.args.first in
    let t = c.args.second in
    let x = c.int-element.result in
    let fits_s : FitsSigned w64 s = c.ranges.first in
    let fits_t : FitsSigned w64 t = c.ranges.second in
    let xs = ints c.args.elements.now in
    let other : ¬ (x ≡ t) = λ same. omega (arith, numerals) in
    let same : x ≡ s = omega (arith, numerals) in
    record { exact = first_comes s t xs c.loop-place.place (precedes s t xs) (simp to_z-of_z at c.loop-place.invariant) x c.int-element.ensures.read other same }

pub loop-place-preserved : goal.loop-place-preserved
loop-place-preserved c =
    let s = c.args.first in
    let t = c.args.second in
    let x = c.int-element.result in
    let fits_s : FitsSigned w64 s = c.ranges.first in
    let fits_t : FitsSigned w64 t = c.ranges.second in
    let xs = ints c.args.elements.now in
    let other_t : ¬ (x ≡ t) = λ same. omega (arith, numerals) in
    let other_s : ¬ (x ≡ s) = λ same. omega (arith, numerals) in
    simp to_z-of_z (neither_comes s t xs c.loop-place.place (precedes s t xs) (simp to_z-of_z at c.loop-place.invariant) x c.int-element.ensures.read other_t other_s)
