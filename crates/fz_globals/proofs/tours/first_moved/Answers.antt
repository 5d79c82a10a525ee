use Rattle.std.proofs.Common.{◌≡◌, ◌+◌, ◌-ℤ◌, pos, true, false, drop, slice_get, FitsSigned, w64, sym, ap, ◌∙◌, arith, rules}
use Rattle.std.proofs.lemmas.Int.{ints as numerals, to_z-of_z}
use Rattle.fz_kernel.specs.of_meaning.Relations.{◌=ℤ◌, as_places, moved_from}
use Rattle.fz_kernel.specs.Views.{ints}
use Rattle.fz_globals.proofs.Led.{as_place, placed_at, shifted}
use Rattle.fz_globals.proofs.Walked.{stays, moves}
use Rattle.fz_globals.proofs.tours.first_moved.Goals as goal

pub returns-then-place_in-place-clause-found : goal.returns-then-place_in-place-clause-found
returns-then-place_in-place-clause-found c =
    let o = c.args.first in
    let x = c.int.result in
    let i = c.loop-place.place in
    let fits_o : FitsSigned w64 o = c.ranges.first in
    let fits_x : FitsSigned w64 x = search rules in
    let xs = ints c.args.next.now in
    let f = as_places o xs in
    let told : c.place_in.result ≡ (x -ℤ o) = simp to_z-of_z at c.place_in.ensures in
    let so_far : moved_from (pos 1) f ≡ moved_from (pos (i + 1)) (drop i f) = simp to_z-of_z at c.loop-place.invariant in
    let other : (c.place_in.result =ℤ pos i) ≡ false = grind (arith, numerals) in
    ap (λ l. slice_get l 0) (so_far ∙ moves f i (as_place o x) (placed_at o xs i x c.int.ensures.read) (sym (ap (λ d. d =ℤ pos i) told ∙ shifted (x -ℤ o) (pos i)) ∙ other))

pub loop-place-preserved : goal.loop-place-preserved
loop-place-preserved c =
    let o = c.args.first in
    let x = c.int.result in
    let i = c.loop-place.place in
    let fits_o : FitsSigned w64 o = c.ranges.first in
    let fits_x : FitsSigned w64 x = search rules in
    let xs = ints c.args.next.now in
    let f = as_places o xs in
    let told : c.place_in.result ≡ (x -ℤ o) = simp to_z-of_z at c.place_in.ensures in
    let so_far : moved_from (pos 1) f ≡ moved_from (pos (i + 1)) (drop i f) = simp to_z-of_z at c.loop-place.invariant in
    let same : (c.place_in.result =ℤ pos i) ≡ true = grind (arith, numerals) in
    simp to_z-of_z (so_far ∙ stays f i (as_place o x) (placed_at o xs i x c.int.ensures.read) (sym (ap (λ d. d =ℤ pos i) told ∙ shifted (x -ℤ o) (pos i)) ∙ same))
