use Rattle.std.proofs.Common.{◌≡◌, suc, ◌+◌, ◌-ℤ◌, pos, true, false, drop, length, FitsSigned, w64, sym, ap, ◌∙◌, arith, rules}
use Rattle.std.proofs.lemmas.Int.{ints as numerals, to_z-of_z}
use Rattle.fz_kernel.specs.of_meaning.Relations.{◌=ℤ◌, as_places, moved_from}
use Rattle.fz_kernel.specs.Views.{ints}
use Rattle.fz_globals.proofs.Led.{as_place, placed_at, shifted}
use Rattle.fz_globals.proofs.Walked.{stays, moves}
use Rattle.fz_globals.proofs.tours.count_moved.Goals.{then-place_in-place, else-place_in-place}
use Rattle.fz_globals.proofs.tours.count_moved.Goals as goal

pub loop-place-preserved : goal.loop-place-preserved
loop-place-preserved c =
    let o = c.args.first in
    let x = c.int.result in
    let i = c.loop-place.place in
    let fits_o : FitsSigned w64 o = c.ranges.first in
    let fits_x : FitsSigned w64 x = search rules in
    let xs = ints c.args.next.now in
    let f = as_places o xs in
    let there = placed_at o xs i x c.int.ensures.read in
    let told : c.place_in.result ≡ (x -ℤ o) = simp to_z-of_z at c.place_in.ensures in
    let counted : length (moved_from (pos 1) f) ≡ c.loop-place.count + length (moved_from (pos (i + 1)) (drop i f)) = simp to_z-of_z at c.loop-place.invariant.counted in
    elim c.if-place_in-place.branch [
      | then-place_in-place w ↦
          let other : (c.place_in.result =ℤ pos i) ≡ false = grind (arith, numerals) in
          let one : length (moved_from (pos (i + 1)) (drop i f)) ≡ suc (length (moved_from (pos (i + 1 + 1)) (drop (i + 1) f))) =
          ap length (moves f i (as_place o x) there (sym (ap (λ d. d =ℤ pos i) told ∙ shifted (x -ℤ o) (pos i)) ∙ other)) in
          simp to_z-of_z (record { within = omega arith; counted = omega arith })
      | else-place_in-place w ↦
          let same : (c.place_in.result =ℤ pos i) ≡ true = grind (arith, numerals) in
          let one : length (moved_from (pos (i + 1)) (drop i f)) ≡ length (moved_from (pos (i + 1 + 1)) (drop (i + 1) f)) =
          ap length (stays f i (as_place o x) there (sym (ap (λ d. d =ℤ pos i) told ∙ shifted (x -ℤ o) (pos i)) ∙ same)) in
          simp to_z-of_z (record { within = omega arith; counted = omega arith })
    ]
