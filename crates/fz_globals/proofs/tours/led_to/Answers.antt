use Rattle.std.proofs.Common.{◌≡◌, ◌+◌, ◌≤◌, ℕ, pos, length, Some, FitsSigned, w64, sym, ap, ◌∙◌, rules, refl}
use Rattle.std.proofs.lemmas.Int.{to_z-of_z}
use Rattle.fz_kernel.specs.of_meaning.Relations.{as_places, lies_between}
use Rattle.fz_kernel.specs.Views.{ints}
use Rattle.fz_kernel.proofs.Read.{ints_counted}
use Rattle.fz_kernel.proofs.Passed.{element_found}
use Rattle.fz_globals.proofs.Tested.{passed_at}
use Rattle.fz_globals.proofs.Led.{as_place, placed_at, placed_counted, is_no_place}
use Rattle.fz_globals.proofs.tours.led_to.Goals as goal

pub returns-in-Some-clause-leads : goal.returns-in-Some-clause-leads
returns-in-Some-clause-leads c =
    let o = c.args.first in
    let x = c.int.result in
    let fits_o : FitsSigned w64 o = c.ranges.first in
    let fits_x : FitsSigned w64 x = search rules in
    let place : as_place o x ≡ pos (c.in-Some.target + 1) = simp to_z-of_z at c.in-Some.ensures.place in
    element_found (as_places o (ints c.args.next.now)) (pos (c.args.place + 1)) c.args.place (pos (c.in-Some.target + 1)) refl
    (placed_at o (ints c.args.next.now) c.args.place x c.int.ensures.read ∙ ap Some place)

pub returns-in-None-clause-leads : goal.returns-in-None-clause-leads
returns-in-None-clause-leads c =
    let o = c.args.first in
    let x = c.int.result in
    let fits_o : FitsSigned w64 o = c.ranges.first in
    let fits_x : FitsSigned w64 x = search rules in
    let xs = ints c.args.next.now in
    let f = as_places o xs in
    let none : (k : ℕ) → as_place o x ≡ pos (k + 1) → c.len.result ≤ k = simp to_z-of_z at c.in-None.ensures.none in
    let counted : c.len.result ≡ length f = ints_counted c.args.next.now c.len.result c.len.ensures.counted ∙ sym (placed_counted o xs) in
    absurd (is_no_place (as_place o x) c.len.result none (ap (λ n. lies_between (pos 1) (pos n) (as_place o x)) counted ∙ passed_at (lies_between (pos 1) (pos (length f))) f c.args.place (as_place o x) c.requires.indices (placed_at o xs c.args.place x c.int.ensures.read)))
