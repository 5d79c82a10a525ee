use Rattle.std.proofs.Common.{◌≡◌, pos, length, refl, sym, ap, ◌∙◌, rules}
use Rattle.fz_kernel.specs.of_meaning.Relations.{are_places, as_places, lies_between}
use Rattle.fz_kernel.specs.Views.{ints}
use Rattle.fz_kernel.proofs.Read.{ints_counted}
use Rattle.fz_globals.proofs.Led.{as_place, placed_counted}
use Rattle.fz_globals.proofs.tours.are_indices.Goals as goal

pub returns : goal.returns
returns c =
    let o = c.args.first in
    let f = as_places o (ints c.args.next.now) in
    let n = c.len-count.result in
    let counted : n ≡ length f = ints_counted c.args.next.now n c.len-count.ensures.counted ∙ sym (placed_counted o (ints c.args.next.now)) in
    c.numbers_pass.ensures (λ i x. lies_between (pos 1) (pos n) (as_place o x)) (λ i xs. are_places n (as_places o xs)) (λ i x b fits_i fits_x r. search rules)
    record { none = λ i. refl; one = λ i x xs. refl }
    ∙ ap (λ m. are_places m f) counted
