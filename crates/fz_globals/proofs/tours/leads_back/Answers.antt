use Rattle.std.proofs.Common.{◌+ℤ◌, pos, refl, rules}
use Rattle.fz_kernel.specs.of_meaning.Relations.{as_places, leads_back}
use Rattle.fz_kernel.specs.Views.{ints}
use Rattle.fz_globals.proofs.Led.{as_place, leads_to}
use Rattle.fz_globals.proofs.tours.leads_back.Goals as goal

pub returns : goal.returns
returns c =
    let o = c.args.fo in
    let g = as_places c.args.go (ints c.args.g.now) in
    c.numbers_pass.ensures (λ i x. leads_to g (as_place o x) (i +ℤ pos 1)) (λ i xs. leads_back (i +ℤ pos 1) (as_places o xs) g) (λ i x b fits_i fits_x r. search rules)
    record { none = λ i. refl; one = λ i x xs. refl }
