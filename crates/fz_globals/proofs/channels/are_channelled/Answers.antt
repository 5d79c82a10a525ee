use Rattle.std.proofs.Common.{◌≡◌, ◌&&◌, true, false, length, nat_eq, FitsSigned, w64, sym, ap, ◌∙◌, rules}
use Rattle.std.proofs.lemmas.Int.{to_z-of_z}
use Rattle.fz_kernel.specs.Views.{ints, sets}
use Rattle.fz_globals.specs.Held.{are_held, size_of_all}
use Rattle.fz_kernel.proofs.Read.{ints_counted}
use Rattle.fz_globals.proofs.Channelled.{channelled_is}
use Rattle.fz_globals.proofs.channels.are_channelled.Goals as goal

pub returns-then-are_held : goal.returns-then-are_held
returns-then-are_held c =
    let o = c.args.first in
    let so = c.args.first_part in
    let xs = ints c.args.numbers.now in
    let ss = sets c.args.parts.now in
    let fits_o : FitsSigned w64 o = c.ranges.first in
    let fits_so : FitsSigned w64 so = c.ranges.first_part in
    let counted : c.len.result ≡ length xs = ints_counted c.args.numbers.now c.len.result c.len.ensures.counted in
    let told : c.are_held.result ≡ are_held o xs ss so = simp to_z-of_z at c.are_held.ensures in
    let passed : c.are_held.result ≡ true = search rules in
    record {
      exact = (λ k. nat_eq (c.size_of_all.ensures k) (counted k)) ∙ ap (λ b. b && nat_eq (size_of_all ss) (length xs)) (sym passed ∙ told) ∙ channelled_is xs o ss so;
    }

pub returns-else-are_held : goal.returns-else-are_held
returns-else-are_held c =
    let o = c.args.first in
    let so = c.args.first_part in
    let xs = ints c.args.numbers.now in
    let ss = sets c.args.parts.now in
    let fits_o : FitsSigned w64 o = c.ranges.first in
    let fits_so : FitsSigned w64 so = c.ranges.first_part in
    let told : c.are_held.result ≡ are_held o xs ss so = simp to_z-of_z at c.are_held.ensures in
    let failed : c.are_held.result ≡ false = search rules in
    record { exact = failed ∙ ap (λ b. b && nat_eq (size_of_all ss) (length xs)) (sym failed ∙ told) ∙ channelled_is xs o ss so }
