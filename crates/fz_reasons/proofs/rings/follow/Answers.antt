use Rattle.std.proofs.Common.{◌≡◌, ◌+ℤ◌, ◌-ℤ◌, pos, Some, FitsSigned, w64, sym, ap, ◌∙◌, rules}
use Rattle.std.specs.Int.{w128}
use Rattle.std.proofs.lemmas.Int.{to_z-of_z}
use Rattle.fz_builtins.specs.of_meaning.Relations.{element_at}
use Rattle.fz_builtins.specs.of_kernel.Views.{ints}
use Rattle.fz_reasons.proofs.Arranging.{followed}
use Rattle.fz_reasons.proofs.rings.follow.Goals as goal

pub returns-in-Some : goal.returns-in-Some
returns-in-Some c =
    let o = c.args.first in
    let p = c.args.position in
    let i = c.in-Some.index in
    let fits_o : FitsSigned w64 o = c.ranges.first in
    let fits_p : FitsSigned w128 p = c.ranges.position in
    let fits_i : FitsSigned w64 i = search rules in
    let fits_r : FitsSigned w128 c.as_place.result = search rules in
    let there : c.int_element_at.result ≡ element_at (ints c.args.next.now) p = simp to_z-of_z at c.int_element_at.ensures.exact in
    let told : c.as_place.result ≡ ((i -ℤ o) +ℤ pos 1) = simp to_z-of_z at c.as_place.ensures in
    record { exact = simp to_z-of_z (ap Some told ∙ followed o (ints c.args.next.now) p i (sym c.in-Some.is ∙ there)) }
