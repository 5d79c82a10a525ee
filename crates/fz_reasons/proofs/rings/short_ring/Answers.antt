use Rattle.std.proofs.Common.{◌≡◌, pos, length, Some, FitsSigned, w64, sym, ap, subst, ◌∙◌, rules}
use Rattle.std.specs.Int.{w128}
use Rattle.std.proofs.lemmas.Int.{to_z-of_z}
use Rattle.fz_builtins.specs.of_meaning.Relations.{as_places, end_of_tour}
use Rattle.fz_builtins.specs.of_kernel.Views.{ints}
use Rattle.fz_builtins.proofs.of_globals.Led.{placed_counted}
use Rattle.fz_reasons.specs.Elements.{ComesBack}
use Rattle.fz_reasons.proofs.rings.short_ring.Goals as goal

pub returns : goal.returns
returns c =
    let o = c.args.first in
    let fits_o : FitsSigned w64 o = c.ranges.first in
    let fits_s : FitsSigned w128 c.in_ok-start.start = search rules in
    let f = as_places o (ints c.args.next.now) in
    let n = c.number_count-count.result in
    let counted : n ≡ length f = c.number_count-count.ensures ∙ sym (placed_counted o (ints c.args.next.now)) in
    let walked : end_of_tour f n (pos 1) ≡ Some c.in_ok-start.start = simp to_z-of_z at c.in_ok-start.ensures in
    let ring : ComesBack f n c.in_ok-ring.ring = simp to_z-of_z at c.in_ok-ring.ensures.ring in
    let start : c.in_ok-ring.ring.start ≡ c.in_ok-start.start = simp to_z-of_z at c.in_ok-ring.ensures.start in
    record {
      ring = subst (λ k. ComesBack f k c.in_ok-ring.ring) counted ring;
      reached = ap (λ k. end_of_tour f k (pos 1)) (sym counted) ∙ walked ∙ ap Some (sym start);
    }
