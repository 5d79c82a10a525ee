use Rattle.std.proofs.Common.{◌≡◌, Some, FitsSigned, w64, to_z, sym, ◌∙◌, arith, rules}
use Rattle.std.specs.Int.{w128}
use Rattle.std.proofs.lemmas.Int.{to_z-of_z}
use Rattle.fz_builtins.specs.of_meaning.Relations.{as_places, element_at, end_of_tour}
use Rattle.fz_builtins.specs.of_kernel.Views.{ints}
use Rattle.fz_reasons.proofs.Arranging.{went_on}
use Rattle.fz_reasons.proofs.rings.walk.Goals as goal

pub loop-step-preserved : goal.loop-step-preserved
loop-step-preserved c =
    let fits_o : FitsSigned w64 c.args.first = c.ranges.first in
    let fits_s : FitsSigned w128 c.args.start = c.ranges.start in
    let q = c.in_ok-position.position in
    let fits_q : FitsSigned w128 q = search rules in
    let f = as_places c.args.first (ints c.args.next.now) in
    let p = to_z w128 c.loop-step.position-bits in
    let so_far : end_of_tour f c.loop-step._step c.args.start ≡ Some p = simp to_z-of_z at c.loop-step.invariant in
    let there : c.follow.result ≡ element_at f p = simp to_z-of_z at c.follow.ensures.exact in
    simp to_z-of_z (went_on f c.loop-step._step _ c.args.start p q (omega arith) so_far (sym there ∙ c.in_ok-position.was))
