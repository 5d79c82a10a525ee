use Rattle.std.proofs.Common.{◌≡◌, ◌+ℤ◌, pos, map, Some, FitsSigned, w64, sym, ap, ◌∙◌, rules}
use Rattle.std.specs.Int.{w128}
use Rattle.std.proofs.lemmas.Int.{to_z-of_z}
use Rattle.fz_kernel.specs.of_meaning.Relations.{as_number, index_from}
use Rattle.fz_kernel.proofs.of_meaning.Values.{same_bool}
use Rattle.fz_kernel.specs.Views.{bools}
use Rattle.fz_globals.proofs.BestTruth.{number_there, other_numbers}
use Rattle.fz_globals.proofs.Compared.{same_truths}
use Rattle.fz_globals.proofs.FirstBest.{stands_there, stands_behind}
use Rattle.fz_globals.proofs.best_index.index_of_truth.Goals as goal

pub returns-then-truth : goal.returns-then-truth
returns-then-truth c =
    let o = c.args.first in
    let t = c.args.truth in
    let b = c.truth.result in
    let bs = bools c.args.elements.now in
    let i = c.loop-place.place in
    let fits_o : FitsSigned w64 o = c.ranges.first in
    let fits : FitsSigned w128 c.index_at.result = search rules in
    let same : as_number b ≡ as_number t = ap as_number (same_bool b t (sym (same_truths b t) ∙ c.if-truth.true)) in
    let there : index_from o (map as_number bs) (as_number t) ≡ Some (o +ℤ pos i) =
    stands_there o (as_number t) (map as_number bs) i _ (simp to_z-of_z at c.loop-place.invariant) (as_number b) (number_there bs i b c.truth.ensures.read) same in
    let at : c.index_at.result ≡ o +ℤ pos i = simp to_z-of_z at c.index_at.ensures in
    ap Some (to_z-of_z w128 c.index_at.result fits ∙ at) ∙ sym there

pub loop-place-preserved : goal.loop-place-preserved
loop-place-preserved c =
    let o = c.args.first in
    let t = c.args.truth in
    let b = c.truth.result in
    let bs = bools c.args.elements.now in
    let i = c.loop-place.place in
    let fits_o : FitsSigned w64 o = c.ranges.first in
    simp to_z-of_z (stands_behind o (as_number t) (map as_number bs) i _ (simp to_z-of_z at c.loop-place.invariant)
    (as_number b) (number_there bs i b c.truth.ensures.read) (other_numbers b t (sym (same_truths b t) ∙ c.if-truth.false)))
