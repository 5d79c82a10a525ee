use Rattle.std.proofs.Common.{◌≡◌, ◌+ℤ◌, ◌&&◌, pos, true, false, length, FitsSigned, w64, ap, ◌∙◌, rules}
use Rattle.std.specs.Int.{w128}
use Rattle.std.specs.List.{list_all}
use Rattle.std.specs.FinSet.{contains, is_subset}
use Rattle.std.proofs.lemmas.Int.{to_z-of_z}
use Rattle.fz_kernel.specs.of_meaning.Relations.{chosen, indices_from, refer_back}
use Rattle.fz_kernel.specs.Views.{sets}
use Rattle.fz_globals.proofs.Choosing.{one_does_not, one_refers}
use Rattle.fz_globals.proofs.chosen.refer_back.Goals as goal

pub returns-then-not-leads_back : goal.returns-then-not-leads_back
returns-then-not-leads_back c =
    let o = c.args.first in
    let p = c.args.first_other in
    let ss = sets c.args.parts.now in
    let ys = sets c.args.others.now in
    let i = c.loop-place.place in
    let s = c.set.result.now in
    let fits_o : FitsSigned w64 o = c.ranges.first in
    let fits_p : FitsSigned w64 p = c.ranges.first_other in
    let fits_i : FitsSigned w128 c.index_at-index.result = search rules in
    let at : c.index_at-index.result ≡ o +ℤ pos i = simp to_z-of_z at c.index_at-index.ensures in
    let told : c.leads_back.result ≡ (is_subset s (indices_from p (length ys)) && list_all (λ t. contains t c.index_at-index.result) (chosen p ys s)) = simp to_z-of_z at c.leads_back.ensures in
    let failed : c.leads_back.result ≡ false = search rules in
    one_does_not o ss p ys i (refer_back o ss p ys) (simp to_z-of_z at c.loop-place.invariant) s c.set.ensures.read c.leads_back.result
    (told ∙ ap (λ n. is_subset s (indices_from p (length ys)) && list_all (λ t. contains t n) (chosen p ys s)) at) failed

pub loop-place-preserved : goal.loop-place-preserved
loop-place-preserved c =
    let o = c.args.first in
    let p = c.args.first_other in
    let ss = sets c.args.parts.now in
    let ys = sets c.args.others.now in
    let i = c.loop-place.place in
    let s = c.set.result.now in
    let fits_o : FitsSigned w64 o = c.ranges.first in
    let fits_p : FitsSigned w64 p = c.ranges.first_other in
    let fits_i : FitsSigned w128 c.index_at-index.result = search rules in
    let at : c.index_at-index.result ≡ o +ℤ pos i = simp to_z-of_z at c.index_at-index.ensures in
    let told : c.leads_back.result ≡ (is_subset s (indices_from p (length ys)) && list_all (λ t. contains t c.index_at-index.result) (chosen p ys s)) = simp to_z-of_z at c.leads_back.ensures in
    let passed : c.leads_back.result ≡ true = search rules in
    simp to_z-of_z
    (one_refers o ss p ys i (refer_back o ss p ys) (simp to_z-of_z at c.loop-place.invariant) s c.set.ensures.read c.leads_back.result
    (told ∙ ap (λ n. is_subset s (indices_from p (length ys)) && list_all (λ t. contains t n) (chosen p ys s)) at) passed)
