use Rattle.std.proofs.Common.{◌≡◌, length, map, FitsSigned, w64, sym, ap, arith}
use Rattle.std.proofs.lemmas.Int.{to_z-of_z}
use Rattle.fz_kernel.specs.of_meaning.Relations.{as_number, index_from, is_index_of_best}
use Rattle.fz_kernel.specs.Views.{bools}
use Rattle.fz_kernel.proofs.Best.{not_above, upward}
use Rattle.fz_kernel.proofs.Read.{bools_counted}
use Rattle.fz_globals.proofs.BestTruth.{best_truth, no_truths}
use Rattle.fz_globals.proofs.OnlyIndex.{only_index, no_index}
use Rattle.fz_globals.proofs.best_index.index_of_greatest_truth.Goals as goal

pub returns-then-len-eq0-clause-none : goal.returns-then-len-eq0-clause-none
returns-then-len-eq0-clause-none c =
    let bs = bools c.args.elements.now in
    let counted : c.len.result ≡ length bs = bools_counted c.args.elements.now c.len.result c.len.ensures.counted in
    λ j. ap (λ l. is_index_of_best not_above (map as_number l) c.args.first j) (no_truths bs (omega arith))

pub returns-clause-exact : goal.returns-clause-exact
returns-clause-exact c =
    let o = c.args.first in
    let bs = bools c.args.elements.now in
    let any = c.any_true.result in
    let fits_o : FitsSigned w64 o = c.ranges.first in
    let counted : c.len.result ≡ length bs = bools_counted c.args.elements.now c.len.result c.len.ensures.counted in
    let told : c.index_of_truth.result ≡ index_from o (map as_number bs) (as_number any) = simp to_z-of_z at c.index_of_truth.ensures in
    only_index not_above upward o (as_number any) (map as_number bs) (best_truth bs any (sym c.any_true.ensures.exact) (omega arith)) c.index_of_truth.result told

pub returns-clause-none : goal.returns-clause-none
returns-clause-none c =
    let o = c.args.first in
    let bs = bools c.args.elements.now in
    let any = c.any_true.result in
    let fits_o : FitsSigned w64 o = c.ranges.first in
    let counted : c.len.result ≡ length bs = bools_counted c.args.elements.now c.len.result c.len.ensures.counted in
    let told : c.index_of_truth.result ≡ index_from o (map as_number bs) (as_number any) = simp to_z-of_z at c.index_of_truth.ensures in
    no_index not_above upward o (as_number any) (map as_number bs) (best_truth bs any (sym c.any_true.ensures.exact) (omega arith)) c.index_of_truth.result told
