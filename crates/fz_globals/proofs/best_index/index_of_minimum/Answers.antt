use Rattle.std.proofs.Common.{◌≡◌, ◌∙◌, FitsSigned, w64, rules}
use Rattle.std.proofs.lemmas.Int.{to_z-of_z}
use Rattle.fz_kernel.specs.of_meaning.Relations.{index_from}
use Rattle.fz_kernel.proofs.of_meaning.Values.{int_itself}
use Rattle.fz_kernel.specs.Views.{ints}
use Rattle.fz_kernel.proofs.Best.{not_below, downward}
use Rattle.fz_globals.proofs.OnlyIndex.{only_index, no_index}
use Rattle.fz_globals.proofs.best_index.index_of_minimum.Goals as goal

pub returns-in-Some-clause-exact : goal.returns-in-Some-clause-exact
returns-in-Some-clause-exact c =
    let o = c.args.first in
    let m = c.in-Some.least in
    let xs = ints c.args.elements.now in
    let fits_o : FitsSigned w64 o = c.ranges.first in
    let fits_m : FitsSigned w64 m = search rules in
    let told : c.index_of.result ≡ index_from o xs m = simp to_z-of_z at c.index_of.ensures in
    only_index not_below downward o m xs (c.in-Some.ensures.exact m ∙ int_itself m) c.index_of.result told

pub returns-in-Some-clause-none : goal.returns-in-Some-clause-none
returns-in-Some-clause-none c =
    let o = c.args.first in
    let m = c.in-Some.least in
    let xs = ints c.args.elements.now in
    let fits_o : FitsSigned w64 o = c.ranges.first in
    let fits_m : FitsSigned w64 m = search rules in
    let told : c.index_of.result ≡ index_from o xs m = simp to_z-of_z at c.index_of.ensures in
    no_index not_below downward o m xs (c.in-Some.ensures.exact m ∙ int_itself m) c.index_of.result told
