use Rattle.std.proofs.Common.{◌≡◌, ◌+ℤ◌, pos, Some, FitsSigned, w64, sym, ap, ◌∙◌, arith, rules}
use Rattle.std.specs.Int.{w128}
use Rattle.std.proofs.lemmas.Int.{ints as numerals, to_z-of_z}
use Rattle.fz_kernel.specs.of_meaning.Relations.{index_from}
use Rattle.fz_kernel.specs.Views.{ints}
use Rattle.fz_globals.proofs.FirstBest.{stands_there, stands_behind}
use Rattle.fz_globals.proofs.best_index.index_of.Goals as goal

pub returns-then-int-number : goal.returns-then-int-number
returns-then-int-number c =
    let o = c.args.first in
    let n = c.args.number in
    let x = c.int.result in
    let i = c.loop-place.place in
    let fits_o : FitsSigned w64 o = c.ranges.first in
    let fits_n : FitsSigned w64 n = c.ranges.number in
    let fits : FitsSigned w128 c.index_at.result = search rules in
    let xs = ints c.args.elements.now in
    let same : x ≡ n = omega (arith, numerals) in
    let there : index_from o xs n ≡ Some (o +ℤ pos i) = stands_there o n xs i (index_from o xs n) (simp to_z-of_z at c.loop-place.invariant) x c.int.ensures.read same in
    let at : c.index_at.result ≡ o +ℤ pos i = simp to_z-of_z at c.index_at.ensures in
    ap Some (to_z-of_z w128 c.index_at.result fits ∙ at) ∙ sym there

pub loop-place-preserved : goal.loop-place-preserved
loop-place-preserved c =
    let o = c.args.first in
    let n = c.args.number in
    let x = c.int.result in
    let fits_o : FitsSigned w64 o = c.ranges.first in
    let fits_n : FitsSigned w64 n = c.ranges.number in
    let xs = ints c.args.elements.now in
    let other : ¬ (x ≡ n) = λ same. omega (arith, numerals) in
    simp to_z-of_z (stands_behind o n xs c.loop-place.place (index_from o xs n) (simp to_z-of_z at c.loop-place.invariant) x c.int.ensures.read other)
