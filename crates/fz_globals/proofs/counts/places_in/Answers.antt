use Rattle.std.proofs.Common.{◌≡◌, FitsSigned, w64, sym, ◌∙◌, rules}
use Rattle.std.specs.FinSet.{contains}
use Rattle.std.proofs.lemmas.Int.{to_z-of_z}
use Rattle.fz_kernel.specs.Views.{ints}
use Rattle.fz_globals.proofs.Each.{one_told, one_left_out}
use Rattle.fz_globals.proofs.counts.places_in.Goals.{then-contains, else-contains}
use Rattle.fz_globals.proofs.counts.places_in.Goals as goal

pub loop-place-preserved : goal.loop-place-preserved
loop-place-preserved c =
    let xs = ints c.args.elements.now in
    let x = c.int.result in
    let fits : FitsSigned w64 x = search rules in
    let told : c.contains.result ≡ contains c.args.values.now x = simp to_z-of_z at c.contains.ensures in
    elim c.if-contains.branch [
      | then-contains w ↦ one_told (contains c.args.values.now) xs c.loop-place.place c.loop-place.count x c.int.ensures.read c.loop-place.invariant c.if-contains.count w.count-is (sym told ∙ w.if-contains.true)
      | else-contains w ↦ one_left_out (contains c.args.values.now) xs c.loop-place.place c.loop-place.count x c.int.ensures.read c.loop-place.invariant c.if-contains.count w.count-is (sym told ∙ w.if-contains.false)
    ]
