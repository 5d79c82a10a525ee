use Rattle.std.proofs.Common.{◌≡◌, w64, to_z, of_z, arith}
use Rattle.std.proofs.lemmas.Int.{ints as numerals}
use Rattle.fz_kernel.specs.of_meaning.Relations.{◌=ℤ◌}
use Rattle.fz_kernel.specs.Views.{ints}
use Rattle.fz_globals.proofs.Compared.{is_equal, is_other}
use Rattle.fz_globals.proofs.Each.{one_told, one_left_out}
use Rattle.fz_globals.proofs.counts.places_of.Goals.{then-int-value, else-int-value}
use Rattle.fz_globals.proofs.counts.places_of.Goals as goal

pub loop-place-preserved : goal.loop-place-preserved
loop-place-preserved c =
    let xs = ints c.args.elements.now in
    let x = c.int.result in
    let v = to_z w64 (of_z w64 c.args.value) in
    elim c.if-int-value.branch [
      | then-int-value w ↦
          let same : x ≡ v = omega (arith, numerals) in
          one_told (λ y. y =ℤ v) xs c.loop-place.place c.loop-place.count x c.int.ensures.read c.loop-place.invariant c.if-int-value.count w.count-is (is_equal x v same)
      | else-int-value w ↦
          let other : ¬ (x ≡ v) = λ same. omega (arith, numerals) in
          one_left_out (λ y. y =ℤ v) xs c.loop-place.place c.loop-place.count x c.int.ensures.read c.loop-place.invariant c.if-int-value.count w.count-is (is_other x v other)
    ]
