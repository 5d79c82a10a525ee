use Rattle.std.proofs.Common.{◌≡◌, ◌++◌, ◌∷◌, [], ◌+ℤ◌, pos, true, false, length, FitsSigned, w64, sym, ap, ◌∙◌, arith, rules}
use Rattle.std.specs.Int.{w128}
use Rattle.std.specs.FinSet.{contains}
use Rattle.std.proofs.lemmas.Int.{to_z-of_z}
use Rattle.fz_kernel.specs.Views.{ints}
use Rattle.fz_kernel.proofs.Read.{ints_counted}
use Rattle.fz_globals.proofs.Choosing.{AreListed, all_listed, none_more_listed, one_listed}
use Rattle.fz_globals.proofs.chosen.chosen_numbers.Goals as goal
use Rattle.fz_globals.proofs.chosen.chosen_numbers.Goals.{then-has+in_ok-push, else-has}

pub loop-place-preserved : goal.loop-place-preserved
loop-place-preserved c =
    let o = c.args.first in
    let s = c.args.indices.now in
    let xs = ints c.args.numbers.now in
    let i = c.loop-place.place in
    let x = c.int-number.result in
    let ys = c.loop-place.listed.items in
    let fits_o : FitsSigned w64 o = c.ranges.first in
    let fits_x : FitsSigned w64 x = search rules in
    let fits_i : FitsSigned w128 c.index_at.result = search rules in
    let at : c.index_at.result ≡ o +ℤ pos i = simp to_z-of_z at c.index_at.ensures in
    let is : c.has.result ≡ contains s c.index_at.result = simp to_z-of_z at c.has.ensures in
    let here : c.has.result ≡ contains s (o +ℤ pos i) = is ∙ ap (contains s) at in
    let so_far : AreListed o xs s i ys = simp to_z-of_z at c.loop-place.invariant in
    elim c.if-has.branch [
      | then-has+in_ok-push w ↦
          let chosen_here : c.has.result ≡ true = search rules in
          let pushed : w.push.new.self.items ≡ (ys ++ x ∷ []) = simp to_z-of_z at w.in_ok-push.ensures.items in
          simp to_z-of_z (one_listed o xs s i ys so_far x c.int-number.ensures.read (sym here ∙ chosen_here) c.if-has.listed.items (ap (λ v. v.items) w.listed-is ∙ pushed))
      | else-has w ↦
          let left_out : c.has.result ≡ false = search rules in
          simp to_z-of_z (none_more_listed o xs s i ys so_far x c.int-number.ensures.read (sym here ∙ left_out) c.if-has.listed.items (ap (λ v. v.items) w.listed-is))
    ]

pub returns : goal.returns
returns c =
    let o = c.args.first in
    let s = c.args.indices.now in
    let xs = ints c.args.numbers.now in
    let i = c.loop-place.place in
    let ys = c.loop-place.listed.items in
    let fits_o : FitsSigned w64 o = c.ranges.first in
    let counted : c.len-place-end.result ≡ length xs = ints_counted c.args.numbers.now c.len-place-end.result c.len-place-end.ensures.counted in
    let so_far : AreListed o xs s i ys = simp to_z-of_z at c.loop-place.invariant in
    all_listed o xs s i ys so_far (omega arith)
