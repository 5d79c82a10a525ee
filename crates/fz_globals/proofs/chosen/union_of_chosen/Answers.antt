use Rattle.std.proofs.Common.{◌≡◌, ◌+ℤ◌, pos, true, false, length, FitsSigned, sym, ap, ◌∙◌, arith, rules}
use Rattle.std.specs.Int.{w128}
use Rattle.std.specs.FinSet.{contains}
use Rattle.std.proofs.lemmas.Int.{to_z-of_z}
use Rattle.fz_kernel.specs.Views.{sets}
use Rattle.fz_kernel.proofs.Read.{sets_counted}
use Rattle.fz_globals.proofs.Choosing.{all_united, none_more, none_united, one_united}
use Rattle.fz_globals.proofs.chosen.union_of_chosen.Goals as goal
use Rattle.fz_globals.proofs.chosen.union_of_chosen.Goals.{then-has+in_ok-union-2, else-has}

pub loop-place-init : goal.loop-place-init
loop-place-init c = none_united (sets c.args.parts.now) c.args.indices.now c.in_ok-union.union c.in_ok-union.ensures

pub loop-place-preserved : goal.loop-place-preserved
loop-place-preserved c =
    let s = c.args.indices.now in
    let ss = sets c.args.parts.now in
    let i = c.loop-place.place in
    let fits_i : FitsSigned w128 c.index_at.result = search rules in
    let is : c.has.result ≡ contains s c.index_at.result = simp to_z-of_z at c.has.ensures in
    let here : c.has.result ≡ contains s (pos 1 +ℤ pos i) = is ∙ ap (contains s) c.index_at.ensures in
    elim c.if-has.branch [
      | then-has+in_ok-union-2 w ↦
          let chosen_here : c.has.result ≡ true = search rules in
          one_united ss s i c.loop-place.union c.set-part.result.now c.if-has.union c.loop-place.invariant c.set-part.ensures.read (sym here ∙ chosen_here) (w.union-is ∙ w.in_ok-union-2.ensures)
      | else-has w ↦
          let left_out : c.has.result ≡ false = search rules in
          none_more ss s i c.loop-place.union c.set-part.result.now c.if-has.union c.loop-place.invariant c.set-part.ensures.read (sym here ∙ left_out) w.union-is
    ]

pub returns : goal.returns
returns c =
    let ss = sets c.args.parts.now in
    let counted : c.len-place-end.result ≡ length ss = sets_counted c.args.parts.now c.len-place-end.result c.len-place-end.ensures.counted in
    record { exact = all_united ss c.args.indices.now c.loop-place.place c.loop-place.union c.loop-place.invariant (omega arith) }
