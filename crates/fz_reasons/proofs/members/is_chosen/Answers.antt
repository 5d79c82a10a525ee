use Rattle.std.proofs.Common.{◌≡◌, ◌+◌, ◌+ℤ◌, pos, true, false, ◌||◌, FitsSigned, w64, sym, ap, ◌∙◌, arith, rules}
use Rattle.std.specs.Int.{w128}
use Rattle.std.specs.FinSet.{contains}
use Rattle.std.proofs.lemmas.Int.{ints as numerals, to_z-of_z}
use Rattle.fz_builtins.specs.of_meaning.Relations.{chosen, is_among}
use Rattle.fz_builtins.specs.of_kernel.Views.{ints}
use Rattle.fz_builtins.proofs.of_globals.Choosing.{left, none_chosen, one_chosen}
use Rattle.fz_builtins.proofs.of_globals.Compared.{is_equal, is_other}
use Rattle.fz_reasons.proofs.members.is_chosen.Goals as goal
use Rattle.fz_reasons.proofs.members.is_chosen.Goals.{else-has-via-then-has+else-element-number, else-has-via-else-has}

pub returns-then-element-number : goal.returns-then-element-number
returns-then-element-number c =
    let n = c.args.number in
    let o = c.args.first in
    let s = c.args.indices.now in
    let xs = ints c.args.elements.now in
    let i = c.loop-place.place in
    let x = c.int-element.result in
    let fits_n : FitsSigned w64 n = c.ranges.number in
    let fits_o : FitsSigned w64 o = c.ranges.first in
    let fits_x : FitsSigned w64 x = search rules in
    let fits_i : FitsSigned w128 c.index_at.result = search rules in
    let at : c.index_at.result ≡ o +ℤ pos i = simp to_z-of_z at c.index_at.ensures in
    let is : c.has.result ≡ contains s c.index_at.result = simp to_z-of_z at c.has.ensures in
    let chosen_here : c.has.result ≡ true = search rules in
    let same : x ≡ n = omega (arith, numerals) in
    let so_far : is_among n (chosen o xs s) ≡ is_among n (left o xs s i) = simp to_z-of_z at c.loop-place.invariant in
    sym (so_far ∙ ap (is_among n) (one_chosen o xs s i x c.int-element.ensures.read (sym (is ∙ ap (contains s) at) ∙ chosen_here))
    ∙ ap (λ b. b || is_among n (left o xs s (i + 1))) (is_equal x n same))

pub loop-place-preserved : goal.loop-place-preserved
loop-place-preserved c =
    let n = c.args.number in
    let o = c.args.first in
    let s = c.args.indices.now in
    let xs = ints c.args.elements.now in
    let i = c.loop-place.place in
    let x = c.int-element.result in
    let fits_n : FitsSigned w64 n = c.ranges.number in
    let fits_o : FitsSigned w64 o = c.ranges.first in
    let fits_x : FitsSigned w64 x = search rules in
    let fits_i : FitsSigned w128 c.index_at.result = search rules in
    let at : c.index_at.result ≡ o +ℤ pos i = simp to_z-of_z at c.index_at.ensures in
    let is : c.has.result ≡ contains s c.index_at.result = simp to_z-of_z at c.has.ensures in
    let so_far : is_among n (chosen o xs s) ≡ is_among n (left o xs s i) = simp to_z-of_z at c.loop-place.invariant in
    elim c.else-has.branch [
      | else-has-via-then-has+else-element-number w ↦
          let chosen_here : c.has.result ≡ true = search rules in
          let other : ¬ (x ≡ n) = λ same. omega (arith, numerals) in
          simp to_z-of_z (so_far ∙ ap (is_among n) (one_chosen o xs s i x c.int-element.ensures.read (sym (is ∙ ap (contains s) at) ∙ chosen_here))
          ∙ ap (λ b. b || is_among n (left o xs s (i + 1))) (is_other x n other))
      | else-has-via-else-has w ↦
          let left_out : c.has.result ≡ false = search rules in
          simp to_z-of_z (so_far ∙ ap (is_among n) (none_chosen o xs s i x c.int-element.ensures.read (sym (is ∙ ap (contains s) at) ∙ left_out)))
    ]
