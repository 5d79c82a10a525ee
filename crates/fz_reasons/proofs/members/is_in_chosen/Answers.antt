use Rattle.std.proofs.Common.{◌≡◌, ◌+◌, pos, true, false, ◌||◌, FitsSigned, w64, sym, ap, ◌∙◌, rules}
use Rattle.std.specs.Int.{w128}
use Rattle.std.specs.List.{list_any}
use Rattle.std.specs.FinSet.{contains}
use Rattle.std.proofs.lemmas.Int.{to_z-of_z}
use Rattle.fz_builtins.specs.of_meaning.of_base.Sets.{NumberSet}
use Rattle.fz_builtins.specs.of_meaning.Relations.{chosen}
use Rattle.fz_builtins.specs.of_kernel.Views.{sets}
use Rattle.fz_builtins.proofs.of_globals.Choosing.{left, none_chosen, one_chosen}
use Rattle.fz_reasons.proofs.members.is_in_chosen.Goals as goal
use Rattle.fz_reasons.proofs.members.is_in_chosen.Goals.{else-has-via-then-has+else-contains, else-has-via-else-has}

pub returns-then-contains : goal.returns-then-contains
returns-then-contains c =
    let n = c.args.number in
    let s = c.args.indices.now in
    let ss = sets c.args.parts.now in
    let i = c.loop-place.place in
    let x = c.set-part.result.now in
    let fits_n : FitsSigned w64 n = c.ranges.number in
    let fits_i : FitsSigned w128 c.index_at.result = search rules in
    let is : c.has.result ≡ contains s c.index_at.result = simp to_z-of_z at c.has.ensures in
    let told : c.contains.result ≡ contains x n = simp to_z-of_z at c.contains.ensures in
    let chosen_here : c.has.result ≡ true = search rules in
    let found : c.contains.result ≡ true = search rules in
    let so_far : list_any (λ (u : NumberSet). contains u n) (chosen (pos 1) ss s) ≡ list_any (λ (u : NumberSet). contains u n) (left (pos 1) ss s i) = simp to_z-of_z at c.loop-place.invariant in
    sym (so_far ∙ ap (list_any (λ u. contains u n)) (one_chosen (pos 1) ss s i x c.set-part.ensures.read (sym (is ∙ ap (contains s) c.index_at.ensures) ∙ chosen_here))
    ∙ ap (λ b. b || list_any (λ u. contains u n) (left (pos 1) ss s (i + 1))) (sym told ∙ found))

pub loop-place-preserved : goal.loop-place-preserved
loop-place-preserved c =
    let n = c.args.number in
    let s = c.args.indices.now in
    let ss = sets c.args.parts.now in
    let i = c.loop-place.place in
    let x = c.set-part.result.now in
    let fits_n : FitsSigned w64 n = c.ranges.number in
    let fits_i : FitsSigned w128 c.index_at.result = search rules in
    let is : c.has.result ≡ contains s c.index_at.result = simp to_z-of_z at c.has.ensures in
    let so_far : list_any (λ (u : NumberSet). contains u n) (chosen (pos 1) ss s) ≡ list_any (λ (u : NumberSet). contains u n) (left (pos 1) ss s i) = simp to_z-of_z at c.loop-place.invariant in
    elim c.else-has.branch [
      | else-has-via-then-has+else-contains w ↦
          let told : w.contains.result ≡ contains x n = simp to_z-of_z at w.contains.ensures in
          let chosen_here : c.has.result ≡ true = search rules in
          let not_found : w.contains.result ≡ false = search rules in
          simp to_z-of_z (so_far ∙ ap (list_any (λ u. contains u n)) (one_chosen (pos 1) ss s i x c.set-part.ensures.read (sym (is ∙ ap (contains s) c.index_at.ensures) ∙ chosen_here))
          ∙ ap (λ b. b || list_any (λ u. contains u n) (left (pos 1) ss s (i + 1))) (sym told ∙ not_found))
      | else-has-via-else-has w ↦
          let left_out : c.has.result ≡ false = search rules in
          simp to_z-of_z (so_far ∙ ap (list_any (λ u. contains u n)) (none_chosen (pos 1) ss s i x c.set-part.ensures.read (sym (is ∙ ap (contains s) c.index_at.ensures) ∙ left_out)))
    ]
