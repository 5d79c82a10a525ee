use Rattle.std.proofs.Common.{◌≡◌, ◌-◌, ◌+◌, ◌∷◌, ℕ, Some, length, drop, map, option_map, ap, sym, suc, ◌∙◌, arith, refl, FitsSigned}
use Rattle.std.specs.Int.{w64}
use Rattle.std.proofs.lemmas.Int.{to_z-of_z}
use Rattle.std.specs.Option.{option_and_then}
use Rattle.fz_tree.specs.View.{bare_basic, basic_list}
use Rattle.fz_places.specs.Elements.{index_in, indices_in}
use Rattle.fz_places.proofs.Indices.{none_at_all, one_set}
use Rattle.fz_places.proofs.element.indices_at.Goals as goal

pub returns-in_default : goal.returns-in_default
returns-in_default c =
    let sets = c.args.sets.now in
    let set = bare_basic c.index-sets-sets.result in
    let j : ℕ = length sets - c.loop-behind.behind - 1 in
    let next : suc j ≡ length sets - c.loop-behind.behind = omega (arith, c.loop-behind-test.true) in
    let so_far = ap (λ n. indices_in (basic_list (map bare_basic (drop n sets))) c.args.place) next ∙ c.loop-behind.invariant in
    let here = one_set sets c.args.place j c.index-sets-sets.result (omega (arith, c.loop-behind-test.true)) c.index-sets-sets.is in
    let none = here ∙ ap (λ o. option_and_then (λ behind. option_map (λ i. (i.0, i.1 ∷ behind.1)) (index_in set behind.0)) o) so_far ∙ ap (λ o. option_map (λ i. (i.0, i.1 ∷ c.loop-behind.indices.items)) o) (sym c.index_in.ensures.index ∙ c.in_default.is) in
    rw (none_at_all sets c.args.place j none) refl

pub loop-behind-preserved : goal.loop-behind-preserved
loop-behind-preserved c =
    let sets = c.args.sets.now in
    let set = bare_basic c.index-sets-sets.result in
    let j : ℕ = length sets - c.loop-behind.behind - 1 in
    let next : suc j ≡ length sets - c.loop-behind.behind = omega (arith, c.loop-behind-test.true) in
    let at : length sets - (c.loop-behind.behind + 1) ≡ j = omega arith in
    let so_far = ap (λ n. indices_in (basic_list (map bare_basic (drop n sets))) c.args.place) next ∙ c.loop-behind.invariant in
    let here = one_set sets c.args.place j c.index-sets-sets.result (omega (arith, c.loop-behind-test.true)) c.index-sets-sets.is in
    let fits : FitsSigned w64 c.in-Some.index = rw c.in-Some.is at c.index_in.ensures.fits in
    let grown : c.insert.new.self.items ≡ c.in-Some.index ∷ c.loop-behind.indices.items = simp (to_z-of_z, fits) at c.in_ok-insert.ensures.items in
    ap (λ n. indices_in (basic_list (map bare_basic (drop n sets))) c.args.place) at ∙ here
    ∙ ap (λ o. option_and_then (λ behind. option_map (λ i. (i.0, i.1 ∷ behind.1)) (index_in set behind.0)) o) so_far
    ∙ ap (λ o. option_map (λ i. (i.0, i.1 ∷ c.loop-behind.indices.items)) o) (sym c.index_in.ensures.index ∙ c.in-Some.is)
    ∙ ap (λ is. Some (c.in-Some.rest, is)) (sym grown)
