use Rattle.std.proofs.Common.{suc, cond, Some, drop, map, option_map, add-one, sym, ap, ◌∙◌}
use Rattle.fz_filling.specs.of_model.Names.{literal_value}
use Rattle.fz_filling.specs.of_model.Shown.{scalar_terms}
use Rattle.fz_filling.specs.of_model.Slots.{scalar_term}
use Rattle.fz_tree.specs.View.{bare_literal}
use Rattle.fz_explain.specs.Differing.{differing_from}
use Rattle.fz_explain.proofs.Beside.{next, no_element, no_value}
use Rattle.fz_explain.proofs.differing.first_differing.Goals as goal

pub returns-in_default : goal.returns-in_default
returns-in_default c =
    sym (c.loop-place.invariant ∙ no_element c.args.filling.now c.loop-place.place c.loop-place.place (scalar_terms c.args.scalars) _ (sym c.get.ensures.read ∙ ap (option_map scalar_term) c.in_default.is))

pub returns-then-not-branch : goal.returns-then-not-branch
returns-then-not-branch c =
    let k = c.loop-place.place in
    let ts = scalar_terms c.args.scalars in
    let ls = c.args.literals.now in
    let here = next c.args.filling.now (λ x. literal_value (bare_literal x)) k k ts ls (scalar_term c.in-Some.scalar) c.index-literals-place.result c.in-Some.ensures.read c.loop-place-test.true c.index-literals-place.is in
    sym (c.loop-place.invariant ∙ here ∙ ap (λ b. cond b (differing_from c.args.filling.now (suc k) (drop (suc k) ts) (map (λ x. literal_value (bare_literal x)) (drop (suc k) ls))) (Some k)) (sym c.in_ok-has_value.ensures ∙ c.if-not-branch.true))

pub loop-place-preserved : goal.loop-place-preserved
loop-place-preserved c =
    let k = c.loop-place.place in
    let ts = scalar_terms c.args.scalars in
    let ls = c.args.literals.now in
    let here = next c.args.filling.now (λ x. literal_value (bare_literal x)) k k ts ls (scalar_term c.in-Some.scalar) c.index-literals-place.result c.in-Some.ensures.read c.loop-place-test.true c.index-literals-place.is in
    c.loop-place.invariant ∙ here
    ∙ ap (λ b. cond b (differing_from c.args.filling.now (suc k) (drop (suc k) ts) (map (λ x. literal_value (bare_literal x)) (drop (suc k) ls))) (Some k)) (sym c.in_ok-has_value.ensures ∙ c.if-not-branch.false)
    ∙ ap (λ j. differing_from c.args.filling.now j (drop j ts) (map (λ x. literal_value (bare_literal x)) (drop j ls))) (sym (add-one k))

pub returns : goal.returns
returns c =
    sym (c.loop-place.invariant ∙ no_value c.args.filling.now (λ x. literal_value (bare_literal x)) c.loop-place.place c.loop-place.place _ c.args.literals.now c.loop-place-test.false)
