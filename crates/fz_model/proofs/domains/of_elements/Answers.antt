use Rattle.std.proofs.Common.{true, cond, sym, ap, ◌∙◌}
use Rattle.std.proofs.lemmas.List.Folds.{list_all-map}
use Rattle.fz_builtins.specs.of_meaning.declared.state.State.TheVariants.{Holds, Fails, NoValue}
use Rattle.fz_builtins.specs.of_meaning.States.{is_outside, judged_by}
use Rattle.fz_builtins.specs.of_meaning.Meaning.{values}
use Rattle.fz_builtins.specs.of_store.Shown.{scalar_terms}
use Rattle.fz_builtins.specs.of_store.Slots.{slot_term}
use Rattle.fz_builtins.specs.of_kernel.Given.{has_value}
use Rattle.fz_model.proofs.ConstraintStates.{any_after, none_outside}
use Rattle.fz_model.proofs.domains.of_elements.Goals as goal

pub returns-then-one_outside : goal.returns-then-one_outside
returns-then-one_outside c =
    let K = c.args.partial.now in
    let e = c.args.elements in
    ap (λ b. cond b Fails (judged_by (λ vs. true) (values K (scalar_terms e))))
    (sym c.if-one_outside.true ∙ c.one_outside.ensures ∙ any_after (is_outside K c.args.domain.now) (slot_term e.constants.now) e.slots.now)

pub returns-then-have_values : goal.returns-then-have_values
returns-then-have_values c =
    let K = c.args.partial.now in
    let e = c.args.elements in
    let ts = scalar_terms e in
    let all = c.have_values.ensures ∙ sym (list_all-map (has_value K) (slot_term e.constants.now) e.slots.now) in
    let outside = c.one_outside.ensures ∙ any_after (is_outside K c.args.domain.now) (slot_term e.constants.now) e.slots.now in
    ap (λ b. cond b Holds NoValue) (sym c.if-have_values.true) ∙ none_outside K ts c.one_outside.result c.have_values.result c.if-one_outside.false all
    ∙ ap (λ b. cond b Fails (judged_by (λ vs. true) (values K ts))) outside

pub returns-else-have_values : goal.returns-else-have_values
returns-else-have_values c =
    let K = c.args.partial.now in
    let e = c.args.elements in
    let ts = scalar_terms e in
    let all = c.have_values.ensures ∙ sym (list_all-map (has_value K) (slot_term e.constants.now) e.slots.now) in
    let outside = c.one_outside.ensures ∙ any_after (is_outside K c.args.domain.now) (slot_term e.constants.now) e.slots.now in
    ap (λ b. cond b Holds NoValue) (sym c.if-have_values.false) ∙ none_outside K ts c.one_outside.result c.have_values.result c.if-one_outside.false all
    ∙ ap (λ b. cond b Fails (judged_by (λ vs. true) (values K ts))) outside
