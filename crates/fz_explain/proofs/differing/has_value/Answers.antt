use Rattle.std.proofs.Common.{false, sym, ap, ◌∙◌}
use Rattle.std.specs.Option.{option_map_or}
use Rattle.fz_store.specs.of_meaning.of_base.declared.value.Value.TheVariants.{Set}
use Rattle.fz_filling.specs.of_model.Meaning.{value_at}
use Rattle.fz_filling.specs.of_model.Names.{literal_value}
use Rattle.fz_filling.specs.of_model.States.{same_value}
use Rattle.fz_filling.specs.of_model.Slots.{scalar_term}
use Rattle.fz_tree.specs.View.{bare_literal}
use Rattle.fz_filling.proofs.Printing.{sets_same, tests_same}
use Rattle.fz_explain.specs.Differing.{has_value}
use Rattle.fz_explain.proofs.differing.has_value.Goals as goal

pub returns-in-Some : goal.returns-in-Some
returns-in-Some c =
    let printed = c.in_ok-printed.printed in
    tests_same c.equals.result c.in-Some.value.now printed c.equals.ensures
    ∙ ap (λ o. option_map_or (λ v. same_value v printed) o false) c.in-Some.ensures.looked_up
    ∙ ap (λ p. option_map_or (λ v. same_value v p) (value_at c.args.filling.now c.in-Variable.number) false) c.in_ok-printed.ensures
    ∙ ap (λ s. has_value c.args.filling.now (scalar_term s) (literal_value (bare_literal c.args.literal.now))) (sym c.in-Variable.is)

pub returns-in-Set-printed : goal.returns-in-Set-printed
returns-in-Set-printed c =
    sets_same c.equals-in-Set-printed.result c.in-Set.set.now c.in-Set-printed.other c.equals-in-Set-printed.ensures
    ∙ ap (same_value (Set c.in-Set.set.now)) (sym c.in-Set-printed.is ∙ c.in_ok-printed.ensures)
    ∙ ap (λ s. has_value c.args.filling.now (scalar_term s) (literal_value (bare_literal c.args.literal.now))) (sym c.in-Set.is)
