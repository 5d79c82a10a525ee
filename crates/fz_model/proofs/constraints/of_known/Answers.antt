use Rattle.std.proofs.Common.{length, sym, ap, ◌∙◌}
use Rattle.fz_builtins.specs.of_meaning.Builtins.{row_at}
use Rattle.fz_builtins.specs.of_meaning.Known.{form_at}
use Rattle.fz_builtins.specs.of_kernel.Views.{arguments_of, assigned}
use Rattle.fz_builtins.specs.Outcomes.{row_outcome, compared, implied_by}
use Rattle.fz_builtins.specs.Readings.{truth}
use Rattle.fz_builtins.proofs.FormOutcomes.{reified_outcome, implied_outcome}
use Rattle.fz_model.proofs.constraints.of_known.Goals as goal

pub returns-in-Base : goal.returns-in-Base
returns-in-Base c =
    c.in_ok-outcome.ensures
    ∙ ap (λ f. row_outcome (form_at f (row_at c.args.known.builtin)) (assigned c.args.view.now) (arguments_of c.args.view.now)) (sym c.in-Base.is)

pub returns-in-Reified : goal.returns-in-Reified
returns-in-Reified c =
    let K = assigned c.args.view.now in
    let xs = arguments_of c.args.view.now in
    let r = row_at c.args.known.builtin in
    c.compared.ensures ∙ ap (λ t. compared t c.in_ok-outcome.outcome) c.control.ensures.exact
    ∙ ap (compared (truth c.args.view.now (length r.shapes))) c.in_ok-outcome.ensures
    ∙ sym (reified_outcome r K xs) ∙ ap (λ f. row_outcome (form_at f r) K xs) (sym c.in-Reified.is)

pub returns-in-Implied : goal.returns-in-Implied
returns-in-Implied c =
    let K = assigned c.args.view.now in
    let xs = arguments_of c.args.view.now in
    let r = row_at c.args.known.builtin in
    c.implied_by.ensures ∙ ap (λ t. implied_by t c.in_ok-outcome.outcome) c.control-in-Implied.ensures.exact
    ∙ ap (implied_by (truth c.args.view.now (length r.shapes))) c.in_ok-outcome.ensures
    ∙ sym (implied_outcome r K xs) ∙ ap (λ f. row_outcome (form_at f r) K xs) (sym c.in-Implied.is)
