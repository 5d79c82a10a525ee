use Rattle.std.proofs.Common.{◌≡◌, true, inl, inr, refl, sym, ◌∙◌}
use Rattle.fz_builtins.specs.declared.outcome.Outcome.TheVariants.{TooLarge, Unknown}
use Rattle.fz_builtins.specs.Outcomes.{reads_beyond}
use Rattle.fz_builtins.proofs.of_meaning.Values.{no}
use Rattle.fz_builtins.specs.of_kernel.Views.{arguments_of, assigned}
use Rattle.fz_builtins.specs.of_meaning.Builtins.{row_at}
use Rattle.fz_model.proofs.Reified.{reified_row, told_nothing, told_truth}
use Rattle.fz_model.proofs.value.left_form.Goals as goal

pub returns-in-Truth : goal.returns-in-Truth
returns-in-Truth c =
    let K = assigned c.args.view.now in
    let xs = arguments_of c.args.view.now in
    let r = row_at c.args.builtin in
    let t = c.in-Truth.truth in
    let is = told_truth r K xs t (sym c.in_ok-truth.ensures ∙ c.in-Truth.is) in
    record { left = λ _. reified_row K xs r c.args.place t c.requires is.1; beyond = λ large. no (sym is.0 ∙ large) }

pub returns-in-TooLarge : goal.returns-in-TooLarge
returns-in-TooLarge c =
    let K = assigned c.args.view.now in
    let xs = arguments_of c.args.view.now in
    let r = row_at c.args.builtin in
    let beyond : reads_beyond r K xs ≡ true = elim c.in-TooLarge.is [
      | inl e ↦ told_nothing r K xs TooLarge (sym c.in_ok-truth.ensures ∙ e) (λ t. t)
      | inr e ↦ told_nothing r K xs Unknown (sym c.in_ok-truth.ensures ∙ e) (λ t. t)
    ] in
    record { left = λ fits. no (sym fits ∙ beyond); beyond = λ _. refl }
