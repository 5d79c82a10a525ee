use Rattle.std.proofs.Common.{sym, ◌∙◌}
use Rattle.fz_meaning.proofs.FoundRows.{form_lacks, form_none, form_some, if_none}
use Rattle.fz_meaning.proofs.known.Known.in_form.Goals as goal

pub returns-in_err-builtin-clause-none : goal.returns-in_err-builtin-clause-none
returns-in_err-builtin-clause-none c = if_none c.from_residual.result _ (form_none c.args.base.now c.called.result c.called.ensures c.args.form c.requires c.in_err-builtin.was)

pub returns-then-has_forms-clause-has_row : goal.returns-then-has_forms-clause-has_row
returns-then-has_forms-clause-has_row c =
    form_some c.args.base.now c.called.result c.called.ensures c.args.form c.requires c.in_ok-builtin.builtin c.in_ok-builtin.was (sym c.base_row-has_forms.ensures.has_forms ∙ c.if-has_forms.true)

pub returns-else-has_forms-clause-none : goal.returns-else-has_forms-clause-none
returns-else-has_forms-clause-none c =
    form_lacks c.args.base.now c.called.result c.called.ensures c.args.form c.requires c.in_ok-builtin.builtin c.in_ok-builtin.was (sym c.base_row-has_forms.ensures.has_forms ∙ c.if-has_forms.false)
