use Rattle.std.proofs.Common.{ap, ◌∙◌, option_map}
use Rattle.fz_meaning.specs.Builtins.{row_at}
use Rattle.fz_meaning.proofs.FoundRows.{base_is, if_none}
use Rattle.fz_meaning.proofs.known.Known.called.Goals as goal

pub returns-in_err-builtin-clause-none : goal.returns-in_err-builtin-clause-none
returns-in_err-builtin-clause-none c = if_none c.from_residual.result _ (base_is c.args.name.now c.called.result c.called.ensures c.in_default.ensures.none ∙ ap (option_map row_at) c.in_err-builtin.was)

pub returns-clause-has_row : goal.returns-clause-has_row
returns-clause-has_row c = base_is c.args.name.now c.called.result c.called.ensures c.in_default.ensures.none ∙ ap (option_map row_at) c.in_ok-builtin.was
