use Rattle.fz_meaning.proofs.Named.{row_named_base}
use Rattle.fz_meaning.proofs.known.Known.form_called.Goals as goal

pub returns-clause-none : goal.returns-clause-none
returns-clause-none c = row_named_base c.args.name.now c.in_default.ensures c.in_default-without.ensures
