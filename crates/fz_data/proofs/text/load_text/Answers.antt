use Rattle.fz_data.proofs.RestOfText.{first_told}
use Rattle.fz_data.proofs.text.load_text.Goals as goal

pub returns-clause-names : goal.returns-clause-names
returns-clause-names c = λ e same other. first_told c.args.limits c.args.source.now e other (rw same at c.read_text.ensures.refused)
