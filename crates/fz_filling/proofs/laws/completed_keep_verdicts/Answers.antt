use Rattle.fz_filling.proofs.Lasting.{keeps_verdicts}
use Rattle.fz_filling.proofs.laws.completed_keep_verdicts.Goals as goal

pub returns : goal.returns
returns c = keeps_verdicts
