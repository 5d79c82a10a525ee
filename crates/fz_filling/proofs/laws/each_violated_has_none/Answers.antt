use Rattle.fz_filling.proofs.Each.{each_violated}
use Rattle.fz_filling.proofs.laws.each_violated_has_none.Goals as goal

pub returns : goal.returns
returns c = each_violated
