use Rattle.fz_filling.proofs.Each.{each_not_better}
use Rattle.fz_filling.proofs.laws.each_not_better_has_none.Goals as goal

pub returns : goal.returns
returns c = each_not_better
