use Rattle.fz_filling.proofs.Each.{each_satisfied}
use Rattle.fz_filling.proofs.laws.each_satisfied_has_one.Goals as goal

pub returns : goal.returns
returns c = each_satisfied
