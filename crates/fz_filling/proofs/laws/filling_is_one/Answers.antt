use Rattle.fz_filling.proofs.Unique.{one_end}
use Rattle.fz_filling.proofs.laws.filling_is_one.Goals as goal

pub returns : goal.returns
returns c = λ m block F G filled other. one_end m filled G other
