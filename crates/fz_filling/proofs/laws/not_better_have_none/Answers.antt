use Rattle.fz_filling.proofs.Violated.{not_better_has_none}
use Rattle.fz_filling.proofs.laws.not_better_have_none.Goals as goal

pub returns : goal.returns
returns c = not_better_has_none
