use Rattle.fz_filling.proofs.Starts.{filling_proposed}
use Rattle.fz_filling.proofs.laws.filling_is_proposed.Goals as goal

pub returns : goal.returns
returns c = filling_proposed
