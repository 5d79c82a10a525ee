use Rattle.fz_filling.proofs.Chains.{filling_agrees}
use Rattle.fz_filling.proofs.laws.filling_follows.Goals as goal

pub returns : goal.returns
returns c = λ completion m block F A filled solution extends. filling_agrees completion m A block F solution extends filled
