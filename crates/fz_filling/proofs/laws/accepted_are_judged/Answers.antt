use Rattle.fz_filling.proofs.Completing.{accepted_judged}
use Rattle.fz_filling.proofs.laws.accepted_are_judged.Goals as goal

pub returns : goal.returns
returns c = λ completion t blocks verdicts n sound told answer. accepted_judged completion t sound blocks verdicts n told answer
