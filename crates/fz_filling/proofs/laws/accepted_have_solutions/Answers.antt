use Rattle.fz_index.specs.of_model.Names.{model_of}
use Rattle.fz_index.proofs.of_model.Scope.{sound_aims}
use Rattle.fz_filling.proofs.Accepted.{accepted_solves}
use Rattle.fz_filling.proofs.laws.accepted_have_solutions.Goals as goal

pub returns : goal.returns
returns c = λ t blocks verdicts n sound judged answer. accepted_solves (model_of t) blocks verdicts n (sound_aims t sound) judged answer
