use Rattle.fz_meaning.specs.Meaning.{points}
use Rattle.fz_meaning.proofs.Lists.{at_place}
use Rattle.fz_meaning.proofs.Points.{points_fit}
use Rattle.fz_meaning.proofs.Steps.{PointFits, only_value}
use Rattle.fz_meaning.proofs.steps_are_forced.Goals as goal

pub returns : goal.returns
returns c = λ m K k p n v w at gives same holds. only_value m K p n v w (at_place (PointFits m) (points m) k p (points_fit m) at) gives same holds
