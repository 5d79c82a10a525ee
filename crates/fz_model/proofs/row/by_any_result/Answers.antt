use Rattle.fz_model.proofs.Aiming.{aims, aims_nowhere}
use Rattle.fz_model.proofs.row.by_any_result.Goals as goal
