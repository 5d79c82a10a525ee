use Rattle.std.proofs.Common.{int_lt, rules}
use Rattle.fz_globals.proofs.order.is_strictly_increasing.Goals as goal

pub returns : goal.returns
returns c = record { exact = c.neighbours_pass.ensures int_lt (λ x y b fits_x fits_y r. search rules) }
