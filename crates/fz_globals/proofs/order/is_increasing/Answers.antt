use Rattle.std.proofs.Common.{int_le, rules}
use Rattle.fz_globals.proofs.order.is_increasing.Goals as goal

pub returns : goal.returns
returns c = record { exact = c.neighbours_pass.ensures int_le (λ x y b fits_x fits_y r. search rules) }
