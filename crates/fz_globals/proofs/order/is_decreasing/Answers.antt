use Rattle.std.proofs.Common.{int_le, rules}
use Rattle.fz_globals.proofs.order.is_decreasing.Goals as goal

pub returns : goal.returns
returns c = record { exact = c.neighbours_pass.ensures (λ x y. int_le y x) (λ x y b fits_x fits_y r. search rules) }
