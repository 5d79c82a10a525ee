use Rattle.std.proofs.Common.{rules}
use Rattle.fz_kernel.specs.of_meaning.Relations.{◌=ℤ◌}
use Rattle.fz_globals.proofs.order.all_equal.Goals as goal

pub returns : goal.returns
returns c = record { exact = c.neighbours_pass.ensures ◌=ℤ◌ (λ x y b fits_x fits_y r. search rules) }
