use Rattle.std.proofs.Common.{◌≡◌, length, drop}
use Rattle.fz_data.proofs.Fitting.{fit}
use Rattle.fz_data.proofs.rows.have_shapes.Given as goal

abbrev pub invariant-loop-shape : goal.invariant-loop-shape
invariant-loop-shape l = fit l.cited.variables.now l.cited.arrays.now l.store l.shapes l.arguments ≡ fit l.cited.variables.now l.cited.arrays.now l.store (drop (length l.yielded) l.shapes) (drop (length l.yielded) l.arguments)
