use Rattle.std.proofs.Common.{◌≡◌, length, drop}
use Rattle.fz_kernel.specs.Arguments.{reading_in}
use Rattle.fz_kernel.proofs.Shapes.{fit}
use Rattle.fz_kernel.proofs.view.ArgumentView.are_read.Given as goal

abbrev pub invariant-loop-shape : goal.invariant-loop-shape
invariant-loop-shape l =
    fit l.self.partial.now (reading_in l.self.parts.arrays.now l.self.parts.store.now) l.shapes l.arguments
    ≡ fit l.self.partial.now (reading_in l.self.parts.arrays.now l.self.parts.store.now) (drop (length l.yielded) l.shapes) (drop (length l.yielded) l.arguments)
