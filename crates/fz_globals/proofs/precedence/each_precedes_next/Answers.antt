use Rattle.std.proofs.Common.{rules}
use Rattle.fz_kernel.specs.of_meaning.Relations.{precedes}
use Rattle.fz_kernel.specs.Views.{ints}
use Rattle.fz_globals.proofs.precedence.each_precedes_next.Goals as goal

pub returns : goal.returns
returns c =
    c.neighbours_pass.ensures (λ s t. precedes s t (ints c.args.elements.now)) (λ s t b fits_s fits_t r. search rules)
