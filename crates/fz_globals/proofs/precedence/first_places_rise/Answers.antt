use Rattle.std.proofs.Common.{rules}
use Rattle.fz_kernel.specs.of_meaning.Relations.{precedes}
use Rattle.fz_globals.proofs.precedence.first_places_rise.Goals as goal

pub returns : goal.returns
returns c =
    λ xs keys.
    c.neighbours_pass.ensures (λ s t. precedes s t xs) (λ s t b fits_s fits_t r. search (rules, keys))
