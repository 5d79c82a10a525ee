use Rattle.std.proofs.Common.{◌≡◌}
use Rattle.fz_builtins.specs.of_meaning.Relations.{chosen, is_among}
use Rattle.fz_builtins.specs.of_kernel.Views.{ints}
use Rattle.fz_builtins.proofs.of_globals.Choosing.{left}
use Rattle.fz_reasons.proofs.members.is_chosen.Given as goal

abbrev pub invariant-loop-place : goal.invariant-loop-place
invariant-loop-place l =
    is_among l.number (chosen l.first (ints l.elements) l.indices)
    ≡ is_among l.number (left l.first (ints l.elements) l.indices l.place)
