use Rattle.std.proofs.Common.{◌≡◌, pos}
use Rattle.std.specs.FinSet.{contains}
use Rattle.std.specs.List.{list_any}
use Rattle.fz_builtins.specs.of_meaning.Relations.{chosen}
use Rattle.fz_builtins.specs.of_kernel.Views.{sets}
use Rattle.fz_builtins.proofs.of_globals.Choosing.{left}
use Rattle.fz_reasons.proofs.members.is_in_chosen.Given as goal

abbrev pub invariant-loop-place : goal.invariant-loop-place
invariant-loop-place l =
    list_any (λ s. contains s l.number) (chosen (pos 1) (sets l.parts) l.indices)
    ≡ list_any (λ s. contains s l.number) (left (pos 1) (sets l.parts) l.indices l.place)
