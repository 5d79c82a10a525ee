use Rattle.std.proofs.Common.{◌≡◌, drop}
use Rattle.std.specs.FinSet.{contains}
use Rattle.std.specs.List.{list_any}
use Rattle.fz_builtins.specs.of_kernel.Views.{sets}
use Rattle.fz_reasons.proofs.members.is_in_one.Given as goal

abbrev pub invariant-loop-place : goal.invariant-loop-place
invariant-loop-place l =
    list_any (λ s. contains s l.number) (sets l.parts)
    ≡ list_any (λ s. contains s l.number) (drop l.place (sets l.parts))
