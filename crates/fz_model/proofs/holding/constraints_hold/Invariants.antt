use Rattle.std.proofs.Common.{◌≡◌, true, take}
use Rattle.std.specs.List.{list_all}
use Rattle.fz_model.specs.Holding.{posted_holds}
use Rattle.fz_model.proofs.holding.constraints_hold.Given as goal

abbrev pub invariant-loop-place : goal.invariant-loop-place
invariant-loop-place l =
    list_all (posted_holds l.partial) (take l.place l.model.constraints) ≡ true
