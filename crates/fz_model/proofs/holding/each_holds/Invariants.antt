use Rattle.std.proofs.Common.{◌≡◌, true, take}
use Rattle.std.specs.List.{list_all}
use Rattle.fz_builtins.specs.of_meaning.Meaning.{points}
use Rattle.fz_model.specs.Holding.{point_holds}
use Rattle.fz_model.proofs.holding.each_holds.Given as goal

abbrev pub invariant-loop-number : goal.invariant-loop-number
invariant-loop-number l = list_all (point_holds l.partial) (take l.number (points l.model)) ≡ true
