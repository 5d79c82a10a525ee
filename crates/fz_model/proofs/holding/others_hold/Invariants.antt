use Rattle.std.proofs.Common.{◌≡◌, true, take}
use Rattle.std.specs.List.{list_all}
use Rattle.fz_builtins.specs.of_meaning.Meaning.{points}
use Rattle.fz_model.specs.Overviews.{holds_at}
use Rattle.fz_model.proofs.holding.others_hold.Given as goal

abbrev pub invariant-loop-place : goal.invariant-loop-place
invariant-loop-place l = list_all (holds_at l.partial (points l.model)) (take l.place l.others) ≡ true
