use Rattle.std.proofs.Common.{◌≡◌, ◌≤◌, take}
use Rattle.fz_builtins.specs.of_meaning.Meaning.{points}
use Rattle.fz_model.specs.Overviews.{others_from}
use Rattle.fz_model.proofs.overview.others.Given as goal

abbrev pub invariant-loop-number : goal.invariant-loop-number
invariant-loop-number l = record {
  within : l.number ≤ l.count;
  listed : l.others.items ≡ others_from 0 (take l.number (points l.model));
}
