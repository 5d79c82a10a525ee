use Rattle.std.proofs.Common.{◌≡◌, None, option_map, take}
use Rattle.fz_index.specs.of_model.Meaning.{first_some, points}
use Rattle.fz_filling.specs.Verdict.{point_fails, point_undecided}
use Rattle.fz_filling.specs.View.{reason_view}
use Rattle.fz_filling.proofs.points.points_verdict.Given as goal

abbrev pub invariant-loop-number : goal.invariant-loop-number
invariant-loop-number l = record {
  none_fails : first_some (point_fails l.partial) (take l.number (points l.model)) ≡ None;
  undecided : option_map reason_view l.reason
      ≡ first_some (point_undecided l.model l.partial) (take l.number (points l.model));
}
