use Rattle.std.proofs.Common.{◌≡◌, ◌++◌, drop}
use Rattle.fz_filling.specs.of_model.Meaning.{points}
use Rattle.fz_explain.specs.Told.{failing_from, failing_in}
use Rattle.fz_explain.proofs.failing.failing_points.Given as goal

abbrev pub invariant-loop-number : goal.invariant-loop-number
invariant-loop-number l =
    failing_in l.filling (points l.model) ≡ l.failing.items ++ failing_from l.filling l.number (drop l.number (points l.model))
