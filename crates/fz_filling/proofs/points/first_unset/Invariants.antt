use Rattle.std.proofs.Common.{◌≡◌, drop, length, map}
use Rattle.fz_index.specs.of_model.Parts.{variable_view}
use Rattle.fz_filling.specs.Verdict.{first_unset}
use Rattle.fz_filling.proofs.points.first_unset.Given as goal

abbrev pub invariant-loop-variable : goal.invariant-loop-variable
invariant-loop-variable l = first_unset (map variable_view l.variables) l.values ≡ first_unset (map variable_view (drop (length l.yielded) l.variables)) (drop (length l.yielded) l.values)
