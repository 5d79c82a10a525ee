use Rattle.std.proofs.Common.{map, take}
use Rattle.fz_filling.specs.Givers.{giver_view}
use Rattle.fz_explain.proofs.Telling.{Telling}
use Rattle.fz_explain.proofs.explained.explain_variables.Given as goal

abbrev pub invariant-loop-variable : goal.invariant-loop-variable
invariant-loop-variable l = Telling l.filling (map giver_view l.steps) l.told.items (take l.variable-index l.variables)
