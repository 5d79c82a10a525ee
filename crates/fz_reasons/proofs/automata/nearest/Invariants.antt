use Rattle.fz_reasons.specs.Elements.{IsDifferentRow}
use Rattle.fz_reasons.proofs.automata.nearest.Given as goal

abbrev pub invariant-loop-row : goal.invariant-loop-row
invariant-loop-row l = IsDifferentRow l.list l.table l.best
