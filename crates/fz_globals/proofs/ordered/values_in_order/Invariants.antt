use Rattle.fz_globals.proofs.Valued.{AreValued}
use Rattle.fz_globals.proofs.ordered.values_in_order.Given as goal

abbrev pub invariant-loop-place : goal.invariant-loop-place
invariant-loop-place l = AreValued l.sorted l.place l.count
