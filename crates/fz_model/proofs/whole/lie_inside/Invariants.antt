use Rattle.std.proofs.Common.{◌≡◌, drop}
use Rattle.fz_model.proofs.Valued.{side_by_side}
use Rattle.fz_model.proofs.whole.lie_inside.Given as goal

abbrev pub invariant-loop-number : goal.invariant-loop-number
invariant-loop-number l = side_by_side l.variables l.values ≡ side_by_side (drop l.number l.variables) (drop l.number l.values)
