use Rattle.std.proofs.Common.{◌≡◌, ℤ, take}
use Rattle.fz_base.specs.Bits.{has_bit}
use Rattle.fz_base.specs.Ranges.{covers}
use Rattle.fz_base.proofs.bits.of_ranges.Given as goal

abbrev pub invariant-loop-range : goal.invariant-loop-range
invariant-loop-range l = (x : ℤ) → has_bit l.bits x ≡ covers (take l.range-index l.ranges) x
