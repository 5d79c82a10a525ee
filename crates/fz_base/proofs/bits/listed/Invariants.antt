use Rattle.std.proofs.Common.{◌≡◌, ℤ, take}
use Rattle.std.specs.List.{list_any}
use Rattle.std.specs.Ordering.{int_eq}
use Rattle.fz_base.specs.Bits.{has_bit}
use Rattle.fz_base.proofs.bits.listed.Given as goal

abbrev pub invariant-loop-number : goal.invariant-loop-number
invariant-loop-number l = (x : ℤ) → has_bit l.bits x ≡ list_any (int_eq x) (take l.number-index l.numbers)
