use Rattle.std.proofs.Common.{◌≡◌, ℕ, ℤ, pos, ◌≤◌, ◌-ℤ◌, true, not, ◌&&◌, length}
use Rattle.fz_base.specs.Bits.{has_bit}
use Rattle.fz_base.specs.Ranges.{lowest, AreInOrder, EndUpTo, covers}
use Rattle.fz_base.proofs.bits.spread.Given as goal

-- the ranges are those of the numbers that are no longer left, which lie below all that are
abbrev pub invariant-spreading : goal.invariant-spreading
invariant-spreading l = record {
  part : (x : ℤ) → has_bit l.rest x ≡ true → has_bit l.bits x ≡ true;
  in_order : AreInOrder lowest l.ranges.items;
  ends : (k : ℕ) → has_bit l.rest (pos k) ≡ true → EndUpTo (pos k -ℤ pos 1) l.ranges.items;
  few : (k : ℕ) → has_bit l.rest (pos k) ≡ true → length l.ranges.items ≤ k;
  same : (x : ℤ) → covers l.ranges.items x ≡ (has_bit l.bits x && not (has_bit l.rest x));
}

abbrev pub decreases-spreading : goal.decreases-spreading
decreases-spreading l = l.rest
