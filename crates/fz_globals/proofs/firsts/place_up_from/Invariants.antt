use Rattle.std.proofs.Common.{ℕ, ◌<◌, ◌≤◌, ◌-◌, ◌<ℤ◌, ◌≤ℤ◌, pos, get_or, length}
use Rattle.fz_globals.proofs.firsts.place_up_from.Given as goal

abbrev pub invariant-loop-start : goal.invariant-loop-start
invariant-loop-start l = record {
  order : l.start ≤ l.end;
  within : l.end ≤ length l.sorted;
  below : (k : ℕ) → k < l.start → get_or l.sorted k (pos 0) <ℤ l.low;
  from : (k : ℕ) → l.end ≤ k → k < length l.sorted → l.low ≤ℤ get_or l.sorted k (pos 0);
}

abbrev pub decreases-loop-start : goal.decreases-loop-start
decreases-loop-start l = l.end - l.start
