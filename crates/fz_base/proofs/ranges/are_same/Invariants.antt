use Rattle.std.proofs.Common.{◌≡◌, length, take}
use Rattle.fz_base.proofs.ranges.are_same.Given as goal

-- the lists are as long as each other, and the same so far
abbrev pub invariant-loop-place : goal.invariant-loop-place
invariant-loop-place l = (length l.a ≡ length l.b) × (take l.place l.a ≡ take l.place l.b)
