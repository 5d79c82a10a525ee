use Rattle.std.proofs.Common.{◌≡◌, ℤ, ◌≤ℤ◌, length}
use Rattle.fz_base.specs.Ranges.{lowest, AreInOrder, covers}
use Rattle.fz_base.proofs.ranges.reaching.Given as goal

abbrev pub invariant-passing : goal.invariant-passing
invariant-passing l = record {
  in_order : AreInOrder lowest l.rest;
  alike : (x : ℤ) → l.at ≤ℤ x → covers l.rest x ≡ covers l.fn.ranges x;
}

abbrev pub decreases-passing : goal.decreases-passing
decreases-passing l = length l.rest
