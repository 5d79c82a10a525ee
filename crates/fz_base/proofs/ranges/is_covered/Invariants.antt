use Rattle.std.proofs.Common.{◌≡◌, length}
use Rattle.fz_base.specs.Ranges.{lowest, AreInOrder, covers}
use Rattle.fz_base.proofs.ranges.is_covered.Given as goal

abbrev pub invariant-halving : goal.invariant-halving
invariant-halving l = record {
  in_order : AreInOrder lowest l.rest;
  same : covers l.rest l.number ≡ covers l.fn.ranges l.number;
}

abbrev pub decreases-halving : goal.decreases-halving
decreases-halving l = length l.rest
