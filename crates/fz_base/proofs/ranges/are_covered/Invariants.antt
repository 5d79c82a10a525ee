use Rattle.std.proofs.Common.{length}
use Rattle.std.specs.Prelude.{◌↔◌}
use Rattle.fz_base.specs.Ranges.{lowest, AreInOrder, LiesIn}
use Rattle.fz_base.proofs.ranges.are_covered.Given as goal

-- what is left of the one lies in what is left of the other if the whole does in the whole
abbrev pub invariant-covering : goal.invariant-covering
invariant-covering l = record {
  a_in_order : AreInOrder lowest l.rest_a;
  b_in_order : AreInOrder lowest l.rest_b;
  same : LiesIn l.rest_a l.rest_b ↔ LiesIn l.fn.a l.fn.b;
}

abbrev pub decreases-covering : goal.decreases-covering
decreases-covering l = length l.rest_a
