use Rattle.std.proofs.Common.{arith}
use Rattle.std.proofs.lemmas.Bool.Decides.{nat_tests}
use Rattle.fz_kernel.specs.of_meaning.of_base.Ranges.{lowest}
use Rattle.fz_globals.proofs.NoGaps.{counted}
use Rattle.fz_globals.proofs.convex.is_convex.Goals as goal

pub returns : goal.returns
returns c = record {
  exact = counted c.args.set.now lowest c.in_ok-ranges.ranges.items c.in_ok-ranges.ensures.in_order c.in_ok-ranges.ensures.same _ (λ e. grind (arith, nat_tests)) (λ e. grind (arith, nat_tests));
}
