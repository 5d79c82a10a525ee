use Rattle.std.proofs.Common.{int_lt, rules, of_calls}
use Rattle.std.proofs.lemmas.Fn.{always_returns_same}
use Rattle.fz_globals.proofs.Halving.{parted_below, point_counts}
use Rattle.fz_globals.proofs.ordered.number_below.Goals as goal

pub returns : goal.returns
returns c =
    let xs = c.args.sorted.now in
    let v = c.args.value in
    let point = c.partition_point.ensures.partitioned (λ y. int_lt y v) (always_returns_same _ _ _ (λ a r f k. search (rules, of_calls))) (parted_below xs v c.requires) in
    point_counts (λ y. int_lt y v) xs c.partition_point.result c.partition_point.ensures.bound point
