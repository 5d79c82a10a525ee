use Rattle.fz_globals.proofs.Parted.{told_disjoint}
use Rattle.fz_globals.proofs.partition.are_disjoint.Goals as goal

pub returns : goal.returns
returns c = record { exact = told_disjoint c.is_difference.result c.args.a.now c.args.b.now c.is_difference.ensures }
