use Rattle.fz_base.proofs.SetRelations.{is_combined_is}
use Rattle.fz_base.proofs.sets.IntSet.is_combined.Goals as goal

pub returns : goal.returns
returns c = is_combined_is c.args.a.now c.args.b.now c.kept-2.result.now c.kept-3.result.now c.kept-2.ensures.seen c.kept-3.ensures.seen c.args.rule c.args.self.now c.kept.result.now c.kept.ensures.seen c.are_kept.result c.are_kept.ensures
