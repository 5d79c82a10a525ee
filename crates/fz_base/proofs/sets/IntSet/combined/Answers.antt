use Rattle.std.proofs.Common.{◌∙◌}
use Rattle.fz_base.proofs.SetRelations.{combined_made}
use Rattle.fz_base.proofs.sets.IntSet.combined.Goals as goal

pub returns : goal.returns
returns c = c.set_of.ensures ∙ combined_made c.args.self.now c.args.other.now c.kept.result.now c.kept-2.result.now c.kept.ensures.seen c.kept-2.ensures.seen c.args.rule c.in_ok-combine.field-0 c.in_ok-combine.ensures.same
