use Rattle.std.proofs.Common.{◌∙◌}
use Rattle.fz_base.proofs.SetRelations.{has_fits}
use Rattle.fz_base.proofs.sets.IntSet.within.Goals as goal

pub returns-clause-fits : goal.returns-clause-fits
returns-clause-fits c = λ x in_s. has_fits x c.kept.result.now c.kept.ensures.kept (c.kept.ensures.seen x ∙ in_s)
