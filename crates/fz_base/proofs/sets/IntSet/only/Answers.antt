use Rattle.fz_base.proofs.SetRelations.{only_found, only_none}
use Rattle.fz_base.proofs.sets.IntSet.only.Goals as goal

pub returns-clause-found : goal.returns-clause-found
returns-clause-found c = only_found c.args.self.now c.kept.result.now c.kept.ensures.seen c.only.result c.only.ensures.found

pub returns-clause-none : goal.returns-clause-none
returns-clause-none c = only_none c.args.self.now c.kept.result.now c.kept.ensures.seen c.only.result c.only.ensures.none
