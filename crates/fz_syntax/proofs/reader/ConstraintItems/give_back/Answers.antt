use Rattle.std.proofs.Common.{refl}
use Rattle.fz_syntax.specs.Offering.{from_constraints}
use Rattle.fz_syntax.proofs.Offers.{still}
use Rattle.fz_syntax.proofs.reader.ConstraintItems.give_back.Goals as goal

pub returns-clause-same : goal.returns-clause-same
returns-clause-same c = still from_constraints c.args.self.now.rest _ refl refl refl
