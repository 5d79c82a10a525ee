use Rattle.std.proofs.Common.{◌∙◌}
use Rattle.fz_store.proofs.Finds.{begins}
use Rattle.fz_store.proofs.model.Model.begins_name.Goals as goal

pub returns : goal.returns
returns c = c.begins.ensures ∙ begins c.self.inside c.self.invariant c.args.self.now c.self.view_is c.args.front.now
