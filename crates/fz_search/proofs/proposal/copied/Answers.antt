use Rattle.std.proofs.Common.{sym, subst}
use Rattle.fz_bounds.specs.of_model.Meaning.{IsPartial, variables_of}
use Rattle.fz_bounds.proofs.of_model.Partials.{nothing_fits}
use Rattle.fz_search.proofs.proposal.copied.Goals as goal

pub loop-number-init : goal.loop-number-init
loop-number-init c = subst (IsPartial c.args.model.now) (sym c.in_ok-partial.ensures.empty) (nothing_fits (variables_of c.args.model.now))
