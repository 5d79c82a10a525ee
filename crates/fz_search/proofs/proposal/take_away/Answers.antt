use Rattle.std.proofs.Common.{sym, subst}
use Rattle.fz_bounds.specs.of_model.Meaning.{IsPartial, variables_of}
use Rattle.fz_bounds.proofs.of_model.Partials.{less_fits}
use Rattle.fz_search.proofs.proposal.take_away.Goals as goal

pub returns : goal.returns
returns c = record {
  fits = subst (IsPartial c.args.model.now) (sym c.take_away.ensures.taken) (less_fits (variables_of c.args.model.now) c.args.partial.now c.args.number c.requires.fits);
}
