use Rattle.std.proofs.Common.{sym, subst}
use Rattle.fz_bounds.specs.of_model.Meaning.{IsPartial, variables_of}
use Rattle.fz_bounds.proofs.of_model.Partials.{give_fits, has_place}
use Rattle.fz_search.proofs.proposal.give.Goals as goal

pub set-requires-clause-in_range : goal.set-requires-clause-in_range
set-requires-clause-in_range c = has_place c.args.model.now c.args.partial.now c.args.number _ c.requires.fits (c.suits.ensures c.if-not-suits.false)

pub returns : goal.returns
returns c = record {
  fits = subst (IsPartial c.args.model.now) (sym c.set.ensures.given) (give_fits (variables_of c.args.model.now) c.args.partial.now c.args.number _ c.requires.fits (c.suits.ensures c.if-not-suits.false));
}
