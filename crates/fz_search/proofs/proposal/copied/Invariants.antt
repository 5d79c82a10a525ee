use Rattle.fz_bounds.specs.of_model.Meaning.{IsPartial}
use Rattle.fz_search.proofs.proposal.copied.Given as goal

abbrev pub invariant-loop-number : goal.invariant-loop-number
invariant-loop-number l = IsPartial l.model l.partial
