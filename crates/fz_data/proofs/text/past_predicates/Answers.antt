use Rattle.std.proofs.Common.{[], ◌∷◌, ◌++◌}
use Rattle.fz_syntax.proofs.Offers.{took_all, took_more, took_none}
use Rattle.fz_data.proofs.text.past_predicates.Goals as goal

pub loop-predicate-init : goal.loop-predicate-init
loop-predicate-init c = ([], took_none)

pub loop-predicate-preserved : goal.loop-predicate-preserved
loop-predicate-preserved c = (c.loop-predicate.invariant.0 ++ c.in-Item.predicate ∷ [], took_more _ _ c.loop-predicate.invariant.1 (rw c.in-Item.is at c.in_ok-predicate.ensures.offers).0)

pub returns-in-End-clause-past : goal.returns-in-End-clause-past
returns-in-End-clause-past c = (c.loop-predicate.invariant.0, took_all _ c.loop-predicate.invariant.1 (rw c.in-End.is at c.in_ok-predicate.ensures.offers))
