use Rattle.std.proofs.Common.{[], ◌∷◌, ◌++◌}
use Rattle.fz_syntax.proofs.Offers.{took_left, took_more, took_none}
use Rattle.fz_data.proofs.text.behind_constraint.Goals as goal

pub loop-more-init : goal.loop-more-init
loop-more-init c = ([], took_none)

pub loop-more-preserved : goal.loop-more-preserved
loop-more-preserved c = (c.loop-more.invariant.0 ++ c.in-Item.field-0 ∷ [], took_more _ _ c.loop-more.invariant.1 (rw c.in-Item.is at c.in_ok-more.ensures.offers).0)

pub returns-in-End-clause-left : goal.returns-in-End-clause-left
returns-in-End-clause-left c = ((c.loop-more.invariant.0, c.in-End.field-0), took_left _ c.loop-more.invariant.1 (rw c.in-End.is at c.in_ok-more.ensures.offers))
