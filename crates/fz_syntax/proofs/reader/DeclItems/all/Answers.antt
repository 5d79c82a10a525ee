use Rattle.fz_syntax.proofs.Offers.{took_all, took_more}
use Rattle.fz_syntax.proofs.reader.DeclItems.all.Goals as goal

pub loop-all-preserved : goal.loop-all-preserved
loop-all-preserved c = rw c.in_ok-push-in-Item.ensures.items (took_more _ _ c.loop-all.invariant (rw c.in-Item.is at c.in_ok-item.ensures.offers).0)

pub returns-in-End-clause-all : goal.returns-in-End-clause-all
returns-in-End-clause-all c = rw c.trimmed.ensures (took_all _ c.loop-all.invariant (rw c.in-End.is at c.in_ok-item.ensures.offers))
