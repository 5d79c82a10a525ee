use Rattle.fz_syntax.proofs.Offers.{all_left, all_within, too_long_refused}
use Rattle.fz_syntax.proofs.reader.PredicateItems.new.Goals as goal

pub invariant_of-result : goal.invariant_of-result
invariant_of-result c = record { within = all_within _ c.new.ensures.all c.new.ensures.source c.new.ensures.end (rw c.bytes.ensures at c.if-source-bytes.false) }

pub returns-clause-text : goal.returns-clause-text
returns-clause-text c = λ r left. all_left _ c.new.ensures.all r left

pub returns-then-source-bytes-clause-refused : goal.returns-then-source-bytes-clause-refused
returns-then-source-bytes-clause-refused c = too_long_refused c.args.limits c.args.source.now (rw c.bytes.ensures at c.if-source-bytes.true)
