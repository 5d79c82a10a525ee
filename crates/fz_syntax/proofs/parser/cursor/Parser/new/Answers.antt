use Rattle.fz_syntax.proofs.Parsed.{all_within}
use Rattle.fz_syntax.proofs.parser.cursor.Parser.new.Goals as goal

pub invariant_of-result : goal.invariant_of-result
invariant_of-result c = record { within = all_within 0 _ _ c.new.ensures.in_order }
