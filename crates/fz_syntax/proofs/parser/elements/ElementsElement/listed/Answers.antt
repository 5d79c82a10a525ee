use Rattle.std.proofs.Common.{arith}
use Rattle.fz_syntax.proofs.Listed.{listed_element}
use Rattle.fz_syntax.proofs.parser.elements.ElementsElement.listed.Goals as goal

pub returns-clause-read : goal.returns-clause-read
returns-clause-read c = listed_element c.args.limits.now c.args.count _ _ _ (omega arith) c.eat_listed.ensures.read
