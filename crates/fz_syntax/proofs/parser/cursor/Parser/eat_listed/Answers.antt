use Rattle.fz_syntax.proofs.Walks.{listed_read, listed_walk}
use Rattle.fz_syntax.proofs.parser.cursor.Parser.eat_listed.Goals as goal

pub returns-clause-read : goal.returns-clause-read
returns-clause-read c = listed_read c.args.self.now c.eat_with_comma.new.self c.in_ok-plain.plain c.in_ok-first.first c.in_ok-taken.taken _ c.kind_of.result c.in_ok-first.ensures.some c.in_ok-plain.ensures c.kind_of.ensures c.in_ok-taken.ensures.read

pub returns-clause-walked : goal.returns-clause-walked
returns-clause-walked c =
    listed_walk c.in_ok-plain.plain c.in_ok-first.first c.in_ok-taken.taken _ _ c.kind_of.result c.in_ok-first.ensures.some c.in_ok-plain.ensures c.kind_of.ensures c.in_ok-taken.ensures.read c.in_ok-taken.ensures.walked
