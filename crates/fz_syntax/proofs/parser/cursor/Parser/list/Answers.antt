use Rattle.fz_syntax.proofs.Walks.{ate, mark_walk, walk_then, walk_from, walk_empty}
use Rattle.fz_syntax.proofs.parser.cursor.Parser.list.Goals as goal

pub returns-then-eat-clause-walked : goal.returns-then-eat-clause-walked
returns-then-eat-clause-walked g c =
    walk_empty g.E.Element.placed c.args.close _ c.new.ensures.items (ate c.args.close _ c.if-eat.true c.eat.ensures.found c.eat.ensures.left c.eat.ensures.walked)

pub returns-clause-walked : goal.returns-clause-walked
returns-clause-walked g c =
    walk_from c.if-eat.ensures.kept (walk_then c.in_ok-list.ensures.walked (mark_walk c.args.close c.in_ok-expect.ensures.walked c.in_ok-expect.ensures.read))
