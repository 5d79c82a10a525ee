use Rattle.fz_tree.specs.declared.token.Mark.TheVariants.{Semicolon, Equals}
use Rattle.fz_syntax.proofs.Walks.{mark_walk, walk_then}
use Rattle.fz_syntax.proofs.parser.cursor.Parser.printed.Goals as goal

pub returns-clause-walked : goal.returns-clause-walked
returns-clause-walked c =
    walk_then (walk_then (walk_then c.in_ok-name.ensures.walked (mark_walk Equals c.in_ok-expect.ensures.walked c.in_ok-expect.ensures.read)) c.in_ok-value.ensures.walked) (mark_walk Semicolon c.in_ok-expect-2.ensures.walked c.in_ok-expect-2.ensures.read)
