use Rattle.fz_tree.specs.declared.token.Mark.TheVariants.{Equals}
use Rattle.fz_syntax.proofs.Walks.{mark_walk, walk_then}
use Rattle.fz_syntax.proofs.parser.cursor.Parser.given_value.Goals as goal

pub returns-clause-walked : goal.returns-clause-walked
returns-clause-walked c =
    walk_then (mark_walk Equals c.in_ok-expect.ensures.walked c.in_ok-expect.ensures.read) c.in_ok-value.ensures.walked
