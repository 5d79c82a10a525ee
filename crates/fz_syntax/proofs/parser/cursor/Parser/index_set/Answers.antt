use Rattle.fz_tree.specs.declared.token.Mark.TheVariants.{Comma}
use Rattle.fz_syntax.proofs.Walks.{mark_walk, walk_then}
use Rattle.fz_syntax.proofs.parser.cursor.Parser.index_set.Goals as goal

pub returns-clause-walked : goal.returns-clause-walked
returns-clause-walked c =
    walk_then c.in_ok-bounds.ensures.walked (mark_walk Comma c.in_ok-expect.ensures.walked c.in_ok-expect.ensures.read)
