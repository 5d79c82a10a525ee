use Rattle.std.specs.Prelude.{codes}
use Rattle.fz_tree.specs.declared.token.Mark.TheVariants.{Semicolon}
use Rattle.fz_syntax.proofs.Walks.{mark_walk, word_walk, walk_then}
use Rattle.fz_syntax.proofs.parser.cursor.Parser.solve.Goals as goal

pub returns-clause-walked : goal.returns-clause-walked
returns-clause-walked c =
    walk_then (walk_then (walk_then (word_walk (codes "solve") c.in_ok-expect_word.ensures.walked c.in_ok-expect_word.ensures.read) c.in_ok-notes.ensures.walked) c.in_ok-goal.ensures.walked) (mark_walk Semicolon c.in_ok-expect.ensures.walked c.in_ok-expect.ensures.read)
