use Rattle.std.specs.Prelude.{codes}
use Rattle.fz_syntax.proofs.Walks.{ate_word, word_walk, walk_then, walk_from}
use Rattle.fz_syntax.proofs.parser.cursor.Parser.goal.Goals as goal

pub returns-in_ok-basic-clause-walked : goal.returns-in_ok-basic-clause-walked
returns-in_ok-basic-clause-walked c =
    walk_then (ate_word (codes "minimize") _ c.if-eat_word.true c.eat_word.ensures.found c.eat_word.ensures.left c.eat_word.ensures.walked) c.in_ok-basic.ensures.walked

pub returns-in_ok-basic-2-clause-walked : goal.returns-in_ok-basic-2-clause-walked
returns-in_ok-basic-2-clause-walked c =
    walk_from c.if-eat_word.ensures.kept (walk_then (ate_word (codes "maximize") _ c.if-eat_word-2.true c.eat_word-else-eat_word.ensures.found c.eat_word-else-eat_word.ensures.left c.eat_word-else-eat_word.ensures.walked) c.in_ok-basic-2.ensures.walked)

pub returns-in_ok-expect_word-clause-walked : goal.returns-in_ok-expect_word-clause-walked
returns-in_ok-expect_word-clause-walked c =
    walk_from c.if-eat_word.ensures.kept (walk_from c.if-eat_word-2.ensures.kept (word_walk (codes "satisfy") c.in_ok-expect_word.ensures.walked c.in_ok-expect_word.ensures.read))
