use Rattle.std.specs.Prelude.{codes}
use Rattle.fz_syntax.proofs.Walks.{ate_word, word_walk, walk_then, walk_from}
use Rattle.fz_syntax.proofs.parser.cursor.Parser.base.Goals as goal

pub returns-then-eat_word-clause-walked : goal.returns-then-eat_word-clause-walked
returns-then-eat_word-clause-walked c =
    ate_word (codes "bool") _ c.if-eat_word.true c.eat_word.ensures.found c.eat_word.ensures.left c.eat_word.ensures.walked

pub returns-in_ok-int-clause-walked : goal.returns-in_ok-int-clause-walked
returns-in_ok-int-clause-walked c =
    walk_from c.if-eat_word.ensures.kept (walk_then (walk_then (ate_word (codes "set") _ c.if-eat_word-2.true c.eat_word-else-eat_word.ensures.found c.eat_word-else-eat_word.ensures.left c.eat_word-else-eat_word.ensures.walked) (word_walk (codes "of") c.in_ok-expect_word.ensures.walked c.in_ok-expect_word.ensures.read)) c.in_ok-int.ensures.walked)
