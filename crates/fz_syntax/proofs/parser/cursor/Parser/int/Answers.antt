use Rattle.std.specs.Prelude.{codes}
use Rattle.fz_syntax.proofs.Walks.{ate_word}
use Rattle.fz_syntax.proofs.parser.cursor.Parser.int.Goals as goal

pub returns-then-eat_word-clause-walked : goal.returns-then-eat_word-clause-walked
returns-then-eat_word-clause-walked c =
    ate_word (codes "int") _ c.if-eat_word.true c.eat_word.ensures.found c.eat_word.ensures.left c.eat_word.ensures.walked
