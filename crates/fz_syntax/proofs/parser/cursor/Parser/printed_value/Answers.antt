use Rattle.std.proofs.Common.{arith}
use Rattle.fz_syntax.proofs.Walks.{array_word_walk, array_walk}
use Rattle.fz_syntax.proofs.parser.cursor.Parser.printed_value.Goals as goal

pub returns-else-dimensions-eq0-clause-walked : goal.returns-else-dimensions-eq0-clause-walked
returns-else-dimensions-eq0-clause-walked c =
    array_walk _ _ c.printed_array.result (array_word_walk _ (omega (arith, c.if-dimensions-eq0.false)) c.eat_array-dimensions.ensures.found c.eat_array-dimensions.ensures.left c.eat_array-dimensions.ensures.walked) c.printed_array.ensures.worded c.printed_array.ensures.walked
