use Rattle.std.proofs.Common.{length}
use Rattle.fz_syntax.proofs.parser.lists.SpareLists.give_back_exprs.Given as goal

abbrev pub decreases-loop-expr : goal.decreases-loop-expr
decreases-loop-expr l = length l.exprs.items
