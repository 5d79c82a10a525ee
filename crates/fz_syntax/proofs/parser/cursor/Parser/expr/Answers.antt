use Rattle.std.proofs.Common.{refl}
use Rattle.fz_tree.specs.declared.token.Mark.TheVariants.{OpenBracket}
use Rattle.fz_syntax.proofs.Walks.{ate, walk_then}
use Rattle.fz_syntax.proofs.ListLaws.{bounded}
use Rattle.fz_syntax.proofs.ExprLaws.{same, basic_law}
use Rattle.fz_syntax.proofs.parser.cursor.Parser.expr.Goals as goal

pub returns-in_ok-list-clause-walked : goal.returns-in_ok-list-clause-walked
returns-in_ok-list-clause-walked c =
    walk_then (ate OpenBracket _ c.if-eat.true c.eat.ensures.found c.eat.ensures.left c.eat.ensures.walked) c.in_ok-list.ensures.walked

pub list-requires : goal.list-requires
list-requires c = λ k. ((refl, tt), (bounded (basic_law _ _ (same c.args.limits.now)) _).shrinks)
