use Rattle.std.proofs.Common.{refl}
use Rattle.fz_tree.specs.declared.token.Mark.TheVariants.{OpenBracket}
use Rattle.fz_syntax.proofs.Walks.{mark_walk, walk_then}
use Rattle.fz_syntax.proofs.ListLaws.{bounded}
use Rattle.fz_syntax.proofs.ExprLaws.{same, basic_law, literal_basic_law}
use Rattle.fz_syntax.proofs.parser.cursor.Parser.value.Goals as goal

pub returns-in_ok-list-in-true-Some-clause-walked : goal.returns-in_ok-list-in-true-Some-clause-walked
returns-in_ok-list-in-true-Some-clause-walked c =
    walk_then (mark_walk OpenBracket c.in_ok-expect-in-true-Some.ensures.walked c.in_ok-expect-in-true-Some.ensures.read) c.in_ok-list-in-true-Some.ensures.walked

pub returns-in_ok-list-in-false-Some-clause-walked : goal.returns-in_ok-list-in-false-Some-clause-walked
returns-in_ok-list-in-false-Some-clause-walked c =
    walk_then (mark_walk OpenBracket c.in_ok-expect-in-false-Some.ensures.walked c.in_ok-expect-in-false-Some.ensures.read) c.in_ok-list-in-false-Some.ensures.walked

pub list-requires : goal.list-requires
list-requires c = λ k. ((refl, tt), (bounded (basic_law _ _ (same c.args.limits.now)) _).shrinks)

pub list-requires-in-false-Some : goal.list-requires-in-false-Some
list-requires-in-false-Some c = λ k. ((refl, tt), (bounded (literal_basic_law _ _ (same c.args.limits.now)) _).shrinks)
