use Rattle.std.proofs.Common.{refl}
use Rattle.std.specs.Prelude.{codes}
use Rattle.fz_tree.specs.declared.token.Mark.TheVariants.{OpenParen, Semicolon}
use Rattle.fz_syntax.proofs.Walks.{mark_walk, word_begun, word_walk, walk_then}
use Rattle.fz_syntax.proofs.ListLaws.{unbounded}
use Rattle.fz_syntax.proofs.ExprLaws.{same, expr_law}
use Rattle.fz_syntax.proofs.parser.cursor.Parser.constraint.Goals as goal

pub returns-clause-walked : goal.returns-clause-walked
returns-clause-walked c =
    walk_then (walk_then (walk_then (walk_then (word_walk (codes "constraint") c.skip.ensures.walked (word_begun (codes "constraint") _ _ c.requires.begun c.skip.ensures.left)) c.in_ok-name.ensures.walked) (walk_then (mark_walk OpenParen c.in_ok-expect.ensures.walked c.in_ok-expect.ensures.read) c.in_ok-args.ensures.walked)) c.in_ok-notes.ensures.walked) (mark_walk Semicolon c.in_ok-expect-2.ensures.walked c.in_ok-expect-2.ensures.read)

pub list-requires : goal.list-requires
list-requires c = λ k. ((refl, tt), (unbounded (expr_law _ _ (same c.args.limits.now)) 0).shrinks)
