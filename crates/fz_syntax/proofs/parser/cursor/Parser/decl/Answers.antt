use Rattle.fz_tree.specs.declared.token.Mark.TheVariants.{Semicolon, Colon}
use Rattle.fz_tree.specs.Tokens.{prefix_toks}
use Rattle.fz_syntax.specs.Reading.{prefix_at}
use Rattle.fz_syntax.proofs.TypeLaws.{prefix_takes}
use Rattle.fz_syntax.proofs.ExprLaws.{same}
use Rattle.fz_syntax.proofs.Walks.{mark_walk, walk_then, read_walk, var_walk}
use Rattle.fz_syntax.proofs.parser.cursor.Parser.decl.Goals as goal

pub returns-clause-walked : goal.returns-clause-walked
returns-clause-walked c =
    walk_then (walk_then (walk_then (walk_then (walk_then (walk_then (walk_then (read_walk prefix_toks _ (prefix_at c.args.limits.now) (prefix_takes _ _ (same c.args.limits.now)) _ c.in_ok-length.ensures.walked c.in_ok-length.ensures.read) (var_walk _ c.eat_word-is_var.ensures.found c.eat_word-is_var.ensures.left c.eat_word-is_var.ensures.walked c.eat_word-is_var.ensures.kept)) c.in_ok-base.ensures.walked) (mark_walk Colon c.in_ok-expect.ensures.walked c.in_ok-expect.ensures.read)) c.in_ok-name.ensures.walked) c.in_ok-notes.ensures.walked) c.in_ok-value.ensures.walked) (mark_walk Semicolon c.in_ok-expect-2.ensures.walked c.in_ok-expect-2.ensures.read)
