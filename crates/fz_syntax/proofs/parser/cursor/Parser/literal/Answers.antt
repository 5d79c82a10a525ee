use Rattle.fz_syntax.specs.Reading.{literal_at}
use Rattle.fz_tree.specs.Text.{IsLiteral}
use Rattle.fz_syntax.proofs.ExprLaws.{literal_law, same}
use Rattle.fz_syntax.proofs.Walks.{read_literal}
use Rattle.fz_syntax.proofs.parser.cursor.Parser.literal.Goals as goal

pub returns-clause-walked : goal.returns-clause-walked
returns-clause-walked c =
    read_literal _ _ (IsLiteral c.args.limits.now) (literal_at c.args.limits.now) (literal_law _ _ (same c.args.limits.now)).takes c.literal_from.result c.place-start.result.start c.literal_from.ensures.read c.place-start.ensures.start c.literal_from.ensures.walked c.literal_from.ensures.span
