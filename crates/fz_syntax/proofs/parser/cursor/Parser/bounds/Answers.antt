use Rattle.fz_syntax.specs.Reading.{bounds_at}
use Rattle.fz_tree.specs.Text.{IsBounds}
use Rattle.fz_syntax.proofs.TypeLaws.{bounds_takes}
use Rattle.fz_syntax.proofs.ExprLaws.{same}
use Rattle.fz_syntax.proofs.Walks.{read_literal}
use Rattle.fz_syntax.proofs.parser.cursor.Parser.bounds.Goals as goal

pub returns-clause-walked : goal.returns-clause-walked
returns-clause-walked c =
    read_literal _ _ (IsBounds c.args.limits.now) (bounds_at c.args.limits.now) (bounds_takes _ _ (same c.args.limits.now)) c.bounds_from.result c.place-start.result.start c.bounds_from.ensures.read c.place-start.ensures.start c.bounds_from.ensures.walked c.bounds_from.ensures.span
