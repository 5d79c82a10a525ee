use Rattle.std.proofs.Common.{◌∙◌}
use Rattle.std.proofs.lemmas.Result.{err_from_is_err_and}
use Rattle.fz_tree.specs.declared.token.Mark.TheVariants.{Comma}
use Rattle.fz_syntax.specs.Reading.{listed_index}
use Rattle.fz_syntax.proofs.TypeLaws.{any_index_law}
use Rattle.fz_syntax.proofs.Running.{separated_init, keeps_on, stops, is_whole_list}
use Rattle.fz_syntax.proofs.Separated.{separated_fails}
use Rattle.fz_syntax.proofs.Walks.{passed_then}
use Rattle.fz_syntax.proofs.ListLaws.{bounded}
use Rattle.fz_syntax.proofs.ExprLaws.{same}
use Rattle.fz_tree.specs.Text.{most_indexes}
use Rattle.fz_syntax.proofs.parser.cursor.Parser.indexes.Goals as goal

pub returns-in_err-listed_index-clause-read : goal.returns-in_err-listed_index-clause-read
returns-in_err-listed_index-clause-read c =
    let p = err_from_is_err_and c.from_residual.result c.from_residual.ensures.1 in
    rw (p.1, p.2) (separated_fails c.in_err-listed_index.field-0.0 (listed_index c.args.limits.now) _ c.in_err-listed_index.ensures.read)

pub loop-self-init : goal.loop-self-init
loop-self-init c = record {
  continues = separated_init (listed_index c.args.limits.now) _ _ _ _ _ c.new-indexes.ensures.items c.in_ok-push.ensures.items c.in_ok-listed_index.ensures.read;
  walked = c.in_ok-listed_index.ensures.walked;
}

pub returns-in_err-index-clause-read : goal.returns-in_err-index-clause-read
returns-in_err-index-clause-read c =
    let p = err_from_is_err_and c.from_residual-in_err-index.result c.from_residual-in_err-index.ensures.1 in
    rw (p.1, p.2) (stops c.in_err-index.field-0.0 Comma (listed_index c.args.limits.now) _ _ _ _ _ (c.len.ensures ∙ c.loop-self.indexes.ok.0) _ c.loop-self-test.true c.eat.ensures.found c.eat.ensures.left c.loop-self.invariant.continues c.in_err-index.ensures.read)

pub loop-self-preserved : goal.loop-self-preserved
loop-self-preserved c = record {
  continues = keeps_on Comma (listed_index c.args.limits.now) (bounded (any_index_law _ _ (same c.args.limits.now)) most_indexes).shrinks _ _ _ _ _ _ _ _ (c.len.ensures ∙ c.loop-self.indexes.ok.0) c.in_ok-push-2.ensures.items _ c.loop-self-test.true c.eat.ensures.found c.eat.ensures.left c.in_ok-index.ensures.read c.loop-self.invariant.continues;
  walked = passed_then c.loop-self.invariant.walked (passed_then c.eat.ensures.walked c.in_ok-index.ensures.walked);
}

pub returns-clause-read : goal.returns-clause-read
returns-clause-read c = is_whole_list Comma (listed_index c.args.limits.now) _ _ _ _ _ c.loop-self-test.false c.eat.ensures.found c.eat.ensures.left c.loop-self.invariant.continues
