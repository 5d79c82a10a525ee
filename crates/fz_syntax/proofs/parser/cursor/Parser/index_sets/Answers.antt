use Rattle.std.proofs.Common.{◌-◌, ◌∙◌, suc, [], ◌∷◌, length, length-append, ap, map, arith}
use Rattle.std.proofs.lemmas.Result.{err_from_is_err_and}
use Rattle.fz_syntax.specs.Placed.{placed_literal}
use Rattle.fz_syntax.proofs.Walks.{walk_zero, walk_more, with_comma}
use Rattle.fz_tree.specs.View.{bare_literal}
use Rattle.fz_syntax.proofs.Running.{grown}
use Rattle.fz_syntax.proofs.IndexSets.{counts_begin, counts_on, counts_stop, counts_all}
use Rattle.fz_syntax.proofs.parser.cursor.Parser.index_sets.Goals as goal

pub loop-self-init : goal.loop-self-init
loop-self-init c = record {
  counts = counts_begin c.args.limits.now _ _ _ _ (ap (map bare_literal) c.new-sets.ensures.items) (omega (arith, ap length c.new-sets.ensures.items));
  walked = walk_zero (with_comma placed_literal) _ c.new-sets.ensures.items;
}

pub returns-in_err-set-clause-read : goal.returns-in_err-set-clause-read
returns-in_err-set-clause-read c =
    let at = c.len.ensures ∙ c.loop-self.sets.ok.0 in
    let p = err_from_is_err_and c.from_residual.result c.from_residual.ensures.1 in
    rw (p.1, p.2) (counts_stop c.in_err-set.field-0.0 c.args.limits.now _ (c.args.count - suc (length c.loop-self.sets.items)) _ _ _ (omega (arith, c.loop-self-test.true, at)) c.loop-self.invariant.counts c.in_err-set.ensures.read)

pub loop-self-preserved : goal.loop-self-preserved
loop-self-preserved c =
    let at = c.len.ensures ∙ c.loop-self.sets.ok.0 in
    let longer = ap length c.in_ok-push.ensures.items ∙ length-append c.loop-self.sets.items (c.in_ok-set.set ∷ []) in
    record {
      counts = counts_on c.args.limits.now _ _ _ _ _ _ _ _ (omega (arith, c.loop-self-test.true, at, longer)) (grown bare_literal _ _ _ c.in_ok-push.ensures.items) c.in_ok-set.ensures.read c.loop-self.invariant.counts;
      walked = walk_more (with_comma placed_literal) _ _ _ c.in_ok-push.ensures.items c.loop-self.invariant.walked c.in_ok-set.ensures.walked;
    }

pub returns-clause-read : goal.returns-clause-read
returns-clause-read c = (counts_all c.args.limits.now _ _ _ _ (omega (arith, c.loop-self-test.false, c.len.ensures ∙ c.loop-self.sets.ok.0)) c.loop-self.invariant.counts)
