use Rattle.std.proofs.lemmas.Result.{on_ok_weaker}
use Rattle.fz_check.proofs.EventLemmas.{block_next, rest_end}
use Rattle.fz_check.proofs.report.push_parts.Goals as goal

pub loop-index-preserved : goal.loop-index-preserved
loop-index-preserved c =
    block_next c.loop-index.index c.args.verdicts.now _ c.loop-index.rest.now c.in_ok-rest.rest.now c.loop-index.text.items c.push_claims.new.text.items c.push_block.new.text.items _
    c.loop-index-test.true c.in_ok-rest.ensures.added c.in_ok-rest.ensures.rest c.in_ok-push_block.ensures c.loop-index.invariant

pub returns : goal.returns
returns c =
    on_ok_weaker c.push_rest.result (λ added. rest_end c.loop-index.index c.args.verdicts.now c.loop-index.rest.now c.loop-index.text.items c.push_rest.new.text.items _ c.loop-index-test.false added c.loop-index.invariant)
    c.push_rest.ensures
