use Rattle.fz_check.specs.View.{answer_view}
use Rattle.fz_check.proofs.CheckingLemmas.{at_index, judged_all, judged_first, judged_next, refuses_next}
use Rattle.fz_check.proofs.checking.judge_blocks.Goals as goal

pub loop-block-init : goal.loop-block-init
loop-block-init c = judged_first c.args.model.now c.args.blocks.now c.new-jury.result c.new-verdicts.result.items c.new-jury.ensures.judge c.new-jury.ensures.account c.new-verdicts.ensures.items

pub loop-block-preserved : goal.loop-block-preserved
loop-block-preserved c =
    judged_next c.args.model.now c.args.blocks.now c.loop-block.block-index c.loop-block.jury c.loop-block.verdicts.items c.loop-block.invariant c.block-item.result c.loop-block-test.true c.block-item.is
    c.judge.new.self c.in-Ok.judged.0 c.push.new.self.items c.in-Ok.ensures.judged c.in_ok-push.ensures.items

pub returns-in-Err-clause-refused : goal.returns-in-Err-clause-refused
returns-in-Err-clause-refused c =
    refuses_next c.args.model.now c.args.blocks.now c.loop-block.block-index c.loop-block.jury c.loop-block.verdicts.items c.loop-block.invariant c.block-item.result c.loop-block-test.true c.block-item.is
    _ c.in-Err.error c.in-Err.ensures.refused (at_index _ c.args.blocks.now c.loop-block.block-index c.block-item.result c.requires.places c.loop-block-test.true c.block-item.is)
    (at_index _ c.args.blocks.now c.loop-block.block-index c.block-item.result c.requires.within c.loop-block-test.true c.block-item.is)

pub returns-clause-report : goal.returns-clause-report
returns-clause-report c =
    judged_all c.args.model.now c.args.blocks.now c.loop-block.block-index c.loop-block.jury c.loop-block.verdicts.items c.loop-block.invariant (answer_view c.answer.result) c.loop-block-test.false c.answer.ensures c.args.claims.items
