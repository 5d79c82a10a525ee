use Rattle.fz_check.proofs.CheckingLemmas.{JudgedSoFar}
use Rattle.fz_check.proofs.checking.judge_blocks.Given as goal

abbrev pub invariant-loop-block : goal.invariant-loop-block
invariant-loop-block l = JudgedSoFar l.model l.blocks l.block-index l.jury l.verdicts.items
