use Rattle.fz_check.specs.Reading.{steps_left}
use Rattle.fz_check.proofs.LearningLemmas.{Listening}
use Rattle.fz_check.proofs.learning.learn.Given as goal

abbrev pub invariant-loop-parts : goal.invariant-loop-parts
invariant-loop-parts g l = Listening l.fn.options.limits l.parts (g.R.Read.remaining l.reader) l.model l.judge l.fn.known l.known

abbrev pub decreases-loop-parts : goal.decreases-loop-parts
decreases-loop-parts g l = steps_left l.parts
