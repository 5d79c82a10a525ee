use Rattle.fz_check.specs.Reading.{steps_left}
use Rattle.fz_check.proofs.StreamingLemmas.{Living}
use Rattle.fz_check.proofs.streaming.tell_parts.Given as goal

abbrev pub invariant-loop-parts : goal.invariant-loop-parts
invariant-loop-parts g l = Living l.fn.options g.T.Taker.text l.model l.reads l.parts l.jury (g.R.Read.remaining l.fn.reader)
    (g.R.Read.remaining l.reader) (g.W.Write.contents l.fn.writer) (g.W.Write.contents l.writer) l.lines.items

abbrev pub decreases-loop-parts : goal.decreases-loop-parts
decreases-loop-parts g l = steps_left l.parts
