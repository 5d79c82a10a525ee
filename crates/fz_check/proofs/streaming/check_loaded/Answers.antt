use Rattle.fz_check.specs.declared.error.CheckError.TheVariants as errors
use Rattle.fz_check.proofs.StreamingLemmas.{accepted_then, end_read_then, refused_then, reported_then, unwritten_then}
use Rattle.fz_check.proofs.streaming.check_loaded.Goals as goal

pub returns-in-Ok-clause-accepted : goal.returns-in-Ok-clause-accepted
returns-in-Ok-clause-accepted g c =
    accepted_then c.args.options g.T.Taker.text c.args.model.now c.args.reads _ _ _ _ (g.W.Write.contents c.write_lines.new.writer) c.tell_parts-outcome.new.lines.items c.tell_parts-outcome.result c.tell_parts-outcome.ensures.answered

pub returns-in-Ok-clause-report : goal.returns-in-Ok-clause-report
returns-in-Ok-clause-report g c =
    reported_then c.args.options g.T.Taker.text c.args.model.now c.args.reads _ _ _ _ (g.W.Write.contents c.write_lines.new.writer) c.tell_parts-outcome.new.lines.items c.tell_parts-outcome.result c.tell_parts-outcome.ensures.answered c.in-Ok.ensures.whole

pub returns-in-Ok-clause-refused : goal.returns-in-Ok-clause-refused
returns-in-Ok-clause-refused g c =
    refused_then c.args.options g.T.Taker.text c.args.model.now c.args.reads _ _ _ _ (g.W.Write.contents c.write_lines.new.writer) c.tell_parts-outcome.new.lines.items c.tell_parts-outcome.result c.tell_parts-outcome.ensures.stands c.in-Ok.ensures.whole c.tell_parts-outcome.ensures.refused

pub returns-in-Ok-clause-end_read : goal.returns-in-Ok-clause-end_read
returns-in-Ok-clause-end_read g c =
    end_read_then c.args.options g.T.Taker.text c.args.model.now c.args.reads _ _ _ _ (g.W.Write.contents c.write_lines.new.writer) c.tell_parts-outcome.new.lines.items c.tell_parts-outcome.result c.tell_parts-outcome.ensures.answered

pub returns-clause-refused : goal.returns-clause-refused
returns-clause-refused g c =
    unwritten_then c.args.options g.T.Taker.text c.args.model.now
    c.args.reads _ _ _ _ (g.W.Write.contents c.write_lines.new.writer)
    c.tell_parts-outcome.new.lines.items
    c.tell_parts-outcome.ensures.stands c.in-Err.ensures.front errors.Write tt
