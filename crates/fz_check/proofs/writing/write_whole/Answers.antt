use Rattle.std.proofs.lemmas.List.{take_rest}
use Rattle.fz_check.proofs.WritingLemmas.{wrote_none, wrote_more}
use Rattle.fz_check.proofs.writing.write_whole.Goals as goal

pub loop-rest-init : goal.loop-rest-init
loop-rest-init g c = wrote_none _ _

pub loop-rest-preserved : goal.loop-rest-preserved
loop-rest-preserved g c = wrote_more _ _ _ c.args.bytes.now c.loop-rest.rest.now _ c.in-Ok.n c.loop-rest.invariant c.in-Ok.ensures.bytes (take_rest c.loop-rest.rest.now c.in-Ok.n)
