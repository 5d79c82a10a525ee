use Rattle.fz_store.proofs.Noted.{one_read}
use Rattle.fz_store.proofs.numbered.ending_of.Goals as goal

pub loop-place-preserved : goal.loop-place-preserved
loop-place-preserved c = one_read c.args.name.now c.saturating_sub.result c.saturating_sub.ensures c.loop-place.place c.loop-place.number c.with_byte-number.result c.mark_of.result c.loop-place.marks c.loop-place-test.true c.loop-place.invariant.0 c.loop-place.invariant.1 c.with_byte-number.ensures c.mark_of.ensures
