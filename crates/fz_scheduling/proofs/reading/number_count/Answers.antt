use Rattle.fz_kernel.proofs.Read.{ints_counted}
use Rattle.fz_scheduling.proofs.reading.number_count.Goals as goal

pub returns : goal.returns
returns c = ints_counted c.args.elements.now c.len.result c.len.ensures.counted
