use Rattle.fz_kernel.proofs.Read.{bools_counted}
use Rattle.fz_scheduling.proofs.reading.truth_count.Goals as goal

pub returns : goal.returns
returns c = bools_counted c.args.elements.now c.len.result c.len.ensures.counted
