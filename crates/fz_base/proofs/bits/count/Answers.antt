use Rattle.fz_base.proofs.Words.{len-numbers_of_bits}
use Rattle.fz_base.proofs.bits.count.Goals as goal

pub returns : goal.returns
returns c = len-numbers_of_bits c.args.bits c.ranges.bits.fits
