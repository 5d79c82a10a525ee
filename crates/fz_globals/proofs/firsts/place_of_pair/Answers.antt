use Rattle.std.proofs.Common.{arith}
use Rattle.std.proofs.lemmas.Int.{ints}
use Rattle.fz_globals.proofs.firsts.place_of_pair.Goals as goal

pub overflow_cast-result : goal.overflow_cast-result
overflow_cast-result c = (omega (arith, ints), omega (arith, ints))

pub returns-clause-some : goal.returns-clause-some
returns-clause-some c = omega (arith, ints)
