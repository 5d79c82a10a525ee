use Rattle.std.proofs.Common.{arith}
use Rattle.std.proofs.lemmas.Int.{ints, clamps}
use Rattle.fz_globals.proofs.indices.last_index.Goals as goal

pub returns-then-last-from : goal.returns-then-last-from
returns-then-last-from c = omega (arith, ints, clamps)

pub returns-else-last-from : goal.returns-else-last-from
returns-else-last-from c = omega (arith, ints, clamps)
