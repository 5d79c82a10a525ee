use Rattle.std.proofs.Common.{rules}
use Rattle.std.proofs.lemmas.Int.{ints, to_z-of_z}
use Rattle.fz_base.proofs.Words.{has_with_number}
use Rattle.fz_base.proofs.bits.with.Goals as goal

pub returns : goal.returns
returns c = search (rules, to_z-of_z, has_with_number, ints)
