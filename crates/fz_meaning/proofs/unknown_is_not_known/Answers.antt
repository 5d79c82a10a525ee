use Rattle.fz_meaning.specs.Meaning.{row_of}
use Rattle.fz_meaning.proofs.Powers.{unknown_row}
use Rattle.fz_meaning.proofs.unknown_is_not_known.Goals as goal

pub returns : goal.returns
returns c = λ K k p. unknown_row K p.arguments (row_of p)
