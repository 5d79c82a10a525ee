use Rattle.fz_explain.proofs.Sourcing.{are_earlier}
use Rattle.fz_explain.proofs.source.sources_are_earlier.Goals as goal

pub returns : goal.returns
returns c = are_earlier
