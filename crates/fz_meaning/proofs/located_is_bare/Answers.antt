use Rattle.fz_meaning.proofs.Places as places
use Rattle.fz_meaning.proofs.located_is_bare.Goals as goal

pub returns : goal.returns
returns c = places.located_is_bare
