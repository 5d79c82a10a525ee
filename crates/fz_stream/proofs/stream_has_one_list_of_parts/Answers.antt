use Rattle.fz_stream.proofs.OnePartLemmas.{parts_once}
use Rattle.fz_stream.proofs.stream_has_one_list_of_parts.Goals as goal

pub returns : goal.returns
returns c = parts_once
