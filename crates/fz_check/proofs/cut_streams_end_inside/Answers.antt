use Rattle.std.proofs.Common.{map}
use Rattle.fz_filling.specs.of_stream.Parts.{frame_of}
use Rattle.fz_check.proofs.CutLemmas.{open_not_framed}
use Rattle.fz_check.proofs.cut_streams_end_inside.Goals as goal

pub returns : goal.returns
returns c = λ limits others m given front span text parts cut parted.
    open_not_framed given cut.frames (map frame_of parts) span cut.breaks parted.framed
