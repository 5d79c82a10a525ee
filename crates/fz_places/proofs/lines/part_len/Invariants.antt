use Rattle.std.proofs.Common.{◌≡◌, ◌++◌, take, drop}
use Rattle.fz_places.specs.Lines.{first_part}
use Rattle.fz_places.proofs.lines.part_len.Given as goal

abbrev pub invariant-loop-index : goal.invariant-loop-index
invariant-loop-index l = first_part l.end l.bytes ≡ take l.index l.bytes ++ first_part l.end (drop l.index l.bytes)
