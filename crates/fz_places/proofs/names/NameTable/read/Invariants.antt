use Rattle.std.proofs.Common.{◌-◌, length}
use Rattle.fz_places.proofs.TableReading.{Reading}
use Rattle.fz_places.proofs.names.NameTable.read.Given as goal

abbrev pub invariant-loop-start : goal.invariant-loop-start
invariant-loop-start l = Reading l.text l.start l.lines.items

abbrev pub decreases-loop-start : goal.decreases-loop-start
decreases-loop-start l = length l.text - l.start
