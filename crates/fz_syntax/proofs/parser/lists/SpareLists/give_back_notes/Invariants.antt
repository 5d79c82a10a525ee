use Rattle.std.proofs.Common.{length}
use Rattle.fz_syntax.proofs.parser.lists.SpareLists.give_back_notes.Given as goal

abbrev pub decreases-loop-note : goal.decreases-loop-note
decreases-loop-note l = length l.notes.items
