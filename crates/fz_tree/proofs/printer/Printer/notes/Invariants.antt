use Rattle.std.proofs.Common.{take}
use Rattle.fz_tree.specs.View.{bare_notes}
use Rattle.fz_tree.specs.Tokens.{notes_toks}
use Rattle.fz_tree.specs.Printing.{Prints}
use Rattle.fz_tree.proofs.printer.Printer.notes.Given as goal

abbrev pub invariant-loop-note : goal.invariant-loop-note
invariant-loop-note l = Prints l.initial.self l.self (notes_toks (bare_notes (take l.note-index l.notes)))
