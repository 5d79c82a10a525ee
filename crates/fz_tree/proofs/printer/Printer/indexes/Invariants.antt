use Rattle.std.proofs.Common.{take}
use Rattle.fz_tree.specs.Tokens.{after_commas, any_index_toks}
use Rattle.fz_tree.specs.Printing.{Prints}
use Rattle.fz_tree.proofs.printer.Printer.indexes.Given as goal

abbrev pub invariant-loop-other : goal.invariant-loop-other
invariant-loop-other l = Prints l.initial.self l.self (after_commas any_index_toks (take l.other-index l.others))
