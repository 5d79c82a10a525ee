use Rattle.std.proofs.Common.{take, map}
use Rattle.std.specs.List.{flat_map}
use Rattle.fz_tree.specs.View.{bare_constraint}
use Rattle.fz_tree.specs.Tokens.{constraint_toks}
use Rattle.fz_tree.specs.Printing.{Prints}
use Rattle.fz_tree.proofs.printer.Printer.constraints.Given as goal

abbrev pub invariant-loop-constraint : goal.invariant-loop-constraint
invariant-loop-constraint l = Prints l.initial.self l.self (flat_map constraint_toks (map bare_constraint (take l.constraint-index l.constraints)))
