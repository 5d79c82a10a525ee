use Rattle.std.proofs.Common.{take, map}
use Rattle.fz_tree.specs.View.{bare_expr}
use Rattle.fz_tree.specs.Tokens.{after_commas, expr_toks}
use Rattle.fz_tree.specs.Printing.{Prints}
use Rattle.fz_tree.proofs.printer.Printer.arguments.Given as goal

abbrev pub invariant-loop-other : goal.invariant-loop-other
invariant-loop-other l = Prints l.initial.self l.self (after_commas expr_toks (map bare_expr (take l.other-index l.others)))
