use Rattle.std.proofs.Common.{take, map}
use Rattle.std.specs.List.{flat_map}
use Rattle.fz_tree.specs.View.{bare_predicate}
use Rattle.fz_tree.specs.Tokens.{predicate_toks}
use Rattle.fz_tree.specs.Printing.{Prints}
use Rattle.fz_tree.proofs.printer.Printer.predicates.Given as goal

abbrev pub invariant-loop-predicate : goal.invariant-loop-predicate
invariant-loop-predicate l = Prints l.initial.self l.self (flat_map predicate_toks (map bare_predicate (take l.predicate-index l.predicates)))
