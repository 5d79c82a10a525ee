use Rattle.std.proofs.Common.{take, map}
use Rattle.std.specs.List.{flat_map}
use Rattle.fz_tree.specs.View.{bare_decl}
use Rattle.fz_tree.specs.Tokens.{decl_toks}
use Rattle.fz_tree.specs.Printing.{Prints}
use Rattle.fz_tree.proofs.printer.Printer.decls.Given as goal

abbrev pub invariant-loop-decl : goal.invariant-loop-decl
invariant-loop-decl l = Prints l.initial.self l.self (flat_map decl_toks (map bare_decl (take l.decl-index l.decls)))
