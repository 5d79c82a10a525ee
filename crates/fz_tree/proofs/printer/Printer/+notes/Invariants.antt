use Rattle.std.proofs.Common.{take, map}
use Rattle.fz_tree.specs.View.{bare_arg, bare_basic}
use Rattle.fz_tree.specs.Tokens.{after_commas, arg_toks, note_basic_toks}
use Rattle.fz_tree.specs.Printing.{Prints}
use Rattle.fz_tree.proofs.printer.Printer.+notes.Given as goal

abbrev pub invariant-note_args-more_args : goal.invariant-note_args-more_args
invariant-note_args-more_args l = Prints l.initial.self l.self (after_commas arg_toks (map bare_arg (take l.other-index l.others)))

abbrev pub invariant-note_basics-more_basics : goal.invariant-note_basics-more_basics
invariant-note_basics-more_basics l = Prints l.initial.self l.self (after_commas note_basic_toks (map bare_basic (take l.other-index l.others)))
