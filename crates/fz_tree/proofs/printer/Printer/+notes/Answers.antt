use Rattle.fz_tree.specs.View.{bare_arg, bare_basic}
use Rattle.fz_tree.specs.Printing.{page}
use Rattle.fz_tree.proofs.PrintSteps.{args_printed, basics_printed}
use Rattle.fz_tree.proofs.printer.Printer.+notes.Goals as goal

pub note_args-returns-in_ok-mark-3 : goal.note_args-returns-in_ok-mark-3
note_args-returns-in_ok-mark-3 t c =
    args_printed bare_arg c.args.args.now c.first-item.result c.more_args.other-index (page c.args.self.now) (page c.mark.new.self) (page c.note_arg.new.self) (page c.more_args.self) (page c.mark-in-len1-up.new.self)
    c.in-len1-up.len_at_least c.first-item.is c.more_args-test.false c.in_ok-mark.ensures c.in_ok-note_arg.ensures c.more_args.invariant c.in_ok-mark-3.ensures

pub note_basics-returns-after-more_basics : goal.note_basics-returns-after-more_basics
note_basics-returns-after-more_basics t c =
    basics_printed bare_basic c.args.basics.now c.first-item.result c.more_basics.other-index (page c.args.self.now) (page c.note_basic.new.self) (page c.more_basics.self)
    c.in-len1-up.len_at_least c.first-item.is c.more_basics-test.false c.in_ok-note_basic.ensures c.more_basics.invariant
