use Rattle.fz_check.proofs.Showing.{shown_of}
use Rattle.fz_check.proofs.checking.show_with.Goals as goal

pub returns-clause-shown : goal.returns-clause-shown
returns-clause-shown c = shown_of c.args.model.now c.in_ok-text.text.items c.in-Ok.ast c.in-Ok.ensures.text.text c.in-Ok.ensures.no_fault c.in_ok-text.ensures.layout c.in_ok-text.ensures.reads_back
