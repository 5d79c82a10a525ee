use Rattle.std.proofs.Common.{sym, ◌∙◌, refl}
use Rattle.fz_check.proofs.Notes.{noted}
use Rattle.fz_check.proofs.outputs.print_decl.Goals as goal

pub returns-in_ok-push : goal.returns-in_ok-push
returns-in_ok-push c = noted c.args.decl.now c.push.new.self _ c.in_ok-push.ensures.items refl c.new-args.ensures.items (sym c.is_unprinted.ensures ∙ c.if-is_unprinted.true)
