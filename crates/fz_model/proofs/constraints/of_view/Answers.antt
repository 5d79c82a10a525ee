use Rattle.std.proofs.Common.{sym, ap, ◌∙◌}
use Rattle.fz_builtins.specs.of_kernel.Given.{are_read}
use Rattle.fz_builtins.specs.of_kernel.Views.{arguments_of, assigned}
use Rattle.fz_model.proofs.ConstraintStates.{missing, of_wrong_kind}
use Rattle.fz_model.proofs.constraints.of_view.Goals as goal

pub returns-in-Missing : goal.returns-in-Missing
returns-in-Missing c = missing c.args.known (assigned c.args.view.now) (arguments_of c.args.view.now) c.requires.fits c.in-Missing.ensures.exact

pub returns-in-WrongKind : goal.returns-in-WrongKind
returns-in-WrongKind c =
    let K = assigned c.args.view.now in
    let xs = arguments_of c.args.view.now in
    let unread = ap (λ ss. are_read K ss xs) (sym c.shapes.ensures) ∙ c.in-WrongKind.ensures.exact.0 in
    c.of_wrong_kind.ensures ∙ of_wrong_kind c.args.known K xs c.requires.fits unread c.in-WrongKind.ensures.exact.1

pub of_ready-requires : goal.of_ready-requires
of_ready-requires c = record { fits = c.requires.fits; ready = ap (λ ss. are_read (assigned c.args.view.now) ss (arguments_of c.args.view.now)) (sym c.shapes.ensures) ∙ c.in-Ready.ensures.exact }
