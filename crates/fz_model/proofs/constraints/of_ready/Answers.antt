use Rattle.std.proofs.Common.{ap, ◌∙◌}
use Rattle.fz_builtins.specs.of_kernel.Views.{arguments_of, assigned}
use Rattle.fz_builtins.specs.Outcomes.{told}
use Rattle.fz_model.proofs.ConstraintStates.{of_ready}
use Rattle.fz_model.proofs.constraints.of_ready.Goals as goal

pub returns : goal.returns
returns c = c.told.ensures ∙ ap told c.in_ok-of_known.ensures ∙ of_ready c.args.known (assigned c.args.view.now) (arguments_of c.args.view.now) c.requires.fits c.requires.ready
