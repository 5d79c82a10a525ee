use Rattle.fz_builtins.specs.of_kernel.Views.{arguments_of, assigned}
use Rattle.fz_builtins.specs.of_meaning.Builtins.{row_at}
use Rattle.fz_model.proofs.value.left_base.Goals as goal

pub returns-in-Ok : goal.returns-in-Ok
returns-in-Ok c =
    c.left_by.ensures (row_at c.args.builtin) (assigned c.args.view.now)
    (arguments_of c.args.view.now) c.args.place c.requires c.in-Ok.ensures
