use Rattle.std.proofs.Common.{◌∙◌, sym, ap}
use Rattle.fz_filling.specs.of_model.Slots.{scalar_term}
use Rattle.fz_explain.specs.Sources.{with_term}
use Rattle.fz_explain.proofs.variables.add.Goals as goal

pub returns-in_ok-insert : goal.returns-in_ok-insert
returns-in_ok-insert c = c.in_ok-insert.ensures.keys ∙ ap (λ s. with_term c.args.variables.now.keys (scalar_term s)) (sym c.in-Variable.is)
