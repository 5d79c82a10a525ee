use Rattle.std.proofs.Common.{sym, ap, ◌∙◌}
use Rattle.fz_builtins.specs.of_meaning.States.{state}
use Rattle.fz_builtins.specs.of_store.Shown.{point_view}
use Rattle.fz_model.proofs.points.of_point.Goals as goal

pub returns-in-Elements : goal.returns-in-Elements
returns-in-Elements c = record { exact = c.of_elements.ensures ∙ ap (λ p. state c.args.partial.now (point_view p)) (sym c.in-Elements.is) }
