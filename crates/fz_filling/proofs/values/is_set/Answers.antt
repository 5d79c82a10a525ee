use Rattle.std.proofs.Common.{sym, ap, ◌∙◌}
use Rattle.fz_index.specs.of_model.of_base.declared.value.Value.TheVariants.{Set}
use Rattle.fz_index.specs.of_model.States.{same_value}
use Rattle.fz_filling.proofs.Printing.{sets_same}
use Rattle.fz_filling.proofs.values.is_set.Goals as goal

pub returns-in-Set : goal.returns-in-Set
returns-in-Set c = sets_same c.equals.result c.args.set.now _ c.equals.ensures ∙ ap (same_value (Set c.args.set.now)) (sym c.in-Set.is ∙ c.in_ok-printed.ensures)
