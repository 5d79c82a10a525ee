use Rattle.std.proofs.Common.{map, option_map, sym, ap, ◌∙◌}
use Rattle.fz_index.specs.of_model.Meaning.Place.{Scalar}
use Rattle.fz_index.specs.of_model.Parts.{variable_view}
use Rattle.fz_index.specs.of_model.Shown.{what_place}
use Rattle.fz_index.specs.of_model.Slots.{scalar_term}
use Rattle.fz_filling.specs.BlockFaults.{value_fault}
use Rattle.fz_filling.specs.Judged.{refusal}
use Rattle.fz_filling.proofs.faults.value_fault.Goals as goal

pub returns-in-Scalar : goal.returns-in-Scalar
returns-in-Scalar c x =
    c.scalar_fault.ensures (scalar_term c.in-Scalar.scalar)
    ∙ ap (λ k. option_map refusal (value_fault c.args.name.now (Scalar k (scalar_term c.in-Scalar.scalar)) c.args.value.now)) c.scalar_kind.ensures
    ∙ ap (λ w. option_map refusal (value_fault c.args.name.now (what_place (map variable_view c.args.variables.now) x w) c.args.value.now)) (sym c.in-Scalar.is)

pub returns-in-Array : goal.returns-in-Array
returns-in-Array c x =
    c.array_fault.ensures x
    ∙ ap (λ w. option_map refusal (value_fault c.args.name.now (what_place (map variable_view c.args.variables.now) x w) c.args.value.now)) (sym c.in-Array.is)
