use Rattle.std.proofs.Common.{flat_map, inl, inr, map, option_map, sym, ap, subst, ◌∙◌}
use Rattle.std.specs.List.{AllByRecursion}
use Rattle.fz_builtins.specs.of_meaning.Known.{known_row}
use Rattle.fz_builtins.specs.of_meaning.Meaning.{terms_in}
use Rattle.fz_builtins.specs.of_meaning.Steps.{open_terms}
use Rattle.fz_builtins.specs.of_store.Parts.{argument_view, constraint_view}
use Rattle.fz_builtins.specs.of_store.Slots.{segment}
use Rattle.fz_model.proofs.ConstraintStates.{row_fits}
use Rattle.fz_model.specs.Openings.{IsFlat, IsOpenIn}
use Rattle.fz_model.proofs.Placed.{flat_arguments}
use Rattle.fz_model.proofs.only.open_in_row.Goals as goal

pub opening_among-requires : goal.opening_among-requires
opening_among-requires c =
    let p = c.args.parts.now in
    let r = known_row c.in-Some.field-0 in
    let shaped = row_fits (constraint_view p) r (sym c.requires.known ∙ ap (option_map known_row) c.in-Some.is) in
    record { flat = subst (AllByRecursion (IsFlat p)) (sym c.arguments.ensures.all) (flat_arguments p r.shapes (segment p.store.now.arguments.items p.posted.now.arguments) shaped) }
