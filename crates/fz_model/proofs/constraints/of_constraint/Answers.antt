use Rattle.std.proofs.Common.{◌≡◌, Some, option_map, sym, ap, ◌∙◌, subst}
use Rattle.std.specs.Prelude.{IfOk}
use Rattle.fz_builtins.specs.of_meaning.Meaning.{have_shapes, row_of}
use Rattle.fz_builtins.specs.of_meaning.Known.{known_row}
use Rattle.fz_builtins.specs.of_store.Parts.{constraint_view}
use Rattle.fz_builtins.specs.of_kernel.Views.{arguments_of, assigned}
use Rattle.fz_model.proofs.ConstraintStates.{row_fits, same_state}
use Rattle.fz_model.proofs.constraints.of_constraint.Goals as goal

pub of_view-requires : goal.of_view-requires
of_view-requires c =
    let p = constraint_view c.args.parts in
    let r = known_row c.in-Some.known in
    let e : row_of p ≡ Some r = sym c.requires.known ∙ ap (option_map known_row) c.in-Some.is in
    record { fits = ap (have_shapes r.shapes) c.new.ensures.arguments ∙ row_fits p r e }

pub returns : goal.returns
returns c =
    let p = constraint_view c.args.parts in
    let r = known_row c.in-Some.known in
    let e : row_of p ≡ Some r = sym c.requires.known ∙ ap (option_map known_row) c.in-Some.is in
    subst (λ t. IfOk c.of_view.result (λ s. s ≡ t)) (same_state (assigned c.new.result) c.args.partial.now (arguments_of c.new.result) p.arguments r (row_of p) c.new.ensures.assigned c.new.ensures.arguments e) c.of_view.ensures
