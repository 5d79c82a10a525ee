use Rattle.std.proofs.Common.{◌≡◌, Some, option_map, sym, ap, ◌∙◌}
use Rattle.fz_builtins.specs.of_meaning.Meaning.{have_shapes, row_of}
use Rattle.fz_builtins.specs.of_meaning.Known.{known_row}
use Rattle.fz_builtins.specs.of_store.Parts.{constraint_view}
use Rattle.fz_builtins.specs.of_kernel.Given.{are_read}
use Rattle.fz_builtins.specs.of_kernel.Views.{arguments_of, assigned}
use Rattle.fz_model.specs.Holding.{is_held}
use Rattle.fz_model.proofs.ConstraintStates.{row_fits, same_state}
use Rattle.fz_model.proofs.holding.constraint_holds.Goals as goal

pub of_ready-requires : goal.of_ready-requires
of_ready-requires c =
    let p = constraint_view c.args.parts in
    let r = known_row c.in-Some.known in
    let e : row_of p ≡ Some r = sym c.requires.known ∙ ap (option_map known_row) c.in-Some.is in
    record {
      fits = ap (have_shapes r.shapes) c.new.ensures.arguments ∙ row_fits p r e;
      ready = (λ i. are_read (c.new.ensures.assigned i) r.shapes (c.new.ensures.arguments i)) ∙ c.requires.ready r e;
    }

pub returns : goal.returns
returns c =
    let p = constraint_view c.args.parts in
    let r = known_row c.in-Some.known in
    let e : row_of p ≡ Some r = sym c.requires.known ∙ ap (option_map known_row) c.in-Some.is in
    c.is_held.ensures ∙ ap is_held (c.in_ok-found.ensures
    ∙ same_state (assigned c.new.result) c.args.partial.now (arguments_of c.new.result) p.arguments r (row_of p) c.new.ensures.assigned c.new.ensures.arguments e)
