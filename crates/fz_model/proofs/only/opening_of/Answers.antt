use Rattle.std.proofs.Common.{map, option_map, sym, ap, subst, ◌∙◌}
use Rattle.std.specs.List.{AllByRecursion}
use Rattle.fz_builtins.specs.of_meaning.Known.{known_row}
use Rattle.fz_builtins.specs.of_store.Parts.{argument_view, constraint_view}
use Rattle.fz_builtins.specs.of_store.Slots.{segment}
use Rattle.fz_model.proofs.ConstraintStates.{row_fits}
use Rattle.fz_model.specs.Openings.{IsFlat, IsOpening}
use Rattle.fz_model.proofs.Opens.{never_set}
use Rattle.fz_model.proofs.Placed.{flat_arguments}
use Rattle.fz_model.proofs.only.opening_of.Goals as goal

pub returns-then-has : goal.returns-then-has
returns-then-has c = never_set c.args.partial.now (constraint_view c.args.parts.now) c.in-Some.target c.in-Some.is (sym c.has.ensures.given ∙ c.if-has.true)

pub opening_among-requires : goal.opening_among-requires
opening_among-requires c =
    let p = c.args.parts.now in
    let shaped = row_fits (constraint_view p) (known_row c.in-Some-known.field-0) (sym c.requires.known ∙ ap (option_map known_row) c.in-Some-known.is) in
    record { flat = subst (AllByRecursion (IsFlat p)) (sym c.arguments.ensures.all) (flat_arguments p (known_row c.in-Some-known.field-0).shapes (segment p.store.now.arguments.items p.posted.now.arguments) shaped) }

pub returns : goal.returns
returns c =
    let p = c.args.parts.now in
    subst (λ q. IsOpening c.args.partial.now q c.opening_among.result)
    (λ i. record { name = p.posted.now.name.now; arguments = map (argument_view p.variables.now p.arrays.now p.store.now) (c.arguments.ensures.all i); target = sym c.in-Some.is i }) c.opening_among.ensures.opening
