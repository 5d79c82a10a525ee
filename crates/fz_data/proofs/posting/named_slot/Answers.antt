use Rattle.std.proofs.Common.{Some, [], option_map, sym, ap, ◌∙◌}
use Rattle.std.specs.Option.{option_map_or}
use Rattle.fz_store.specs.Naming.{standing_view}
use Rattle.fz_store.specs.Declarations.{declared_place}
use Rattle.fz_store.specs.of_meaning.declared.kind.Kind.TheVariants.{Int as IntKind}
use Rattle.fz_store.specs.of_meaning.Meaning.Place.{Array}
use Rattle.fz_data.proofs.Grown.{slot_is}
use Rattle.fz_data.proofs.posting.named_slot.Goals as goal

pub returns-in_ok-slot_of-in-Some-Parameter-clause-place : goal.returns-in_ok-slot_of-in-Some-Parameter-clause-place
returns-in_ok-slot_of-in-Some-Parameter-clause-place c later g =
    let s = c.args.scope.now in
    slot_is s.variables.items s.arrays.items c.slot_of.new.constants.items c.in-Some-Parameter.term.now c.in_ok-slot_of-in-Some-Parameter.field-0
    (rw c.in_ok-term-in-Some-Parameter.ensures at c.in_ok-slot_of-in-Some-Parameter.ensures.slot) later g
    ∙ ap (λ o. option_map_or (λ p. p) (option_map (declared_place s.variables.items s.arrays.items) o) (Array c.args.name.now.text.now IntKind [])) (ap (λ d. Some (standing_view d)) (sym c.in-Some-Parameter.field-0-is) ∙ c.in-Some-Parameter.ensures.stands)
