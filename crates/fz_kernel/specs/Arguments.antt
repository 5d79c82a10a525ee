-- Arguments by the slots that a store has of them (private functions only).
use Rattle.std.specs.Prelude.{ℕ, Bool, true, false, ◌&&◌, List, [], ◌∷◌, map, Option, None, slice_get, is_some}
use Rattle.std.specs.List.{list_all}
use Rattle.std.specs.Option.{option_map_or}
use Rattle.fz_store.specs.of_meaning.declared.term.Term.{Term}
use Rattle.fz_store.specs.of_meaning.Builtins.{Shape}
use Rattle.fz_store.specs.of_meaning.Builtins.Shape.{ScalarOf, ArrayOf}
use Rattle.fz_store.specs.of_meaning.Meaning.{Argument, Partial, value_at}
use Rattle.fz_store.specs.Slots.{segment}
use Rattle.fz_store.specs.declared.parts.Array.{Array}
use Rattle.fz_store.specs.declared.Slot.{Slot}
use Rattle.fz_store.specs.declared.Slot.TheVariants as slots
use Rattle.fz_store.specs.declared.Argument as kept
use Rattle.fz_store.specs.declared.Argument.TheVariants as arguments
use Rattle.fz_store.specs.declared.Store.{Store}
use Rattle.fz_kernel.specs.Given.{slot_in, slots_in, is_read}
use Rattle.fz_kernel.specs.Views.{slot_read}

-- ---- what they are read by

-- the scalar that an argument is, and the elements of one that is an array
abbrev pub Reading : Type 0
Reading = Option Term × List (Option Term)

abbrev pub reading_of : Argument → Reading
reading_of x = (slot_in x, slots_in x)

-- the elements of the array at an index
abbrev pub elements_read : List Reading → ℕ → List (Option Term)
elements_read rs i = option_map_or (λ r. r.1) (slice_get rs i) []

-- where each scalar has a value of the kind that is asked for
abbrev pub reading_is_read : Partial → Shape → Reading → Bool
reading_is_read K (ScalarOf k) r = is_read K k r.0
reading_is_read K (ArrayOf k) r = list_all (is_read K k) r.1

abbrev pub readings_are_read : Partial → List Shape → List Reading → Bool
readings_are_read K [] [] = true
readings_are_read K (s ∷ ss) (r ∷ rs) = reading_is_read K s r && readings_are_read K ss rs
readings_are_read K _ _ = false

-- ---- in a store

-- the elements of the array that a slot is
abbrev pub array_slots : List Array → Slot → List (Option Term)
array_slots xs (slots.Array i) = option_map_or
    (λ x. map (slot_read x.elements.constants.items) x.elements.slots.items) (slice_get xs i) []
array_slots xs (slots.Variable n) = []
array_slots xs (slots.Number i) = []
array_slots xs (slots.Truth b) = []
array_slots xs (slots.Constant k) = []

abbrev pub argument_slot : Store → kept.Argument → Option Term
argument_slot st (arguments.One s) = slot_read st.constants.items s
argument_slot st (arguments.List g) = None

abbrev pub argument_slots : List Array → Store → kept.Argument → List (Option Term)
argument_slots xs st (arguments.One s) = array_slots xs s
argument_slots xs st (arguments.List g) =
    map (slot_read st.constants.items) (segment st.slots.items g)

abbrev pub reading_in : List Array → Store → kept.Argument → Reading
reading_in xs st a = (argument_slot st a, argument_slots xs st a)

-- ---- whether they have values

-- of slots that are no array only that of a variable can have none
abbrev pub has_value_at : Partial → Slot → Bool
has_value_at K (slots.Variable n) = is_some (value_at K n)
has_value_at K (slots.Number i) = true
has_value_at K (slots.Truth b) = true
has_value_at K (slots.Constant k) = true
has_value_at K (slots.Array i) = true

abbrev pub slot_is_given : Partial → List Array → Slot → Bool
slot_is_given K xs (slots.Array i) =
    option_map_or (λ x. list_all (has_value_at K) x.elements.slots.items) (slice_get xs i) true
slot_is_given K xs (slots.Variable n) = has_value_at K (slots.Variable n)
slot_is_given K xs (slots.Number i) = true
slot_is_given K xs (slots.Truth b) = true
slot_is_given K xs (slots.Constant k) = true

abbrev pub argument_is_given : Partial → List Array → Store → kept.Argument → Bool
argument_is_given K xs st (arguments.One s) = slot_is_given K xs s
argument_is_given K xs st (arguments.List g) =
    list_all (slot_is_given K xs) (segment st.slots.items g)
