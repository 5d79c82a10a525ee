-- What an argument view stands for.
use Rattle.std.specs.Prelude.{◌≡◌, ℤ, Bool, true, false, List, map, Option, Some, None}
use Rattle.fz_store.specs.of_meaning.of_base.Sets.{NumberSet}
use Rattle.fz_store.specs.of_meaning.of_base.declared.value.Value.{Value}
use Rattle.fz_store.specs.of_meaning.declared.term.Term.{Term}
use Rattle.fz_store.specs.of_meaning.Builtins.{Shape}
use Rattle.fz_store.specs.of_meaning.Meaning as meaning
use Rattle.fz_store.specs.declared.Slot.{Slot}
use Rattle.fz_store.specs.declared.Slot.TheVariants as slots
use Rattle.fz_store.specs.Parts.{constraint_view}
use Rattle.fz_store.specs.Slots.{slot_term}
use Rattle.fz_kernel.specs.declared.elements.Elements.{Elements}
use Rattle.fz_kernel.specs.declared.view.ArgumentView.{ArgumentView}
use Rattle.fz_kernel.specs.declared.reading.Readiness.{Readiness}
use Rattle.fz_kernel.specs.declared.reading.Readiness.TheVariants.{Ready, WrongKind, Missing}
use Rattle.fz_kernel.specs.Given.{ints_of, bools_of, sets_of, are_read, are_given}

-- ---- elements

-- the scalar that a slot is; an array is none
abbrev pub slot_read : List Value → Slot → Option Term
slot_read cs (slots.Variable n) = Some (slot_term cs (slots.Variable n))
slot_read cs (slots.Number i) = Some (slot_term cs (slots.Number i))
slot_read cs (slots.Truth b) = Some (slot_term cs (slots.Truth b))
slot_read cs (slots.Constant k) = Some (slot_term cs (slots.Constant k))
slot_read cs (slots.Array i) = None

abbrev pub slots_of : Elements → List (Option Term)
slots_of e = map (slot_read e.constants.now) e.slots.now

-- the partial assignment that they are read under
abbrev pub under : Elements → meaning.Partial
under e = e.partial.now

abbrev pub ints : Elements → List ℤ
ints e = ints_of (under e) (slots_of e)

abbrev pub bools : Elements → List Bool
bools e = bools_of (under e) (slots_of e)

abbrev pub sets : Elements → List NumberSet
sets e = sets_of (under e) (slots_of e)

-- ---- views

-- the constraint's arguments
abbrev pub arguments_of : ArgumentView → List meaning.Argument
arguments_of s = (constraint_view s.parts).arguments

-- the partial assignment
abbrev pub assigned : ArgumentView → meaning.Partial
assigned s = s.partial.now

-- every scalar has a value of the kind that is asked for; or every one has a value; or one has none
abbrev pub IsReadiness : meaning.Partial → List Shape → List meaning.Argument → Readiness → Type 0
IsReadiness K ss xs Ready = are_read K ss xs ≡ true
IsReadiness K ss xs WrongKind = (are_read K ss xs ≡ false) × (are_given K xs ≡ true)
IsReadiness K ss xs Missing = are_given K xs ≡ false
