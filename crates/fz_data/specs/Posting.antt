-- Only private functions use these: what a store's parts stand for while a model is loaded,
-- whatever is appended later.
use Rattle.std.specs.Prelude.{◌≡◌, List, None, map}
use Rattle.fz_store.specs.of_meaning.of_base.declared.value.Value.{Value}
use Rattle.fz_store.specs.of_meaning.Located.{Constraint}
use Rattle.fz_store.specs.of_meaning.Meaning as meaning
use Rattle.fz_store.specs.of_meaning.Meaning.{first_some, row_of}
use Rattle.fz_store.specs.declared.store.Slot.{Slot}
use Rattle.fz_store.specs.declared.store.Segment.{Segment}
use Rattle.fz_store.specs.declared.store.Argument.{Argument}
use Rattle.fz_store.specs.declared.store.Store.{Store}
use Rattle.fz_store.specs.declared.parts.Posted.{Posted}
use Rattle.fz_store.specs.declared.scope.Scope.{Scope}
use Rattle.fz_store.specs.of_meaning.Names.{posted_of}
use Rattle.fz_data.specs.Scope.{constraint_fault_in, place_in}
use Rattle.fz_store.specs.Slots.{IsGrown, segment}
use Rattle.fz_store.specs.Parts.{place_view, argument_view, posted_view, kept_row}

-- more may be appended to each list
pub record IsLonger (before after : Store) : Type 0 where
  pub arguments : IsGrown before.arguments.items after.arguments.items
  pub slots : IsGrown before.slots.items after.slots.items
  pub constants : IsGrown before.constants.items after.constants.items

abbrev pub IsPlaceOf : Scope → List Value → meaning.Place → Slot → Type 0
IsPlaceOf s cs x o = (later : List Value) → IsGrown cs later
    → place_view s.variables.items s.arrays.items later o ≡ x

abbrev pub ArePlacesOf : Scope → Store → List meaning.Place → Segment → Type 0
ArePlacesOf s st xs g = (later : Store) → IsLonger st later
    → map (place_view s.variables.items s.arrays.items later.constants.items)
    (segment later.slots.items g) ≡ xs

abbrev pub IsArgumentOf : Scope → Store → meaning.Argument → Argument → Type 0
IsArgumentOf s st x a =
    (later : Store) → IsLonger st later → argument_view s.variables.items s.arrays.items later a ≡ x

abbrev pub AreArgumentsOf : Scope → Store → List meaning.Argument → Segment → Type 0
AreArgumentsOf s st xs g = (later : Store) → IsLonger st later
    → map (argument_view s.variables.items s.arrays.items later) (segment later.arguments.items g)
    ≡ xs

abbrev pub IsPostedOf : Scope → Store → meaning.Posted → Posted → Type 0
IsPostedOf s st x p =
    (later : Store) → IsLonger st later → posted_view s.variables.items s.arrays.items later p ≡ x

-- The constraints so far have no fault, and those that are stored stand for them, each with its
-- row, whatever is appended to the store later.
pub record Posts (s : Scope) (known : List Constraint) (store : Store)
    (found : List Posted) : Type 0 where
  pub clean : first_some (constraint_fault_in s) known ≡ None
  pub views : (later : Store) → IsLonger store later
      → map (posted_view s.variables.items s.arrays.items later) found
      ≡ map (posted_of (place_in s)) known
  pub rows : map kept_row found ≡ map row_of (map (posted_of (place_in s)) known)
