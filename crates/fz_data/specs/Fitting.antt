-- The kinds, the lengths and the fixed numbers of arguments as the code tests them (private
-- functions only).
use Rattle.std.specs.Prelude.{ℕ, ℤ, Bool, false, true, ◌&&◌, List, [], ◌∷◌, length, map, ◌==◌, Option, Some, None, option_and_then, slice_get}
use Rattle.std.specs.List.{list_all}
use Rattle.std.specs.Option.{option_map_or}
use Rattle.fz_store.specs.of_meaning.Builtins.{Row}
use Rattle.fz_store.specs.of_meaning.Relations.{same_kind}
use Rattle.fz_store.specs.of_meaning.Meaning.{are_rows_of, are_whole_rows, as_int}
use Rattle.fz_store.specs.of_meaning.declared.row.Matrix.{Matrix}
use Rattle.fz_store.specs.of_meaning.declared.row.Matrix.TheVariants.{Absent, RowsLike, RowsBy}
use Rattle.fz_store.specs.of_meaning.declared.kind.Kind.{Kind}
use Rattle.fz_store.specs.of_meaning.declared.kind.Kind.TheVariants.{Int as IntKind}
use Rattle.fz_store.specs.declared.parts.Variable.{Variable}
use Rattle.fz_store.specs.declared.parts.Array.{Array}
use Rattle.fz_store.specs.of_meaning.of_base.declared.value.Value.{Value}
use Rattle.fz_store.specs.declared.store.Slot.{Slot}
use Rattle.fz_store.specs.declared.store.Slot.TheVariants as slots
use Rattle.fz_store.specs.declared.store.Argument.{Argument}
use Rattle.fz_store.specs.declared.store.Argument.TheVariants as arguments
use Rattle.fz_store.specs.declared.store.Store.{Store}
use Rattle.fz_store.specs.Slots.{constant_at, slot_term, segment}
use Rattle.fz_store.specs.Parts.{kind_of_term}

-- ---- kinds

abbrev pub array_kind : List Array → ℕ → Kind
array_kind xs i = option_map_or (λ x. x.kind) (slice_get xs i) IntKind

-- the kinds of variables, in their order
abbrev pub kinds_among : List Variable → List Kind
kinds_among vs = map (λ v. v.kind) vs

-- a scalar of the kind
abbrev pub is_of_kind : List Variable → List Value → Kind → Slot → Bool
is_of_kind vs cs k (slots.Variable n) =
    same_kind (kind_of_term vs (slot_term cs (slots.Variable n))) k
is_of_kind vs cs k (slots.Number i) = same_kind (kind_of_term vs (slot_term cs (slots.Number i))) k
is_of_kind vs cs k (slots.Truth b) = same_kind (kind_of_term vs (slot_term cs (slots.Truth b))) k
is_of_kind vs cs k (slots.Constant c) =
    same_kind (kind_of_term vs (slot_term cs (slots.Constant c))) k
is_of_kind vs cs k (slots.Array i) = false

abbrev pub is_scalar_of : List Variable → List Value → Kind → Argument → Bool
is_scalar_of vs cs k (arguments.One s) = is_of_kind vs cs k s
is_scalar_of vs cs k (arguments.List g) = false

-- a declared array of the kind, where the slot is one
abbrev pub is_array_slot : List Array → Kind → Slot → Bool
is_array_slot xs k (slots.Array i) = same_kind (array_kind xs i) k
is_array_slot xs k (slots.Variable n) = false
is_array_slot xs k (slots.Number i) = false
is_array_slot xs k (slots.Truth b) = false
is_array_slot xs k (slots.Constant c) = false

-- an array of the kind by its name, or a list of such scalars
abbrev pub is_array_of : List Variable → List Array → List Value → List Slot → Kind → Argument
    → Bool
is_array_of vs xs cs ss k (arguments.One s) = is_array_slot xs k s
is_array_of vs xs cs ss k (arguments.List g) = list_all (is_of_kind vs cs k) (segment ss g)

-- ---- lengths

-- the number of elements: those of an array, one of a scalar
abbrev pub slot_length : List Array → Slot → ℕ
slot_length xs (slots.Array i) =
    option_map_or (λ a. length a.elements.slots.items) (slice_get xs i) 0
slot_length xs (slots.Variable n) = 1
slot_length xs (slots.Number i) = 1
slot_length xs (slots.Truth b) = 1
slot_length xs (slots.Constant c) = 1

-- each index of a list is counted once
abbrev pub length_of : List Array → List Slot → Argument → ℕ
length_of xs ss (arguments.One s) = slot_length xs s
length_of xs ss (arguments.List g) = length (segment ss g)

abbrev pub length_at : List Array → List Slot → List Argument → ℕ → ℕ
length_at xs ss as' i = option_map_or (length_of xs ss) (slice_get as' i) 0

-- the arguments at these indices have equal lengths
abbrev pub are_equally_long : List Array → List Slot → List ℕ → List Argument → Bool
are_equally_long xs ss [] as' = true
are_equally_long xs ss (i ∷ is) as' =
    list_all (λ j. length_at xs ss as' j == length_at xs ss as' i) is

-- ---- fixed numbers

abbrev pub slot_number : List Value → Slot → Option ℤ
slot_number cs (slots.Number i) = Some i
slot_number cs (slots.Constant c) = as_int (constant_at cs c)
slot_number cs (slots.Variable n) = None
slot_number cs (slots.Truth b) = None
slot_number cs (slots.Array i) = None

abbrev pub number_of : List Value → Argument → Option ℤ
number_of cs (arguments.One s) = slot_number cs s
number_of cs (arguments.List g) = None

abbrev pub number_at : List Value → List Argument → ℕ → Option ℤ
number_at cs as' i = option_and_then (number_of cs) (slice_get as' i)

-- the array that was a matrix has whole rows
abbrev pub stands_in_rows : List Array → Store → Matrix → List Argument → Bool
stands_in_rows xs st Absent as' = true
stands_in_rows xs st (RowsLike x t) as' =
    are_whole_rows (length_at xs st.slots.items as' x) (length_at xs st.slots.items as' t)
stands_in_rows xs st (RowsBy q s d) as' =
    are_rows_of (number_at st.constants.items as' q) (number_at st.constants.items as' s)
    (length_at xs st.slots.items as' d)

-- what a row asks of lengths
abbrev pub have_lengths : List Array → Store → Row → List Argument → Bool
have_lengths xs st r as' =
    are_equally_long xs st.slots.items r.together as' && stands_in_rows xs st r.matrix as'
