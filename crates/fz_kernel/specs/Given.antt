-- The arguments of a constraint under a partial assignment, read as integers, Booleans and sets. A
-- reading is total: what cannot be read as a number is read as 0, as a Boolean `false`, as a set
-- the empty set; `are_read` says where nothing of that kind happens.
use Rattle.std.specs.Prelude.{ℕ, suc, ℤ, pos, Bool, true, false, not, ◌&&◌, ◌||◌, int_lt, unsigned_abs, List, [], ◌∷◌, map, slice_get, Option, None, Some, option_and_then, is_some}
use Rattle.std.specs.List.{list_all}
use Rattle.std.specs.Option.{option_map_or}
use Rattle.std.specs.Int.{int_pow}
use Rattle.std.specs.FinSet as sets
use Rattle.fz_store.specs.of_meaning.of_base.Sets.{NumberSet}
use Rattle.fz_store.specs.of_meaning.of_base.declared.value.Value.{Value}
use Rattle.fz_store.specs.of_meaning.of_base.declared.value.Value.TheVariants.{Int, Bool as Truth, Set}
use Rattle.fz_store.specs.of_meaning.declared.kind.Kind.{Kind}
use Rattle.fz_store.specs.of_meaning.declared.kind.Kind.TheVariants.{Int as IntKind, Bool as BoolKind, Set as SetKind}
use Rattle.fz_store.specs.of_meaning.declared.term.Term.{Term}
use Rattle.fz_store.specs.of_meaning.Relations.{kind_of, same_kind, products}
use Rattle.fz_store.specs.of_meaning.Builtins.{Shape, ArgValue}
use Rattle.fz_store.specs.of_meaning.States.{fits_128, leaves_128}
use Rattle.fz_store.specs.of_meaning.declared.row.Wide.{Wide}
use Rattle.fz_store.specs.of_meaning.declared.row.Wide.TheVariants.{Products, Power}
use Rattle.fz_store.specs.of_meaning.Builtins.Shape.{ScalarOf, ArrayOf}
use Rattle.fz_store.specs.of_meaning.Builtins.ArgValue.{OneValue, ManyValues}
use Rattle.fz_store.specs.Partial.{number_in, truth_in}
use Rattle.fz_store.specs.of_meaning.Meaning.{Argument, Place, Partial, value, terms_in}
use Rattle.fz_store.specs.of_meaning.Meaning.Place.{Scalar, Array}
use Rattle.fz_store.specs.of_meaning.Meaning.Argument.{One, ListOf}

-- ---- the scalars of arguments

-- the scalar at an index; none where an array's name is in brackets, which no constraint has that
-- fits a row
abbrev pub slot_of : Place → Option Term
slot_of (Scalar k t) = Some t
slot_of (Array x k ts) = None

-- the scalar that an argument is, and the elements of one that is an array
abbrev pub slot_in : Argument → Option Term
slot_in (One p) = slot_of p
slot_in (ListOf ps) = None

abbrev pub slots_in : Argument → List (Option Term)
slots_in (One (Scalar k t)) = []
slots_in (One (Array x k ts)) = map Some ts
slots_in (ListOf ps) = map slot_of ps

-- those of the argument at an index, counted from 0
abbrev pub slot_at : List Argument → ℕ → Option Term
slot_at xs i = option_and_then slot_in (slice_get xs i)

abbrev pub slots_at : List Argument → ℕ → List (Option Term)
slots_at xs i = option_map_or slots_in (slice_get xs i) []

-- ---- what they are read as

-- the value of a scalar, where there is one
abbrev pub value_of : Partial → Option Term → Option Value
value_of K s = option_and_then (value K) s

abbrev pub int_in : Option Value → ℤ
int_in o = number_in o

abbrev pub bool_in : Option Value → Bool
bool_in o = truth_in o

abbrev pub set_in : Option Value → NumberSet
set_in (Some (Set s)) = s
set_in _ = sets.empty

abbrev pub int_of : Partial → Option Term → ℤ
int_of K s = int_in (value_of K s)

abbrev pub bool_of : Partial → Option Term → Bool
bool_of K s = bool_in (value_of K s)

abbrev pub set_of_slot : Partial → Option Term → NumberSet
set_of_slot K s = set_in (value_of K s)

abbrev pub ints_of : Partial → List (Option Term) → List ℤ
ints_of K ss = map (int_of K) ss

abbrev pub bools_of : Partial → List (Option Term) → List Bool
bools_of K ss = map (bool_of K) ss

abbrev pub sets_of : Partial → List (Option Term) → List NumberSet
sets_of K ss = map (set_of_slot K) ss

-- the argument at an index: as a scalar, and as an array
abbrev pub int_at : Partial → List Argument → ℕ → ℤ
int_at K xs i = int_of K (slot_at xs i)

abbrev pub bool_at : Partial → List Argument → ℕ → Bool
bool_at K xs i = bool_of K (slot_at xs i)

abbrev pub set_at : Partial → List Argument → ℕ → NumberSet
set_at K xs i = set_of_slot K (slot_at xs i)

abbrev pub ints_at : Partial → List Argument → ℕ → List ℤ
ints_at K xs i = ints_of K (slots_at xs i)

-- a power whose exponent is read as negative
abbrev pub read_unknown : Partial → List Argument → Wide → Bool
read_unknown K xs (Products i j) = false
read_unknown K xs (Power i j) = int_lt (int_at K xs j) (pos 0)

-- the products of the numbers of two array arguments, added from the left, leave 128 bits; the
-- power of two scalars isn't known or leaves them
abbrev pub read_leaves : Partial → List Argument → Wide → Bool
read_leaves K xs (Products i j) = leaves_128 (products (ints_at K xs i) (ints_at K xs j))
read_leaves K xs (Power i j) = read_unknown K xs (Power i j)
    || not (fits_128 (int_pow (int_at K xs i) (unsigned_abs (int_at K xs j))))

abbrev pub bools_at : Partial → List Argument → ℕ → List Bool
bools_at K xs i = bools_of K (slots_at xs i)

abbrev pub sets_at : Partial → List Argument → ℕ → List NumberSet
sets_at K xs i = sets_of K (slots_at xs i)

-- ---- the arguments as a row reads them

abbrev pub given : Partial → List Argument → ℕ → Shape → ArgValue
given K xs i (ScalarOf IntKind) = OneValue (Int (int_at K xs i))
given K xs i (ScalarOf BoolKind) = OneValue (Truth (bool_at K xs i))
given K xs i (ScalarOf SetKind) = OneValue (Set (set_at K xs i))
given K xs i (ArrayOf IntKind) = ManyValues (map Int (ints_at K xs i))
given K xs i (ArrayOf BoolKind) = ManyValues (map Truth (bools_at K xs i))
given K xs i (ArrayOf SetKind) = ManyValues (map Set (sets_at K xs i))

abbrev pub given_from : Partial → List Argument → ℕ → List Shape → List ArgValue
given_from K xs i [] = []
given_from K xs i (s ∷ ss) = given K xs i s ∷ given_from K xs (suc i) ss

abbrev pub given_values : Partial → List Shape → List Argument → List ArgValue
given_values K ss xs = given_from K xs 0 ss

-- ---- where each scalar has a value of the kind that is asked for

abbrev pub is_read : Partial → Kind → Option Term → Bool
is_read K k s = option_map_or (λ v. same_kind (kind_of v) k) (value_of K s) false

abbrev pub argument_is_read : Partial → Shape → Argument → Bool
argument_is_read K (ScalarOf k) x = is_read K k (slot_in x)
argument_is_read K (ArrayOf k) x = list_all (is_read K k) (slots_in x)

abbrev pub are_read : Partial → List Shape → List Argument → Bool
are_read K [] [] = true
are_read K (s ∷ ss) (x ∷ xs) = argument_is_read K s x && are_read K ss xs
are_read K _ _ = false

-- where each scalar has a value
abbrev pub has_value : Partial → Term → Bool
has_value K t = is_some (value K t)

abbrev pub is_given : Partial → Argument → Bool
is_given K x = list_all (has_value K) (terms_in x)

abbrev pub are_given : Partial → List Argument → Bool
are_given K xs = list_all (is_given K) xs
