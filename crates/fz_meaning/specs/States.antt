-- The state of a point under a partial assignment, and what is asked where constraints that aren't
-- known count for nothing (the states and the bound of 128 bits are this project's profile).
use Rattle.std.specs.Prelude.{ℕ, ℤ, pos, negsuc, ◌+ℤ◌, ◌*ℤ◌, Bool, true, false, not, ◌&&◌, ◌||◌, ◌^◌, ◌-◌, List, [], ◌∷◌, int_le, int_lt, unsigned_abs, Option, Some, None, ◌≡◌, cond, slice_get, option_and_then, ◌⊎◌}
use Rattle.std.specs.Int.{int_pow}
use Rattle.std.specs.List.{list_all, list_any, AllByRecursion}
use Rattle.std.specs.Option.{option_map_or}
use Rattle.fz_base.specs.declared.value.Value.{Value}
use Rattle.fz_base.specs.declared.value.Value.TheVariants.{Int, Bool as Truth, Set}
use Rattle.fz_meaning.specs.declared.state.State.{State}
use Rattle.fz_meaning.specs.declared.term.Term.{Term}
use Rattle.fz_meaning.specs.declared.term.Domain.{Domain}
use Rattle.fz_meaning.specs.declared.row.Wide.{Wide}
use Rattle.fz_meaning.specs.declared.row.Wide.TheVariants.{Products, Power}
use Rattle.fz_meaning.specs.declared.state.State.TheVariants.{Holds, Fails, NoValue, Unknown, TooLarge}
use Rattle.fz_meaning.specs.Relations.{◌=ℤ◌, ◌=ᴮ◌, ◌=ˢ◌}
use Rattle.fz_meaning.specs.Builtins.{Row, ArgValue}
use Rattle.fz_meaning.specs.Builtins.ArgValue.{OneValue, ManyValues}
use Rattle.fz_meaning.specs.Meaning.{Argument, Model, Partial, Assignment, whole, value_at, IsAssignment, value, values, inside, terms_in, argument_value, argument_values, row_of, row_holds, as_int, number_at, Point, points, HoldsUnder}
use Rattle.fz_meaning.specs.Meaning.Point.{DomainPoint, DefinitionPoint, ArrayPoint, ConstraintPoint}

-- the partial sums when the numbers are added one after another to s, from the left
abbrev pub sums_from : ℤ → List ℤ → List ℤ
sums_from s [] = []
sums_from s (n ∷ ns) = (s +ℤ n) ∷ sums_from (s +ℤ n) ns

-- a number of signed 128 bits: from -2^127 to 2^127 - 1
abbrev pub fits_128 : ℤ → Bool
fits_128 n = int_le (negsuc (2 ^ 127 - 1)) n && int_le n (pos (2 ^ 127 - 1))

-- a partial sum, when the numbers are added from the left, is none of signed 128 bits
abbrev pub leaves_128 : List ℤ → Bool
leaves_128 ns = not (list_all fits_128 (sums_from (pos 0) ns))

-- the terms of the argument at an index
abbrev pub terms_at_argument : List Argument → ℕ → List Term
terms_at_argument xs i = option_map_or terms_in (slice_get xs i) []

abbrev pub product_before : Option ℤ → Option ℤ → List ℤ → List ℤ
product_before (Some a) (Some b) ns = (a *ℤ b) ∷ ns
product_before _ _ ns = ns

-- a[i] * b[i], from the left, at each index where both have values
abbrev pub known_products : Partial → List Term → List Term → List ℤ
known_products K (a ∷ as') (b ∷ bs) =
    product_before (number_at K a) (number_at K b) (known_products K as' bs)
known_products K _ _ = []

-- the number of an argument that is a scalar, where it has a value
abbrev pub number_of_value : ArgValue → Option ℤ
number_of_value (OneValue v) = as_int v
number_of_value (ManyValues vs) = None

abbrev pub number_at_argument : Partial → List Argument → ℕ → Option ℤ
number_at_argument K xs i =
    option_and_then number_of_value (option_and_then (argument_value K) (slice_get xs i))

abbrev pub power_leaves : Option ℤ → Option ℤ → Bool
power_leaves (Some a) (Some b) = not (fits_128 (int_pow a (unsigned_abs b)))
power_leaves _ _ = false

-- A power whose exponent has a value that is negative: solvers differ in what it is, so it isn't
-- known here.
abbrev pub is_unknown : Partial → List Argument → Wide → Bool
is_unknown K xs (Products i j) = false
is_unknown K xs (Power i j) =
    option_map_or (λ b. int_lt b (pos 0)) (number_at_argument K xs j) false

-- A number that can't be computed in signed 128 bits. Of a sum of products: a partial sum, added
-- from the left over the indices at which both elements have values, leaves them; where the whole
-- constraint has values these are all indices, and where one element has none they are the others.
-- Of a power: it isn't known, or both numbers have values and it leaves 128 bits.
abbrev pub leaves : Partial → List Argument → Wide → Bool
leaves K xs (Products i j) =
    leaves_128 (known_products K (terms_at_argument xs i) (terms_at_argument xs j))
leaves K xs (Power i j) = is_unknown K xs (Power i j)
    || power_leaves (number_at_argument K xs i) (number_at_argument K xs j)

-- one of the row's numbers can't be computed; and what the constraint's state is then
abbrev pub is_beyond : Partial → List Argument → Row → Bool
is_beyond K xs r = list_any (leaves K xs) r.wide

abbrev pub beyond : Partial → List Argument → Row → State
beyond K xs r = cond (list_any (is_unknown K xs) r.wide) Unknown TooLarge

abbrev pub judged : Bool → State
judged true = Holds
judged false = Fails

-- judged by its value, where there is one
abbrev pub judged_by : {A : Type 0} → (A → Bool) → Option A → State
judged_by t None = NoValue
judged_by t (Some v) = judged (t v)

abbrev pub both : {A : Type 0} → Option A → Option A → Option (A × A)
both (Some v) (Some w) = Some (v, w)
both _ _ = None

-- a scalar with a value that lies outside
abbrev pub is_outside : Partial → Domain → Term → Bool
is_outside K d t = option_map_or (λ v. not (inside d v)) (value K t) false

-- values of different kinds are not equal
abbrev pub same_value : Value → Value → Bool
same_value (Int a) (Int b) = a =ℤ b
same_value (Truth a) (Truth b) = a =ᴮ b
same_value (Set a) (Set b) = a =ˢ b
same_value _ _ = false

abbrev pub same_values : List Value → List Value → Bool
same_values [] [] = true
same_values (v ∷ vs) (w ∷ ws) = same_value v w && same_values vs ws
same_values _ _ = false

-- Where an argument has no value, the constraint has none; then it is unknown or too large where a
-- number of it can't be computed; else it holds or fails.
abbrev pub state_of_values : Partial → List Argument → Row → Option (List ArgValue) → State
state_of_values K xs r None = NoValue
state_of_values K xs r (Some vs) =
    cond (is_beyond K xs r) (beyond K xs r) (judged (row_holds r vs))

abbrev pub state_of_row : Partial → List Argument → Option Row → State
state_of_row K xs None = Unknown
state_of_row K xs (Some r) = state_of_values K xs r (argument_values K xs)

-- A domain or a definition holds or fails where there are values, and else has none; an array's
-- domain fails as soon as one element lies outside; a constraint is unknown where it fits no row,
-- whatever its values are, and by its values where an exponent is negative.
abbrev pub state : Partial → Point → State
state K (DomainPoint x n) = judged_by (inside x.domain) (value_at K n)
state K (DefinitionPoint x n e) =
    judged_by (λ (v, w). same_value v w) (both (value_at K n) (value K e))
state K (ArrayPoint name d ts) =
    cond (list_any (is_outside K d) ts) Fails (judged_by (λ vs. true) (values K ts))
state K (ConstraintPoint k p) = state_of_row K p.arguments (row_of p)

-- the point holds, where it is asked of known constraints alone
abbrev pub HoldsIfKnown : Partial → Point → Type 0
HoldsIfKnown K (ConstraintPoint k p) =
    (state K (ConstraintPoint k p) ≡ Unknown) ⊎ HoldsUnder K (ConstraintPoint k p)
HoldsIfKnown K (DomainPoint x n) = HoldsUnder K (DomainPoint x n)
HoldsIfKnown K (DefinitionPoint x n e) = HoldsUnder K (DefinitionPoint x n e)
HoldsIfKnown K (ArrayPoint name d ts) = HoldsUnder K (ArrayPoint name d ts)

-- a solution, where it is asked of known constraints alone
pub record IsKnownSolution (m : Model) (A : Assignment) : Type 0 where
  pub assignment : IsAssignment m A
  pub each_holds : AllByRecursion (HoldsIfKnown (whole A)) (points m)

-- how a point is reported: by the declared name, or by the constraint's number and the predicate's
-- name
pub data PointName : Type 0 where
  DomainOf : List ℕ → PointName
  DefinitionOf : List ℕ → PointName
  ConstraintOf : ℕ → List ℕ → PointName

abbrev pub shown_point : Point → PointName
shown_point (DomainPoint x n) = DomainOf x.name
shown_point (DefinitionPoint x n e) = DefinitionOf x.name
shown_point (ArrayPoint name d ts) = DomainOf name
shown_point (ConstraintPoint k p) = ConstraintOf k p.name
