-- What is left to a result: the value, of its kind and within the limits, with which the row holds
-- (this project's profile).
use Rattle.std.specs.Prelude.{◌≡◌, ℕ, ℤ, pos, negsuc, Bool, true, false, List, Option, Some, None, IsTrue, FitsSigned, map, slice_get, slice_set, Contains, IsSomeAnd, ◌⊎◌}
use Rattle.std.specs.Int.{w64}
use Rattle.fz_builtins.specs.of_meaning.of_base.declared.value.Value.{Value}
use Rattle.fz_builtins.specs.of_meaning.of_base.declared.value.Value.TheVariants.{Int}
use Rattle.fz_builtins.specs.of_meaning.declared.kind.Kind.{Kind}
use Rattle.fz_builtins.specs.of_meaning.Relations.{kind_of}
use Rattle.fz_builtins.specs.of_meaning.Builtins.{Shape, Row}
use Rattle.fz_builtins.specs.of_meaning.Results.{Result}
use Rattle.fz_builtins.specs.of_meaning.Builtins.Shape.{ScalarOf}
use Rattle.fz_builtins.specs.of_meaning.Builtins.ArgValue.{OneValue, ManyValues}
use Rattle.fz_builtins.specs.of_meaning.Results.Result.{NoResult, Places, UnitTerm}
use Rattle.fz_builtins.specs.of_meaning.Meaning.{Argument, Partial, row_holds}
use Rattle.fz_builtins.specs.of_kernel.Given.{given_values, ints_at, read_leaves}
use Rattle.fz_builtins.specs.of_meaning.declared.row.Wide.TheVariants.{Products}
use Rattle.fz_builtins.specs.Outcomes.{reads_beyond}
use Rattle.fz_builtins.specs.of_meaning.Steps.{WithinLimits}

-- a coefficient with which one element of a sum is determined
abbrev pub IsUnit : ℤ → Type 0
IsUnit a = (a ≡ pos 1) ⊎ (a ≡ negsuc 0)

-- An answer is a value of the kind, within the limits, that passes the test. No answer says that no
-- such value passes.
abbrev pub IsLeft : Kind → (Value → Bool) → Option Value → Type 0
IsLeft k test (Some v) = (kind_of v ≡ k) × WithinLimits v × IsTrue (test v)
IsLeft k test None = (v : Value) → kind_of v ≡ k → WithinLimits v → IsTrue (test v) → ⊥

-- whether the row holds of the arguments' values, with the value v for the argument at index i
abbrev pub holds_with : Row → Partial → List Argument → ℕ → Value → Bool
holds_with r K xs i v = row_holds r (slice_set (given_values K r.shapes xs) i (OneValue v))

-- the same with v for element i of the second argument, an array of numbers
abbrev pub holds_with_element : Row → Partial → List Argument → ℕ → Value → Bool
holds_with_element r K xs i v =
    row_holds r (slice_set (given_values K r.shapes xs) 1
    (ManyValues (slice_set (map Int (ints_at K xs 1)) i v)))

-- `defines_var` may name the argument at this index
abbrev pub IsPlaceOf : Result → ℕ → Type 0
IsPlaceOf NoResult i = ⊥
IsPlaceOf (Places is) i = Contains is i
IsPlaceOf UnitTerm i = ⊥

-- the argument at this index is a scalar of the kind
abbrev pub IsOfKind : List Shape → ℕ → Kind → Type 0
IsOfKind shapes i k = slice_get shapes i ≡ Some (ScalarOf k)

-- what is left to the argument at an index, of the kind that it has
pub record IsLeftAt (r : Row) (K : Partial) (xs : List Argument) (i : ℕ) (o : Option Value)
    : Type 0 where
  pub kind : Kind
  pub shape : IsOfKind r.shapes i kind
  pub left : IsLeft kind (holds_with r K xs i) o

-- the same where each number of the row can be computed, and else nothing
pub record IsLeftIfComputed (r : Row) (K : Partial) (xs : List Argument) (i : ℕ)
    (o : Option Value) : Type 0 where
  pub left : reads_beyond r K xs ≡ false → IsLeftAt r K xs i o
  pub beyond : reads_beyond r K xs ≡ true → o ≡ None

-- A partial sum of the products of the first two arguments leaves 128 bits. An element without a
-- value is read as 0, so it adds nothing.
abbrev pub products_leave : Partial → List Argument → Bool
products_leave K xs = read_leaves K xs (Products 0 1)

-- element i of the first argument is 1 or -1
abbrev pub HasUnit : Partial → List Argument → ℕ → Type 0
HasUnit K xs i = IsSomeAnd (slice_get (ints_at K xs 0) i) IsUnit

-- element i of the second argument is read as 0, as where it has no value
abbrev pub IsReadAsNone : Partial → List Argument → ℕ → Type 0
IsReadAsNone K xs i = slice_get (ints_at K xs 1) i ≡ Some (pos 0)

-- ---- the same of plain values

abbrev pub IsLeftNumber : (ℤ → Bool) → Option ℤ → Type 0
IsLeftNumber test (Some n) = FitsSigned w64 n × IsTrue (test n)
IsLeftNumber test None = (n : ℤ) → FitsSigned w64 n → IsTrue (test n) → ⊥

-- of Booleans and of sets, which have no limits
abbrev pub IsLeftPlain : {A : Type 0} → (A → Bool) → Option A → Type 0
IsLeftPlain test (Some x) = IsTrue (test x)
IsLeftPlain {A = A} test None = (x : A) → IsTrue (test x) → ⊥
