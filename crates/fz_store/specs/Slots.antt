-- Scalars as a model stores them, and segments of lists (this project's profile). Nothing depends
-- on what a slot stands for whose number no variable and no constant has, or on the scalar of an
-- array.
use Rattle.std.specs.Prelude.{◌≡◌, ℕ, pos, Bool, true, false, List, ◌++◌, take, drop, slice_get}
use Rattle.std.specs.Option.{option_map_or}
use Rattle.fz_meaning.specs.of_base.declared.value.Value.{Value}
use Rattle.fz_meaning.specs.of_base.declared.value.Value.TheVariants.{Int, Bool as Truth, Set}
use Rattle.fz_meaning.specs.declared.term.Term.{Term}
use Rattle.fz_meaning.specs.declared.term.Term.TheVariants.{Var, Fixed}
use Rattle.fz_store.specs.declared.store.Slot.{Slot}
use Rattle.fz_store.specs.declared.store.Slot.TheVariants as slots
use Rattle.fz_store.specs.declared.store.Segment.{Segment}
use Rattle.fz_store.specs.declared.store.Scalar.{Scalar}
use Rattle.fz_store.specs.declared.store.Scalar.TheVariants as scalars

-- the value at an index among the constants
abbrev pub constant_at : List Value → ℕ → Value
constant_at cs k = option_map_or (λ v. v) (slice_get cs k) (Int (pos 0))

-- the scalar that a slot is
abbrev pub slot_term : List Value → Slot → Term
slot_term cs (slots.Variable n) = Var n
slot_term cs (slots.Number i) = Fixed (Int i)
slot_term cs (slots.Truth b) = Fixed (Truth b)
slot_term cs (slots.Constant k) = Fixed (constant_at cs k)
slot_term cs (slots.Array i) = Fixed (Int (pos 0))

abbrev pub is_scalar : Slot → Bool
is_scalar (slots.Variable n) = true
is_scalar (slots.Number i) = true
is_scalar (slots.Truth b) = true
is_scalar (slots.Constant k) = true
is_scalar (slots.Array i) = false

-- the scalar that is read
abbrev pub scalar_term : Scalar → Term
scalar_term (scalars.Variable n) = Var n
scalar_term (scalars.Number i) = Fixed (Int i)
scalar_term (scalars.Truth b) = Fixed (Truth b)
scalar_term (scalars.Set s) = Fixed (Set s.now)

-- so many items, from an index on
abbrev pub segment : {A : Type 0} → List A → Segment → List A
segment xs s = take s.count (drop s.first xs)

-- ---- lists that grow, as a model is loaded

-- more may be appended
abbrev pub IsGrown : {A : Type 0} → List A → List A → Type 0
IsGrown {A} xs ys = (zs : List A) × (ys ≡ xs ++ zs)

-- the slot is no array, and stands for the scalar, whatever constants are appended
pub record IsSlotOf (cs : List Value) (t : Term) (s : Slot) : Type 0 where
  pub scalar : is_scalar s ≡ true
  pub stands : (later : List Value) → IsGrown cs later → slot_term later s ≡ t
