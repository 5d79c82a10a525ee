-- Bounds of a variable as numbers.
use Rattle.std.specs.Prelude.{◌≡◌, ℕ, ℤ, pos, ◌≤ℤ◌, Some, ⊤, slice_get}
use Rattle.fz_model.specs.of_base.declared.value.Value.{Value}
use Rattle.fz_model.specs.declared.Kind.{Kind}
use Rattle.fz_model.specs.declared.Kind.TheVariants.{Int as IntKind, Bool as BoolKind, Set as SetKind}
use Rattle.fz_model.specs.Meaning.{Assignment, Model, Point, points, value, value_at, whole}
use Rattle.fz_model.specs.declared.Term.{Term}
use Rattle.fz_model.specs.States.{HoldsIfKnown}
use Rattle.fz_bounds.specs.Bounds.{IsInside, NumberNeverHolds, Ranges, narrowed, number_as}
use Rattle.fz_bounds.specs.declared.ends.KindEnds.{KindEnds}
use Rattle.fz_bounds.specs.declared.tightening.Tightened.{Tightened}
use Rattle.fz_bounds.specs.declared.tightening.Tightened.TheVariants.{Narrowed, Empty, Unshown}

-- a number that a value of the kind is told as: of a Boolean, 0 or 1
abbrev pub IsTold : Kind → ℤ → Type 0
IsTold BoolKind n = (pos 0 ≤ℤ n) × (n ≤ℤ pos 1)
IsTold IntKind n = ⊤
IsTold SetKind n = ⊤

-- the two values are these numbers
pub record AreEnds (low high : Value) (e : KindEnds) : Type 0 where
  pub low_is : low ≡ number_as e.kind e.low
  pub high_is : high ≡ number_as e.kind e.high
  pub low_told : IsTold e.kind e.low
  pub high_told : IsTold e.kind e.high

-- the variable has these bounds
pub record AreEndsAt (B : Ranges) (n : ℕ) (e : KindEnds) : Type 0 where
  pub low_is : value_at B.lowest n ≡ Some (number_as e.kind e.low)
  pub high_is : value_at B.highest n ≡ Some (number_as e.kind e.high)
  pub low_told : IsTold e.kind e.low
  pub high_told : IsTold e.kind e.high

-- the same bounds, but for a variable, which has these
abbrev pub put_in : Ranges → ℕ → KindEnds → Ranges
put_in B n e = narrowed B n (number_as e.kind e.low) (number_as e.kind e.high)

-- an assignment inside the bounds gives the scalar one of these numbers
abbrev pub LiesAt : Ranges → Term → KindEnds → Type 0
LiesAt B t e = (A : Assignment) → IsInside B A → (a : ℤ)
    × (value (whole A) t ≡ Some (number_as e.kind a)) × (e.low ≤ℤ a) × (a ≤ℤ e.high)

-- Each assignment inside the old bounds under which the point holds lies inside the new ones, which
-- are the old ones but for this variable; or the point holds nowhere inside the old ones.
abbrev pub IsTightened : Model → ℕ → ℕ → Ranges → Ranges → Tightened → Type 0
IsTightened m k n B C (Narrowed was) = ((p : Point) → slice_get (points m) k ≡ Some p
    → (A : Assignment) → IsInside B A → HoldsIfKnown (whole A) p → IsInside C A)
    × (put_in C n was ≡ B)
IsTightened m k n B C Empty = NumberNeverHolds m k B × (C ≡ B)
IsTightened m k n B C Unshown = C ≡ B

-- the point of the number holds under no assignment inside the bounds that gives the variable one
-- of these numbers (private functions only)
pub record Excludes (m : Model) (k : ℕ) (B : Ranges) (n : ℕ) (kind : Kind) (from to : ℤ)
    : Type 0 where
  pub never : (p : Point) → slice_get (points m) k ≡ Some p → (A : Assignment) → IsInside B A
      → (a : ℤ) → value_at (whole A) n ≡ Some (number_as kind a) → from ≤ℤ a → a ≤ℤ to
      → HoldsIfKnown (whole A) p → ⊥
