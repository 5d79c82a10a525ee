-- The first point of a model, in the model's order, with a property (this project's profile).
use Rattle.std.specs.Prelude.{◌≡◌, ◌<◌, ℕ, Some, slice_get}
use Rattle.fz_filling.specs.of_model.Meaning.{Model, Point, points}

-- no point with a number below this one has the property
abbrev pub NoneBefore : Model → (Point → Type 0) → ℕ → Type 0
NoneBefore m Is k = (j : ℕ) (p : Point) → j < k → slice_get (points m) j ≡ Some p → Is p → ⊥

-- no point has the property
abbrev pub NoPoint : Model → (Point → Type 0) → Type 0
NoPoint m Is = (j : ℕ) (p : Point) → slice_get (points m) j ≡ Some p → Is p → ⊥

-- the point with this number is the first that has the property
pub record IsFirst (m : Model) (Is : Point → Type 0) (k : ℕ) : Type 0 where
  pub point : Point
  pub at : slice_get (points m) k ≡ Some point
  pub is : Is point
  pub first : NoneBefore m Is k
