-- Steps by the numbers of points. Only private functions use these.
use Rattle.std.specs.Prelude.{◌≡◌, ℕ, ◌<◌, ◌≤◌, Some, slice_get}
use Rattle.fz_index.specs.of_model.of_base.declared.value.Value.{Value}
use Rattle.fz_index.specs.of_model.Meaning.{Model, Partial, Point, points}
use Rattle.fz_index.specs.of_model.Steps.{Gives, GivesNothing}
use Rattle.fz_filling.specs.Filling.{IsGivenBy}
use Rattle.fz_filling.specs.declared.completion.Completion.{Completion}

-- the points with these numbers give nothing
abbrev pub NoneGives : Model → Partial → ℕ → ℕ → Type 0
NoneGives m K from to =
    (j : ℕ) (p : Point) → from ≤ j → j < to → slice_get (points m) j ≡ Some p → GivesNothing m K p

-- the point of the number, where there is one, gives nothing
abbrev pub GivesNoneAt : Completion → Model → Partial → ℕ → Type 0
GivesNoneAt c m K k = (p : Point) → slice_get (points m) k ≡ Some p → (n : ℕ) (v : Value)
    → IsGivenBy c m K p n v → ⊥

-- The point of the number gives the variable the value, and those from a number up to it give
-- nothing.
pub record IsStepAhead (m : Model) (K : Partial) (from to k n : ℕ) (v : Value) : Type 0 where
  pub ahead : from ≤ k
  pub below : k < to
  pub none_before : NoneGives m K from k
  pub gives : (p : Point) → slice_get (points m) k ≡ Some p → Gives m K p n v
