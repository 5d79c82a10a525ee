-- What is known of the fillings of a model, which the contract of `filled` cites, and which point
-- can give a variable a value, which only private functions cite.
use Rattle.std.specs.Prelude.{◌≡◌, ℕ, suc, IfSome, List, Some, slice_get}
use Rattle.fz_index.specs.of_model.Meaning.{Model, Partial, Point, points}
use Rattle.fz_index.specs.of_model.Steps.{IsTarget}
use Rattle.fz_filling.specs.declared.course.Course.{Course}

-- no two points can give the same variable a value, whatever values there are
abbrev pub AreLone : Model → Type 0
AreLone m = (K L : Partial) (j k n : ℕ) (p q : Point) → slice_get (points m) j ≡ Some p
    → slice_get (points m) k ≡ Some q
    → IsTarget K p n → IsTarget L q n → j ≡ k

-- where there is an order, steps come to the same in any
abbrev pub IsCourse : Model → Course → Type 0
IsCourse m c = IfSome c.order (λ _. AreLone m)

-- ---- of each variable the number, counted from 1, of the point that can give it a value

-- each variable that the point can give a value has the point's number
abbrev pub IsNoted : List ℕ → ℕ → Point → Type 0
IsNoted givers k p = (K : Partial) (n : ℕ) → IsTarget K p n → slice_get givers n ≡ Some (suc k)

-- the numbers in the first list are in the second
abbrev pub AreKept : List ℕ → List ℕ → Type 0
AreKept before after =
    (n k : ℕ) → slice_get before n ≡ Some (suc k) → slice_get after n ≡ Some (suc k)
