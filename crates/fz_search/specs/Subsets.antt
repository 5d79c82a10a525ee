-- Subsets of a list of numbers, each with a code (private functions only).
use Rattle.std.specs.Prelude.{◌≡◌, ◌==◌, ◌≤◌, ◌%◌, ◌/◌, ℕ, ℤ, cond, List, [], ◌∷◌, Option, Some}
use Rattle.std.specs.FinSet.{from_list}
use Rattle.fz_bounds.specs.of_model.of_base.Sets.{NumberSet}
use Rattle.fz_bounds.specs.of_model.of_base.declared.value.Value.{Value}
use Rattle.fz_bounds.specs.of_model.of_base.declared.value.Value.TheVariants.{Set}
use Rattle.fz_search.specs.declared.subsets.Subsets.{Subsets}

-- those of the numbers at which the code's bit is 0, the lowest bit at the first
abbrev pub kept : List ℤ → ℕ → List ℤ
kept [] code = []
kept (x ∷ xs) code = cond (code % 2 == 0) (x ∷ kept xs (code / 2)) (kept xs (code / 2))

-- the set of the numbers
abbrev pub set_of : List ℤ → NumberSet
set_of xs = from_list xs

abbrev pub first_of : Subsets → Value
first_of s = Set (from_list (kept s.numbers.now s.code))

-- the value is the subset with one of the codes
abbrev pub IsAmong : Subsets → Option Value → Type 0
IsAmong s o = (code : ℕ) × (code ≤ s.code) × (o ≡ Some (Set (from_list (kept s.numbers.now code))))
