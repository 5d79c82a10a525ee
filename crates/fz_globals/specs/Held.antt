-- Numbers that are indices of sets, and sets of the indices of those numbers. All but `is_held`
-- serves private functions only.
use Rattle.std.specs.Prelude.{ℕ, ◌+◌, ℤ, pos, ◌+ℤ◌, ◌-ℤ◌, Bool, true, false, ◌&&◌, List, [], ◌∷◌}
use Rattle.std.specs.Option.{option_map_or}
use Rattle.std.specs.FinSet as set
use Rattle.fz_kernel.specs.of_meaning.of_base.Sets.{NumberSet}
use Rattle.fz_kernel.specs.of_meaning.Relations.{element_at}

-- the index is in the set whose index the number is, where the sets' indices begin with so
abbrev pub is_held : ℤ → ℤ → List NumberSet → ℤ → Bool
is_held i x ss so = option_map_or (λ s. set.contains s i) (element_at ss ((x -ℤ so) +ℤ pos 1)) false

-- that is so for each number, where the numbers' indices begin with i
abbrev pub are_held : ℤ → List ℤ → List NumberSet → ℤ → Bool
are_held i [] ss so = true
are_held i (x ∷ xs) ss so = is_held i x ss so && are_held (i +ℤ pos 1) xs ss so

-- how many elements the sets have together, a common one counted in each
abbrev pub size_of_all : List NumberSet → ℕ
size_of_all [] = 0
size_of_all (s ∷ ss) = set.len s + size_of_all ss
