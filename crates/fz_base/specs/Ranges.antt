-- How the crate stores a set that has numbers outside 0 to 63: as ranges in order, with a gap
-- between each two. Public clauses cite only `AreInOrder`, `covers` and `lowest` of this file; a
-- reader need not believe the rest.
use Rattle.std.specs.Prelude.{◌≡◌, ◌↔◌, ℤ, pos, negsuc, ◌+ℤ◌, ◌≤ℤ◌, Bool, true, false, not, ◌&&◌, ◌||◌, List, [], ◌∷◌, int_le}
use Rattle.std.specs.List.{flat_map}
use Rattle.std.specs.FinSet.{from_list}
use Rattle.fz_base.specs.Sets.{NumberSet, counting_from, count_between}
use Rattle.fz_base.specs.declared.ranges.Range.{Range}
use Rattle.fz_base.specs.declared.ranges.Rule.{Rule}
use Rattle.fz_base.specs.declared.ranges.Rule.TheVariants.{Union, Intersect, Minus, Symdiff}

-- the least and the greatest number of 64 bits
abbrev pub lowest : ℤ
lowest = negsuc 9223372036854775807

abbrev pub highest : ℤ
highest = pos 9223372036854775807

-- the set of the numbers of all the ranges
unfoldable pub numbers_of : List Range → NumberSet
numbers_of ranges = from_list (flat_map (λ r. counting_from r.lo (count_between r.lo r.hi)) ranges)

-- The ranges are in order: none is empty, the first begins at `from` or above, and between each two
-- is a number that is in none.
abbrev pub AreInOrder : ℤ → List Range → Type 0
AreInOrder from [] = Unit {0}
AreInOrder from (r ∷ rs) =
    (from ≤ℤ r.lo) × (r.lo ≤ℤ r.hi) × (r.hi ≤ℤ highest) × AreInOrder (r.hi +ℤ pos 2) rs

-- x is from lo to hi
abbrev pub is_between : ℤ → ℤ → ℤ → Bool
is_between lo hi x = int_le lo x && int_le x hi

-- x is in some range
abbrev pub covers : List Range → ℤ → Bool
covers [] x = false
covers (r ∷ rs) x = is_between r.lo r.hi x || covers rs x

-- no range reaches past x
abbrev pub EndUpTo : ℤ → List Range → Type 0
EndUpTo x [] = Unit {0}
EndUpTo x (r ∷ rs) = (r.hi ≤ℤ x) × EndUpTo x rs

-- the first range, if there is one, reaches to x or past it
abbrev pub ReachesTo : ℤ → List Range → Type 0
ReachesTo x [] = Unit {0}
ReachesTo x (r ∷ rs) = x ≤ℤ r.hi

-- whether a number is in the result of the operation, given whether it is in the first set and
-- whether it is in the second
abbrev pub keeps : Rule → Bool → Bool → Bool
keeps Union a b = a || b
keeps Intersect a b = a && b
keeps Minus a b = a && not b
keeps Symdiff a b = (a && not b) || (b && not a)

-- the ranges cover one number alone
abbrev pub CoversOnly : ℤ → List Range → Type 0
CoversOnly n rs = (x : ℤ) → (covers rs x ≡ true) ↔ (x ≡ n)

-- each number that the first ranges cover is covered by the second
abbrev pub LiesIn : List Range → List Range → Type 0
LiesIn rs ss = (x : ℤ) → covers rs x ≡ true → covers ss x ≡ true
