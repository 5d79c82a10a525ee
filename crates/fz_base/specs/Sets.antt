-- Finite sets of integers, in the words of FlatZinc's builtins over sets (MiniZinc Handbook,
-- "FlatZinc builtins", set builtins; a set literal is that of the FlatZinc grammar). The numbers
-- are those of mathematics and have no width. Two sets with the same elements are equal. Union,
-- intersection, difference, subset and number of elements are those of the standard library.
--     NumberSet      a finite set of integers
--     numbers_between lo hi      the value of the range lo..hi
--     symmetric_difference s t      what is in exactly one of the two: `set_symdiff`
use Rattle.std.specs.Prelude.{ℕ, zero, suc, ℤ, pos, negsuc, ◌+ℤ◌, ◌-ℤ◌, List, [], ◌∷◌}
use Rattle.std.specs.Ordering.{int_cmp}
use Rattle.std.specs.FinSet.{FinSet, from_list, union, difference}

-- a finite set of integers
abbrev pub NumberSet : Type 0
NumberSet = FinSet int_cmp

-- n integers, of which the first is lo and each other is one more than the one before
unfoldable pub counting_from : ℤ → ℕ → List ℤ
counting_from lo zero = []
counting_from lo (suc n) = lo ∷ counting_from (lo +ℤ pos 1) n

-- z as a number of integers: 0 where it is negative
abbrev pub at_least_none : ℤ → ℕ
at_least_none (pos n) = n
at_least_none (negsuc n) = 0

-- how many integers there are from lo to hi
abbrev pub count_between : ℤ → ℤ → ℕ
count_between lo hi = at_least_none (hi +ℤ pos 1 -ℤ lo)

-- the set of all integers from lo to hi, both ends included: the value of a range literal lo..hi.
-- It is empty where lo is above hi
unfoldable pub numbers_between : ℤ → ℤ → NumberSet
numbers_between lo hi = from_list (counting_from lo (count_between lo hi))

-- what is an element of exactly one of the two
abbrev pub symmetric_difference : NumberSet → NumberSet → NumberSet
symmetric_difference s t = union (difference s t) (difference t s)
