-- Numbers with their indices, each pair as one number (a key): keys are ordered by the numbers, and
-- those of equal numbers by the indices (private functions only).
use Rattle.std.specs.Prelude.{ℕ, ◌+◌, ◌<◌, ℤ, pos, ◌+ℤ◌, ◌*ℤ◌, Bool, true, false, List, [], ◌∷◌, length, int_lt, Option, Some, None}
use Rattle.std.specs.List.Sorted.{IsPermutation}

-- an index is below 2^64
abbrev pub key : ℤ → ℕ → ℤ
key x k = (x *ℤ pos 18446744073709551616) +ℤ pos k

-- the keys of a list whose indices begin with k
abbrev pub keys_from : ℕ → List ℤ → List ℤ
keys_from k [] = []
keys_from k (x ∷ xs) = key x k ∷ keys_from (k + 1) xs

-- the keys of a list, in any order
pub record AreKeys (xs ks : List ℤ) : Type 0 where
  pub short : length xs < 18446744073709551616
  pub moved : IsPermutation (keys_from 0 xs) ks

-- the first index of a number is less than that of another, where the other occurs
abbrev pub comes_before : Option ℤ → Option ℤ → Bool
comes_before s None = true
comes_before None (Some j) = false
comes_before (Some i) (Some j) = int_lt i j
