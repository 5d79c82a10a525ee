-- What a closure computes (private functions only).
use Rattle.std.specs.Prelude.{◌≡◌, ◌+ℤ◌, ◌&&◌, ℕ, ℤ, pos, Bool, true, List, [], ◌∷◌, Some, FitsSigned, slice_get}
use Rattle.std.specs.Int.{w64, w128}

-- `left` says of a list, whose first number has this index, that each number passes the test
pub record IsEach (test : ℤ → ℤ → Bool) (left : ℤ → List ℤ → Bool) : Type 0 where
  pub none : (i : ℤ) → left i [] ≡ true
  pub one : (i n : ℤ) (ns : List ℤ) → left i (n ∷ ns) ≡ (test i n && left (i +ℤ pos 1) ns)

-- the results, at an index of 128 bits and a number of 64, are those of the test
abbrev pub IsOfIndex : (ℤ → ℤ → Bool → Type 0) → (ℤ → ℤ → Bool) → Type 0
IsOfIndex results test = (i n : ℤ) (b : Bool) → FitsSigned w128 i → FitsSigned w64 n
    → results i n b → b ≡ test i n

-- the result is one at the index, counted from o, and at the number that is there
abbrev pub IsTestedAt : (ℤ → ℤ → Bool → Type 0) → ℤ → List ℤ → ℕ → Bool → Type 0
IsTestedAt results o ns k b = (i n : ℤ) × (i ≡ o +ℤ pos k) × (slice_get ns k ≡ Some n)
    × FitsSigned w128 i × FitsSigned w64 n × results i n b

-- the results, at two numbers of 64 bits, are those of the test
abbrev pub IsOfTwo : (ℤ → ℤ → Bool → Type 0) → (ℤ → ℤ → Bool) → Type 0
IsOfTwo results test = (n m : ℤ) (b : Bool) → FitsSigned w64 n → FitsSigned w64 m
    → results n m b → b ≡ test n m
