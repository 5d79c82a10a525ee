-- What calls promise of a set's elements.
use Rattle.std.specs.Prelude.{ℤ, ◌≤ℤ◌, ◌≡◌, ◌↔◌, true, FitsSigned}
use Rattle.std.specs.Int.{w64}
use Rattle.std.specs.FinSet.{contains}
use Rattle.fz_base.specs.Sets.{NumberSet}

-- each element is from lo to hi
abbrev pub LiesWithin : ℤ → ℤ → NumberSet → Type 0
LiesWithin lo hi s = (x : ℤ) → contains s x ≡ true → (lo ≤ℤ x) × (x ≤ℤ hi)

-- each element is from -2^63 to 2^63 - 1 (this project's profile: an integer has 64 bits)
abbrev pub Has64Bits : NumberSet → Type 0
Has64Bits s = (x : ℤ) → contains s x ≡ true → FitsSigned w64 x

-- it is an element, and there is no other
abbrev pub IsOnly : ℤ → NumberSet → Type 0
IsOnly n s = (x : ℤ) → (contains s x ≡ true) ↔ (x ≡ n)
