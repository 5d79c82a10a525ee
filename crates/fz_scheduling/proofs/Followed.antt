-- A run of an automaton, symbol by symbol.
use Rattle.std.proofs.Common.{◌≡◌, ℕ, ◌+◌, ◌*◌, ◌≤◌, ℤ, pos, ◌+ℤ◌, ◌-ℤ◌, ◌*ℤ◌, true, ◌&&◌, if◌then◌else◌, List, ◌∷◌, drop, Option, Some, None, option_and_then, unsigned_abs, int_le, FitsSigned, w64, sym, ap, subst, ◌∙◌, mul-le-mul, arith}
use Rattle.std.specs.Int.{w128}
use Rattle.std.proofs.lemmas.Int.{ints, unsigned_abs-mul}
use Rattle.fz_kernel.proofs.of_meaning.Values.{and_first}
use Rattle.fz_kernel.specs.of_meaning.Relations.{element_at, lies_between, run, step}

module _ (states symbols : ℤ) (d : List ℤ) (xs : List ℤ) (i : ℕ) (q x : ℤ) (whole : Option ℤ) (so_far : whole ≡ run states symbols d q (drop i xs)) (here : drop i xs ≡ x ∷ drop (i + 1) xs) where
  told : whole ≡ option_and_then (λ p. run states symbols d p (drop (i + 1) xs))
      (step states symbols d q x)
  told = so_far ∙ ap (run states symbols d q) here

  pub stuck : step states symbols d q x ≡ None → None ≡ whole
  stuck nowhere = sym (told ∙ ap (option_and_then (λ p. run states symbols d p (drop (i + 1) xs))) nowhere)

  pub goes_on : (p : ℤ) → step states symbols d q x ≡ Some p
      → whole ≡ run states symbols d p (drop (i + 1) xs)
  goes_on p there = told ∙ ap (option_and_then (λ p. run states symbols d p (drop (i + 1) xs))) there

pub leads : (states symbols : ℤ) (d : List ℤ) (q x : ℤ) → lies_between (pos 1) states q ≡ true
    → lies_between (pos 1) symbols x ≡ true
    → step states symbols d q x ≡ element_at d (((q -ℤ pos 1) *ℤ symbols) +ℤ x)
leads states symbols d q x in_states in_symbols =
    ap (λ b. if b && lies_between (pos 1) symbols x then element_at d (((q -ℤ pos 1) *ℤ symbols) +ℤ x) else None) in_states
    ∙ ap (λ b. if b then element_at d (((q -ℤ pos 1) *ℤ symbols) +ℤ x) else None) in_symbols

-- a product of two numbers of 64 bits, and one number more
pub fits_with_more : (a b more p : ℤ) → FitsSigned w64 a → FitsSigned w64 b → FitsSigned w64 more
    → p ≡ (a *ℤ b) → FitsSigned w128 (p +ℤ more)
fits_with_more a b more p fits_a fits_b fits_more is =
    let size_a : unsigned_abs a ≤ 9223372036854775808 = omega (arith, ints) in
    let size_b : unsigned_abs b ≤ 9223372036854775808 = omega (arith, ints) in
    let size : unsigned_abs (a *ℤ b) ≤ 9223372036854775808 * 9223372036854775808 = subst (λ n. n ≤ 9223372036854775808 * 9223372036854775808) (sym (unsigned_abs-mul a b)) (mul-le-mul size_a size_b) in
    let same : unsigned_abs p ≡ unsigned_abs (a *ℤ b) = ap unsigned_abs is in
    omega (arith, ints)

pub one_less : (most q : ℤ) → FitsSigned w64 q → lies_between (pos 1) most q ≡ true
    → FitsSigned w64 (q -ℤ pos 1)
one_less most q fits between = above q fits (and_first (int_le (pos 1) q) (int_le q most) between)
  where
    above : (q : ℤ) → FitsSigned w64 q → int_le (pos 1) q ≡ true → FitsSigned w64 (q -ℤ pos 1)
    above q fits low = grind (arith, ints)
