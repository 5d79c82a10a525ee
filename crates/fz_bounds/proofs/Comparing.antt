-- Lexicographic order from a place on.
use Rattle.std.proofs.Common.{◌≡◌, ℕ, ◌+◌, ◌≤◌, ◌<◌, ℤ, Bool, true, false, not, ◌&&◌, ◌||◌, List, [], ◌∷◌, drop, length, map, Some, slice_get, refl, sym, ap, ◌∙◌, arith, int_le, int_lt}
use Rattle.std.proofs.lemmas.Bool.{and_right, or_left, or_right}
use Rattle.std.proofs.lemmas.Int.{ints}
use Rattle.fz_model.specs.Relations.{◌=ᴮ◌, ◌=ℤ◌, as_number, is_before}
use Rattle.fz_model.proofs.Values.{and_first, and_second, no'}
use Rattle.fz_model.proofs.of_builtins.of_kernel.Left.{next, none_left}

abbrev pub comes : List ℤ → List ℤ → Bool
comes xs ys = is_before int_lt ◌=ℤ◌ xs ys

-- nothing comes before what is empty
pub none_before : (xs : List ℤ) → comes xs [] ≡ false
none_before [] = refl
none_before (x ∷ xs) = refl

module _ (xs ys : List ℤ) (i : ℕ) (x y : ℤ) (at : slice_get xs i ≡ Some x) (also : slice_get ys i ≡ Some y) where
  here : comes (drop i xs) (drop i ys)
      ≡ (int_lt x y || ((x =ℤ y) && comes (drop (i + 1) xs) (drop (i + 1) ys)))
  here = λ j. comes (next xs i x at j) (next ys i y also j)

  -- where the first isn't less, both are the same and the rest comes before
  pub both_on : int_lt x y ≡ false → comes (drop i xs) (drop i ys) ≡ true
      → ((x =ℤ y) && comes (drop (i + 1) xs) (drop (i + 1) ys)) ≡ true
  both_on e h = ap (λ b. b || ((x =ℤ y) && comes (drop (i + 1) xs) (drop (i + 1) ys))) (sym e) ∙ sym here ∙ h

  pub rest_comes : int_lt x y ≡ false → comes (drop i xs) (drop i ys) ≡ true
      → comes (drop (i + 1) xs) (drop (i + 1) ys) ≡ true
  rest_comes e h = and_second (x =ℤ y) _ (both_on e h)

  -- where they differ too, it doesn't
  pub here_fails : int_lt x y ≡ false → (x =ℤ y) ≡ false → comes (drop i xs) (drop i ys) ≡ false
  here_fails e f = here ∙ (λ j. e j || (f j && comes (drop (i + 1) xs) (drop (i + 1) ys)))

  -- where the first is less, it comes before
  pub less_comes : int_lt x y ≡ true → comes (drop i xs) (drop i ys) ≡ true
  less_comes e = here ∙ or_left (int_lt x y) _ e

  -- where it isn't greater, and the rest comes before
  pub rest_leads : int_le x y ≡ true → comes (drop (i + 1) xs) (drop (i + 1) ys) ≡ true
      → comes (drop i xs) (drop i ys) ≡ true
  rest_leads e h = here ∙ ap (λ b. int_lt x y || ((x =ℤ y) && b)) h ∙ at_most x y e
    where
      at_most : (x y : ℤ) → int_le x y ≡ true → (int_lt x y || ((x =ℤ y) && true)) ≡ true
      at_most x y e = grind (arith, ints)

-- at the end of the second list
pub ended : (xs ys : List ℤ) (i : ℕ) → length ys ≤ i → comes (drop i xs) (drop i ys) ≡ false
ended xs ys i past = ap (comes (drop i xs)) (none_left ys i past) ∙ none_before (drop i xs)

-- at the end of the first list alone
pub shorter : (xs ys : List ℤ) (i : ℕ) (y : ℤ) → length xs ≤ i → slice_get ys i ≡ Some y
    → comes (drop i xs) (drop i ys) ≡ true
shorter xs ys i y past at = λ j. comes (none_left xs i past j) (next ys i y at j)

-- ---- Booleans

same_numbers : (b c : Bool) → (b =ᴮ c) ≡ (as_number b =ℤ as_number c)
same_numbers true true = refl
same_numbers true false = refl
same_numbers false true = refl
same_numbers false false = refl

less_numbers : (b c : Bool) → (not b && c) ≡ int_lt (as_number b) (as_number c)
less_numbers true true = refl
less_numbers true false = refl
less_numbers false true = refl
less_numbers false false = refl

pub truths_come : (bs cs : List Bool) → is_before (λ x y. not x && y) ◌=ᴮ◌ bs cs
    ≡ comes (map as_number bs) (map as_number cs)
truths_come [] [] = refl
truths_come [] (c ∷ cs) = refl
truths_come (b ∷ bs) [] = refl
truths_come (b ∷ bs) (c ∷ cs) =
    λ j. less_numbers b c j || (same_numbers b c j && truths_come bs cs j)
