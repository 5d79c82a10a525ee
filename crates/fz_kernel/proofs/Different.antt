-- Numbers are all different exactly where each is counted once at most. So their order doesn't
-- matter; and in ascending order it is enough to compare neighbours.
use Rattle.std.proofs.Common.{◌≡◌, ℕ, suc, zero, ◌+◌, ◌<◌, ◌≤◌, ℤ, ◌<ℤ◌, ◌≤ℤ◌, Bool, true, false, not, cond, ◌&&◌, ◌||◌, List, [], ◌∷◌, length, get_or, drop, Some, slice_get, refl, sym, ap, subst, ◌∙◌, arith, add-one}
use Rattle.std.specs.List.{count_by, list_all}
use Rattle.std.specs.List.Sorted.{IsPermutation, IsSorted}
use Rattle.std.specs.Ordering.{int_cmp}
use native.Mathlib.Numerals.{unary_clauses}
use Rattle.std.specs.Cmp.{both_ways}
use Rattle.std.proofs.lemmas.Int.{ints}
use Rattle.std.proofs.lemmas.Bool.Decides.{Decides-int_eq}
use Rattle.std.proofs.lemmas.List.Recursion.{is_count_by}
use Rattle.std.proofs.lemmas.List.Sorted.{sum_by-IsPermutation}
use Rattle.fz_store.proofs.of_meaning.of_base.Numbers.{not_below}
use Rattle.fz_store.specs.of_meaning.Relations.{◌=ℤ◌, all_different, all_neighbours, all_pairs, is_among}
use Rattle.fz_store.proofs.of_meaning.Values.{no, no', and_first, and_second, and_both, same_int, int_itself}

-- how often the number is listed
abbrev count : ℤ → List ℤ → ℕ
count a [] = 0
count a (x ∷ xs) = cond (x =ℤ a) (1 + count a xs) (count a xs)

count_is : (a : ℤ) (xs : List ℤ) → count a xs ≡ count_by (λ x. x =ℤ a) xs
count_is a xs = is_count_by (count a) (λ x. x =ℤ a) refl (λ _ _. refl) xs

not_among : (a : ℤ) (xs : List ℤ) → is_among a xs ≡ false → count a xs ≡ 0
not_among a [] e = refl
not_among a (x ∷ xs) e = elim (x =ℤ a) as (λ s. (s || is_among a xs) ≡ false → cond s (1 + count a xs) (count a xs) ≡ 0) [ true ↦ λ e. no' e | false ↦ λ e. not_among a xs e ] e

never_counted : (a : ℤ) (xs : List ℤ) → count a xs ≡ 0 → is_among a xs ≡ false
never_counted a [] e = refl
never_counted a (x ∷ xs) e = elim (x =ℤ a) as (λ s. cond s (1 + count a xs) (count a xs) ≡ 0 → (s || is_among a xs) ≡ false) [ true ↦ λ e. absurd (omega arith) | false ↦ λ e. never_counted a xs e ] e

is_true_not : (p : Bool) → not p ≡ true → p ≡ false
is_true_not true e = no e
is_true_not false e = refl

counted_once : (xs : List ℤ) → all_different xs ≡ true → (a : ℤ) → count a xs ≤ 1
counted_once [] e a = omega arith
counted_once (x ∷ xs) e a =
    elim (x =ℤ a) as (λ s. (x =ℤ a) ≡ s → cond s (1 + count a xs) (count a xs) ≤ 1) [
      | true ↦ λ same.
          let none : count a xs ≡ 0 = not_among a xs (subst (λ y. is_among y xs ≡ false) (same_int x a same) (is_true_not (is_among x xs) (and_first (not (is_among x xs)) (all_different xs) e))) in
          omega arith
      | false ↦ λ _. counted_once xs (and_second (not (is_among x xs)) (all_different xs) e) a
    ] refl

different_counted : (xs : List ℤ) → ((a : ℤ) → count a xs ≤ 1) → all_different xs ≡ true
different_counted [] once = refl
different_counted (x ∷ xs) once =
    let here : cond (x =ℤ x) (1 + count x xs) (count x xs) ≤ 1 = once x in
    let more : 1 + count x xs ≤ 1 = subst (λ s. cond s (1 + count x xs) (count x xs) ≤ 1) (int_itself x) here in
    and_both (not (is_among x xs)) (all_different xs) (ap not (never_counted x xs (omega arith))) (different_counted xs (λ a. fewer a (x =ℤ a) (once a)))
  where
    fewer : (a : ℤ) (s : Bool) → cond s (1 + count a xs) (count a xs) ≤ 1 → count a xs ≤ 1
    fewer a true h = omega arith
    fewer a false h = h

-- the order of the numbers doesn't matter
pub all_different-permutation : (xs ys : List ℤ) → IsPermutation xs ys
    → all_different xs ≡ all_different ys
all_different-permutation xs ys moved =
    both_ways (all_different xs) (all_different ys)
    (λ e. different_counted ys (λ a. subst (λ n. n ≤ 1) (alike a) (counted_once xs e a)))
    (λ e. different_counted xs (λ a. subst (λ n. n ≤ 1) (sym (alike a)) (counted_once ys e a)))
  where
    alike : (a : ℤ) → count a xs ≡ count a ys
    alike a = count_is a xs ∙ sym (sum_by-IsPermutation (λ x. cond (x =ℤ a) 1 0) xs ys moved) ∙ sym (count_is a ys)

other : (a b : ℤ) → b <ℤ a → (a =ℤ b) ≡ false
other a b h = grind (arith, ints)

less : (a b : ℤ) → a ≤ℤ b → (a =ℤ b) ≡ false → a <ℤ b
less a b h e = grind (arith, ints)

turned : (a b : ℤ) → (a =ℤ b) ≡ (b =ℤ a)
turned a b = grind (arith, ints)

later_sorted : (x : ℤ) (xs : List ℤ) → IsSorted int_cmp (x ∷ xs) → IsSorted int_cmp xs
later_sorted x xs sorted k d h g = rw add-one (simp unary_clauses at (sorted (suc k) d (omega arith) (omega arith)))

-- what is less than each of some numbers is none of them
none_above : (a x : ℤ) (xs : List ℤ) → IsSorted int_cmp (x ∷ xs) → a <ℤ x
    → is_among a (x ∷ xs) ≡ false
none_above a x [] sorted low = ap (λ s. s || false) (other x a low)
none_above a x (y ∷ ys) sorted low =
    let step : x ≤ℤ y = not_below y x (sorted 0 x (omega arith) (omega arith)) in
    ap (λ s. s || is_among a (y ∷ ys)) (other x a low) ∙ none_above a y ys (later_sorted x (y ∷ ys) sorted) (omega (arith, ints))

-- numbers in order are different where neighbours are
pub neighbours_are : (xs : List ℤ) → IsSorted int_cmp xs
    → all_neighbours (λ x y. not (x =ℤ y)) xs ≡ all_different xs
neighbours_are [] sorted = refl
neighbours_are (x ∷ []) sorted = refl
neighbours_are (x ∷ y ∷ ys) sorted =
    let low : x ≤ℤ y = not_below y x (sorted 0 x (omega arith) (omega arith)) in
    let later = later_sorted x (y ∷ ys) sorted in
    ap (λ b. not (x =ℤ y) && b) (neighbours_are (y ∷ ys) later)
    ∙ ap (λ b. not b && all_different (y ∷ ys)) (elim (x =ℤ y) as (λ b. (x =ℤ y) ≡ b → b ≡ is_among x (y ∷ ys)) [
      | true ↦ λ e. ap (λ b. b || is_among x ys) (sym (sym (turned x y) ∙ e))
      | false ↦ λ e. sym (none_above x y ys later (less x y low e))
    ] refl)

-- ---- each pair

none_among : (a : ℤ) (ys : List ℤ) → list_all (λ y. not (a =ℤ y)) ys ≡ not (is_among a ys)
none_among a [] = refl
none_among a (y ∷ ys) =
    ap (λ b. not b && list_all (λ z. not (a =ℤ z)) ys) (turned a y)
    ∙ elim (y =ℤ a) as (λ b. (not b && list_all (λ z. not (a =ℤ z)) ys) ≡ not (b || is_among a ys)) [ true ↦ refl | false ↦ none_among a ys ]

pub pairs_are : (xs : List ℤ) → all_pairs (λ x y. not (x =ℤ y)) xs ≡ all_different xs
pairs_are [] = refl
pairs_are (x ∷ xs) = λ k. none_among x xs k && pairs_are xs k
