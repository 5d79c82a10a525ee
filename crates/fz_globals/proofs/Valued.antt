-- How many different numbers a list has: as many as its set; and where they are in order,
-- neighbours tell.
use Rattle.std.proofs.Common.{◌≡◌, ℕ, suc, zero, ◌+◌, ◌-◌, ◌<◌, ◌≤◌, ℤ, ◌<ℤ◌, ◌≤ℤ◌, Bool, true, false, cond, ◌||◌, List, [], ◌∷◌, drop, length, get_or, All, IsPermutation, int_cmp, int_eq, sym, ap, ◌∙◌, refl, arith, rules}
use Rattle.std.specs.Ordering.{eq_by_cmp}
use Rattle.std.specs.Cmp.{int_cmp_total}
use Rattle.std.specs.List.{list_any}
use Rattle.std.specs.FinSet.{contains, from_list, len, len-insert, len-empty, contains-from_list, same_set, int_cmp-IsAntisymmetric}
use Rattle.std.proofs.lemmas.Int.{ints}
use Rattle.std.proofs.lemmas.List.{drop_more, length-drop, get_or-drop, get_or_default}
use Rattle.std.proofs.lemmas.List.Sorted.{list_any-IsPermutation}
use Rattle.std.proofs.lemmas.Bool.Decides.{Decides-int_eq}
use Rattle.fz_kernel.specs.of_meaning.Relations.{◌=ℤ◌, is_among, values_of}
use Rattle.fz_kernel.proofs.of_meaning.Values.{same_truth, same_int}
use Rattle.fz_globals.proofs.Compared.{above_is_other}
use Rattle.fz_globals.proofs.Halving.{Ascends}

-- ---- in any order

turned : (a b : ℤ) → int_eq a b ≡ int_eq b a
turned a b = same_truth (int_eq a b) (int_eq b a) (λ e. (Decides-int_eq b a).1 (sym (same_int a b e))) (λ e. (Decides-int_eq a b).1 (sym (same_int b a e)))

all_turned : (a : ℤ) (xs : List ℤ) → list_any (eq_by_cmp int_cmp a) xs ≡ is_among a xs
all_turned a [] = refl
all_turned a (x ∷ xs) = ap (λ s. s || list_any (eq_by_cmp int_cmp a) xs) (turned a x) ∙ ap (λ s. (x =ℤ a) || s) (all_turned a xs)

pub in_listed : (a : ℤ) (xs : List ℤ) → contains (from_list {R = int_cmp} xs) a ≡ is_among a xs
in_listed a xs = contains-from_list int_cmp_total xs a ∙ all_turned a xs

one_more : (b : Bool) (x : ℤ) (vs : List ℤ) (n : ℕ) → length vs ≡ n
    → length (cond b vs (x ∷ vs)) ≡ cond b n (n + 1)
one_more true x vs n e = e
one_more false x vs n e = omega arith

values_are : (xs : List ℤ) → length (values_of xs) ≡ len (from_list {R = int_cmp} xs)
values_are [] = sym (len-empty int_cmp)
values_are (x ∷ xs) =
    one_more (is_among x xs) x (values_of xs) (len (from_list {R = int_cmp} xs)) (values_are xs)
    ∙ ap (λ b. cond b (len (from_list {R = int_cmp} xs)) (len (from_list {R = int_cmp} xs) + 1)) (sym (in_listed x xs))
    ∙ sym (len-insert int_cmp_total (from_list {R = int_cmp} xs) x)

pub values-permutation : (xs ys : List ℤ) → IsPermutation xs ys
    → length (values_of xs) ≡ length (values_of ys)
values-permutation xs ys moved =
    values_are xs
    ∙ ap len (same_set int_cmp_total int_cmp-IsAntisymmetric (from_list xs) (from_list ys)
    (λ q. contains-from_list int_cmp_total xs q ∙ list_any-IsPermutation (eq_by_cmp int_cmp q) xs ys moved ∙ sym (contains-from_list int_cmp_total ys q)))
    ∙ sym (values_are ys)

-- ---- in ascending order

none_behind : (a : ℤ) (xs : List ℤ) → All (λ y. a <ℤ y) xs → is_among a xs ≡ false
none_behind a [] low = refl
none_behind a (x ∷ xs) low = ap (λ s. s || is_among a xs) (above_is_other a x (low zero x (omega arith))) ∙ none_behind a xs (λ k d h. low (suc k) d (omega arith))

-- n of the values of the first i, counted from 1
pub record AreValued (xs : List ℤ) (i n : ℕ) : Type 0 where
  pub whole : n + length (values_of (drop (i - 1) xs)) ≡ 1 + length (values_of xs)
  pub few : n ≤ i

one_left : (xs : List ℤ) → length xs ≡ 1 → length (values_of xs) ≡ 1
one_left (x ∷ []) h = refl
one_left _ h = absurd (omega arith)

pub all_valued : (xs : List ℤ) (i n : ℕ) → 1 ≤ length xs → i ≡ length xs → AreValued xs i n
    → n ≡ length (values_of xs)
all_valued xs i n some end so_far = search (rules, one_left, length-drop)

module _ (xs : List ℤ) (i n : ℕ) (d : ℤ) (up : Ascends xs) (from_one : 1 ≤ i) (inside : i < length xs) (so_far : AreValued xs i n) where
  here : drop (i - 1) xs ≡ get_or xs (i - 1) d ∷ drop i xs
  here = search (rules, drop_more)

  pub value_again : (m : ℕ) → m ≡ n → get_or xs (i - 1) d ≡ get_or xs i d → AreValued xs (i + 1) m
  value_again m is same = search (rules, drop_more, here)

  pub value_new : (m : ℕ) → m ≡ n + 1 → ¬ (get_or xs (i - 1) d ≡ get_or xs i d)
      → AreValued xs (i + 1) m
  value_new m is other =
      let low : get_or xs (i - 1) d ≤ℤ get_or xs i d = up (i - 1) i d (omega arith) inside in
      let less : get_or xs (i - 1) d <ℤ get_or xs i d = omega (arith, ints, other) in
      let none : is_among (get_or xs (i - 1) d) (drop i xs) ≡ false = none_behind (get_or xs (i - 1) d) (drop i xs) (λ k e h. above less k e h) in
      let step : length (values_of (drop (i - 1) xs)) ≡ suc (length (values_of (drop i xs))) =
      ap (λ l. length (values_of l)) here ∙ ap (λ b. length (cond b (values_of (drop i xs)) (get_or xs (i - 1) d ∷ values_of (drop i xs)))) none in
      let place : i ≡ (i + 1) - 1 = omega arith in
      let moved : length (values_of (drop i xs)) ≡ length (values_of (drop ((i + 1) - 1) xs)) = ap (λ k. length (values_of (drop k xs))) place in
      let whole : n + length (values_of (drop (i - 1) xs)) ≡ 1 + length (values_of xs) = so_far.whole in
      let few : n ≤ i = so_far.few in
      record { whole = omega arith; few = omega arith }
    where
      above : get_or xs (i - 1) d <ℤ get_or xs i d → All (λ z. get_or xs (i - 1) d <ℤ z) (drop i xs)
      above less k e h =
          let within : i + k < length xs = omega (arith, length-drop i xs) in
          let at : get_or (drop i xs) k e ≡ get_or xs (i + k) e = get_or-drop i xs k e in
          let default : get_or xs i e ≡ get_or xs i d = get_or_default xs i e d inside in
          let high : get_or xs i e ≤ℤ get_or xs (i + k) e = up i (i + k) e (omega arith) within in
          omega (arith, ints)
