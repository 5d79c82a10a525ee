-- A loop that tests one element after another, of one list or of two side by side, and a loop that
-- counts those that pass.
use Rattle.std.proofs.Common.{◌≡◌, ℕ, suc, ◌+◌, ◌≤◌, ℤ, pos, Bool, true, false, cond, ◌&&◌, ◌||◌, ◌⊎◌, List, [], ◌∷◌, ◌++◌, append-nil, take, drop, length, filter, Some, slice_get, IsPermutation, int_eq, refl, sym, ap, ◌∙◌, arith, rules}
use Rattle.std.specs.List.{list_any}
use Rattle.std.proofs.lemmas.List.Elements.{filter-append}
use Rattle.std.proofs.lemmas.List.Sums.{length-filter}
use Rattle.std.proofs.lemmas.List.Sorted.{sum_by-IsPermutation, list_any-IsPermutation}
use Rattle.std.proofs.lemmas.Grind.{common_steps}
use Rattle.fz_kernel.specs.of_meaning.Relations.{◌=ℤ◌, all_both, is_same_list, count_of, counts_are, counts_lie, is_closed}
use Rattle.fz_kernel.proofs.Left.{next, none_left, one_more}

-- ---- a test of each element

module _ {A : Type 0} (p : A → Bool) (xs : List A) (i : ℕ) (x : A) (at : slice_get xs i ≡ Some x) where
  pub one_does : list_any p xs ≡ list_any p (drop i xs) → p x ≡ true → true ≡ list_any p xs
  one_does so_far e = sym (so_far ∙ ap (list_any p) (next xs i x at) ∙ ap (λ b. b || list_any p (drop (i + 1) xs)) e)

  pub not_yet : list_any p xs ≡ list_any p (drop i xs) → p x ≡ false
      → list_any p xs ≡ list_any p (drop (i + 1) xs)
  not_yet so_far e = so_far ∙ ap (list_any p) (next xs i x at) ∙ ap (λ b. b || list_any p (drop (i + 1) xs)) e

-- ---- how many pass

pub filter_yes : {A : Type 0} (p : A → Bool) (x : A) (xs : List A) → p x ≡ true
    → length (filter p (x ∷ xs)) ≡ suc (length (filter p xs))
filter_yes p x xs e = ap (λ b. length (cond b (x ∷ filter p xs) (filter p xs))) e

pub filter_no : {A : Type 0} (p : A → Bool) (x : A) (xs : List A) → p x ≡ false
    → length (filter p (x ∷ xs)) ≡ length (filter p xs)
filter_no p x xs e = ap (λ b. length (cond b (x ∷ filter p xs) (filter p xs))) e

-- n of the first i pass
pub record IsTold {A : Type 0} (p : A → Bool) (xs : List A) (i n : ℕ) : Type 0 where
  pub whole : length (filter p xs) ≡ n + length (filter p (drop i xs))
  pub few : n ≤ i

module _ {A : Type 0} (p : A → Bool) (xs : List A) (i n : ℕ) (x : A) (at : slice_get xs i ≡ Some x) (so_far : IsTold p xs i n) where
  pub one_told : (m : ℕ) → m ≡ n + 1 → p x ≡ true → IsTold p xs (i + 1) m
  one_told m is e = search (rules, next, filter_yes)

  pub one_left_out : (m : ℕ) → m ≡ n → p x ≡ false → IsTold p xs (i + 1) m
  one_left_out m is e = search (rules, next, filter_no)

-- those that pass, so far
pub one_kept : {A : Type 0} (p : A → Bool) (xs : List A) (i : ℕ) (x : A) → slice_get xs i ≡ Some x
    → p x ≡ true → filter p (take (i + 1) xs) ≡ filter p (take i xs) ++ x ∷ []
one_kept p xs i x at e = ap (filter p) (one_more xs i x at) ∙ filter-append p (take i xs) (x ∷ []) ∙ ap (λ b. filter p (take i xs) ++ cond b (x ∷ []) []) e

pub one_skipped : {A : Type 0} (p : A → Bool) (xs : List A) (i : ℕ) (x : A)
    → slice_get xs i ≡ Some x → p x ≡ false → filter p (take (i + 1) xs) ≡ filter p (take i xs)
one_skipped p xs i x at e = ap (filter p) (one_more xs i x at) ∙ filter-append p (take i xs) (x ∷ []) ∙ ap (λ b. filter p (take i xs) ++ cond b (x ∷ []) []) e ∙ append-nil (filter p (take i xs))

-- the order of the elements doesn't matter
pub told-permutation : {A : Type 0} (p : A → Bool) (xs ys : List A) → IsPermutation xs ys
    → length (filter p xs) ≡ length (filter p ys)
told-permutation p xs ys moved = length-filter p xs ∙ sym (sum_by-IsPermutation (λ x. cond (p x) 1 0) xs ys moved) ∙ sym (length-filter p ys)

pub count_of-permutation : (xs ys : List ℤ) → IsPermutation xs ys → (v : ℤ)
    → count_of xs v ≡ count_of ys v
count_of-permutation xs ys moved v = ap pos (told-permutation (λ x. int_eq x v) xs ys moved)

-- ---- two lists side by side

pub all_both-same : {A B : Type 0} (p q : A → B → Bool) → ((x : A) (y : B) → p x y ≡ q x y)
    → (xs : List A) (ys : List B) → all_both p xs ys ≡ all_both q xs ys
all_both-same p q same (x ∷ xs) (y ∷ ys) = ap (λ b. b && all_both p xs ys) (same x y) ∙ ap (λ b. q x y && b) (all_both-same p q same xs ys)
all_both-same p q same _ ys = refl

pub counts_are-permutation : (xs ys : List ℤ) → IsPermutation xs ys → (vs ns : List ℤ)
    → counts_are ys vs ns ≡ counts_are xs vs ns
counts_are-permutation xs ys moved vs ns =
    all_both-same (λ v n. count_of ys v =ℤ n) (λ v n. count_of xs v =ℤ n) (λ v n. ap (λ k. k =ℤ n) (sym (count_of-permutation xs ys moved v))) vs ns

pub counts_lie-permutation : (xs ys : List ℤ) → IsPermutation xs ys → (vs least most : List ℤ)
    → counts_lie ys vs least most ≡ counts_lie xs vs least most
counts_lie-permutation xs ys moved vs least most =
    search (rules, all_both-same, count_of-permutation)

pub closed-permutation : (vs ys : List ℤ) → IsPermutation vs ys → (xs : List ℤ)
    → is_closed xs ys ≡ is_closed xs vs
closed-permutation vs ys moved xs = grind (arith, common_steps, list_any-IsPermutation)
