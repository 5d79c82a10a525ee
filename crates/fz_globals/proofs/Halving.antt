-- What binary search finds among numbers in order.
use Rattle.std.proofs.Common.{◌≡◌, ℕ, suc, zero, ◌+◌, ◌<◌, ◌≤◌, ℤ, ◌≤ℤ◌, int_lt, int_le, Bool, true, false, ◌⊎◌, inl, inr, List, [], ◌∷◌, length, filter, get_or, Result, Ok, Err, is_ok, IsSorted, int_cmp, is_eq, is_lt, sym, ap, ◌∙◌, refl, arith}
use Rattle.std.specs.Cmp.{int_cmp_total}
use Rattle.std.specs.List.Sorted.{IsPartitionedBy, IsPartitionPoint, IsBinarySearchResult, IsSearchInRange}
use Rattle.std.proofs.lemmas.Int.{ints}
use Rattle.std.proofs.lemmas.Bool.{cases_lt}
use Rattle.std.proofs.lemmas.List.Folds.{list_any_at, list_any_none}
use Rattle.std.proofs.lemmas.List.Sorted.{sorted_far, ranks_by, searchable_from_sorted}
use Rattle.std.proofs.lemmas.Grind.{common_steps}
use Rattle.fz_kernel.proofs.of_meaning.of_base.Numbers.{not_below}
use Rattle.fz_kernel.specs.of_meaning.Relations.{◌=ℤ◌, is_among}
use Rattle.fz_globals.proofs.Each.{filter_yes, filter_no}

-- each number is at most the later ones
abbrev pub Ascends : List ℤ → Type 0
Ascends xs = (i j : ℕ) (d : ℤ) → i ≤ j → j < length xs → get_or xs i d ≤ℤ get_or xs j d

pub ascends : (xs : List ℤ) → IsSorted int_cmp xs → Ascends xs
ascends xs sorted i j d before inside =
    not_below (get_or xs j d) (get_or xs i d) (sorted_far (λ a b. is_lt (int_cmp a b)) (ranks_by int_cmp_total (λ a. a)) xs sorted i j d before inside)

-- ---- an index that parts the numbers

less_below : (a b v : ℤ) → a ≤ℤ b → int_lt b v ≡ true → int_lt a v ≡ true
less_below a b v up e = grind (arith, ints)

at_most_below : (a b v : ℤ) → a ≤ℤ b → int_le b v ≡ true → int_le a v ≡ true
at_most_below a b v up e = grind (arith, ints)

pub parted_below : (xs : List ℤ) (v : ℤ) → IsSorted int_cmp xs
    → IsPartitionedBy (λ y. int_lt y v) xs
parted_below xs v sorted i j d before inside low = less_below (get_or xs i d) (get_or xs j d) v (ascends xs sorted i j d before inside) low

pub parted_up_to : (xs : List ℤ) (v : ℤ) → IsSorted int_cmp xs
    → IsPartitionedBy (λ y. int_le y v) xs
parted_up_to xs v sorted i j d before inside low = at_most_below (get_or xs i d) (get_or xs j d) v (ascends xs sorted i j d before inside) low

-- so many pass
pub point_counts : {A : Type 0} (p : A → Bool) (xs : List A) (i : ℕ) → i ≤ length xs
    → IsPartitionPoint (λ y. p y ≡ true) (λ y. p y ≡ false) xs i → i ≡ length (filter p xs)
point_counts p [] i inside point = omega arith
point_counts p (x ∷ xs) zero inside point =
    point_counts p xs zero (omega arith) ((λ k d l m. absurd (omega arith)), (λ k d l m. point.1 (suc k) d (omega arith) (omega arith)))
    ∙ sym (filter_no p x xs (point.1 zero x (omega arith) (omega arith)))
point_counts p (x ∷ xs) (suc i) inside point =
    ap suc (point_counts p xs i (omega arith) ((λ k d l m. point.0 (suc k) d (omega arith) (omega arith)), (λ k d l m. point.1 (suc k) d (omega arith) (omega arith))))
    ∙ sym (filter_yes p x xs (point.0 zero x (omega arith) (omega arith)))

three_cases : (x v : ℤ) → ((int_lt x v ≡ true) × ((x =ℤ v) ≡ false) × (int_le x v ≡ true))
    ⊎ (((int_lt x v ≡ false) × ((x =ℤ v) ≡ true) × (int_le x v ≡ true))
    ⊎ ((int_lt x v ≡ false) × ((x =ℤ v) ≡ false) × (int_le x v ≡ false)))
three_cases x v = grind (arith, ints)

-- those up to a number are those below it and those that are it
pub parts_add : (xs : List ℤ) (v : ℤ) → length (filter (λ x. int_lt x v) xs) + length
    (filter (λ x. x =ℤ v) xs) ≡ length (filter (λ x. int_le x v) xs)
parts_add [] v = refl
parts_add (x ∷ xs) v =
    grind (arith, common_steps, int_lt, three_cases, filter_yes, filter_no, parts_add xs v)

-- ---- a number that is looked for

pub searched_is : (xs : List ℤ) (v : ℤ) (r : Result ℕ ℕ) → IsSorted int_cmp xs
    → IsSearchInRange r (length xs) → IsBinarySearchResult (λ y. int_cmp y v) xs r
    → is_ok r ≡ is_among v xs
searched_is xs v (Ok i) sorted inside found = sym (list_any_at (λ y. y =ℤ v) xs i v inside (ap is_eq (found v)))
searched_is xs v (Err i) sorted inside found =
    let point = found (searchable_from_sorted int_cmp_total (λ y. y) xs v sorted) in
    sym (list_any_none (λ y. y =ℤ v) xs (λ k d h. elim (cases_lt k i) [ inl l ↦ ap is_eq (point.0 k d (omega arith) l) | inr l ↦ ap is_eq (point.1 k d l h) ]))
