-- Elements of a list, in its order, differ where all its elements do; and they have as many values as
-- it has, or less.
use Rattle.std.proofs.Common.{◌≡◌, ℕ, suc, ◌+◌, ◌≤◌, ℤ, pos, ◌+ℤ◌, ◌-ℤ◌, int_le, Bool, true, false, not, ◌&&◌, ◌||◌, List, [], ◌∷◌, ◌++◌, if◌then◌else◌, inl, inr, drop, length, Some, slice_get, refl, sym, ap, subst, ◌∙◌, int_cmp, arith}
use Rattle.std.proofs.lemmas.Bool.{false_from_ne_true, not_from_false, or_left, or_right, true≢false}
use Rattle.std.proofs.lemmas.Int.{clamps, ints}
use Rattle.std.proofs.lemmas.List.{append_assoc, append-nil}
use Rattle.std.specs.Cmp.{int_cmp_total}
use Rattle.std.specs.Int.{int_max, int_min}
use Rattle.std.specs.List.{list_all}
use Rattle.std.specs.FinSet.{from_list, len, len-insert, len-empty}
use Rattle.fz_model.specs.Relations.{◌=ℤ◌, all_different, is_among, values_of}
use Rattle.fz_model.proofs.Values.{and_both, and_first, and_second, int_itself, no, no', same_int}
use Rattle.fz_model.proofs.of_builtins.of_kernel.Left.{next}
use Rattle.fz_model.proofs.of_builtins.of_globals.Valued.{in_listed}
use Rattle.fz_bounds.specs.Picked.{IsPicked}
use Rattle.fz_bounds.proofs.Distinct.{no_more}
use Rattle.fz_bounds.proofs.Circuits.{each_passes}

pub skipped : (vs xs : List ℤ) (x : ℤ) → IsPicked vs xs → IsPicked vs (x ∷ xs)
skipped [] xs x p = tt
skipped (v ∷ vs) xs x p = inr p

picked_among : (a : ℤ) (vs xs : List ℤ) → IsPicked vs xs → is_among a vs ≡ true
    → is_among a xs ≡ true
picked_among a [] xs p h = no h
picked_among a (v ∷ vs) [] p h = absurd p
picked_among a (v ∷ vs) (x ∷ xs) (inr p) h = or_right (x =ℤ a) _ (picked_among a (v ∷ vs) xs p h)
picked_among a (v ∷ vs) (x ∷ xs) (inl (same, p)) h =
    (elim (v =ℤ a) as (λ b. (v =ℤ a) ≡ b → (b || is_among a vs) ≡ true → ((x =ℤ a) || is_among a xs) ≡ true) [
      | true ↦ λ e _. or_left (x =ℤ a) _ (ap (λ y. y =ℤ a) (sym same) ∙ e)
      | false ↦ λ _ h. or_right (x =ℤ a) _ (picked_among a vs xs p h)
    ]) refl h

pub is_not : (b : Bool) → not b ≡ true → b ≡ false
is_not true e = no e
is_not false e = refl

picked_differ : (vs xs : List ℤ) → IsPicked vs xs → all_different xs ≡ true
    → all_different vs ≡ true
picked_differ [] xs p d = refl
picked_differ (v ∷ vs) [] p d = absurd p
picked_differ (v ∷ vs) (x ∷ xs) (inr p) d = picked_differ (v ∷ vs) xs p (and_second (not (is_among x xs)) _ d)
picked_differ (v ∷ vs) (x ∷ xs) (inl (same, p)) d =
    let none : is_among v xs ≡ false = ap (λ y. is_among y xs) same ∙ is_not (is_among x xs) (and_first (not (is_among x xs)) _ d) in
    let none' : is_among v vs ≡ false = false_from_ne_true _ (λ h. true≢false (sym (picked_among v vs xs p h) ∙ none)) in
    and_both (not (is_among v vs)) _ (not_from_false _ none') (picked_differ vs xs p (and_second (not (is_among x xs)) _ d))

pub picked_clash : (vs xs : List ℤ) → IsPicked vs xs → all_different vs ≡ false
    → all_different xs ≡ false
picked_clash vs xs p e = false_from_ne_true _ (λ d. true≢false (sym (picked_differ vs xs p d) ∙ e))

-- ---- picked so far, whatever more comes behind

abbrev pub IsPickedSoFar : List ℤ → ℕ → List ℤ → Type 0
IsPickedSoFar vs i xs = (more : List ℤ) → IsPicked more (drop i xs) → IsPicked (vs ++ more) xs

module _ (vs xs : List ℤ) (i : ℕ) (x : ℤ) (at : slice_get xs i ≡ Some x) (so_far : IsPickedSoFar vs i xs) where
  pub not_picked : IsPickedSoFar vs (i + 1) xs
  not_picked more p =
      so_far more (subst (IsPicked more) (sym (next xs i x at)) (skipped more (drop (i + 1) xs) x p))

  pub picked_too : IsPickedSoFar (vs ++ x ∷ []) (i + 1) xs
  picked_too more p =
      subst (λ l. IsPicked l xs) (sym (append_assoc vs (x ∷ []) more))
      (so_far (x ∷ more) (subst (IsPicked (x ∷ more)) (sym (next xs i x at)) (inl (refl, p))))

pub all_picked : (vs xs : List ℤ) (i : ℕ) → IsPickedSoFar vs i xs → IsPicked vs xs
all_picked vs xs i so_far = subst (λ l. IsPicked l xs) (append-nil vs) (so_far [] tt)

-- ---- values

values_among : (a : ℤ) (xs : List ℤ) → is_among a (values_of xs) ≡ true → is_among a xs ≡ true
values_among a [] h = no h
values_among a (x ∷ xs) h =
    elim (is_among x xs) as (λ b. is_among a (if b then values_of xs else x ∷ values_of xs) ≡ true → ((x =ℤ a) || is_among a xs) ≡ true) [
      | true ↦ λ h. or_right (x =ℤ a) _ (values_among a xs h)
      | false ↦ λ h. elim (x =ℤ a) as (λ b. (b || is_among a (values_of xs)) ≡ true → (b || is_among a xs) ≡ true) [
        | true ↦ λ _. refl
        | false ↦ λ h. values_among a xs h
      ] h
    ] h

among_values : (a : ℤ) (xs : List ℤ) → is_among a xs ≡ true → is_among a (values_of xs) ≡ true
among_values a [] h = no h
among_values a (x ∷ xs) h =
    (elim (is_among x xs) as (λ b. is_among x xs ≡ b → is_among a (if b then values_of xs else x ∷ values_of xs) ≡ true) [
      | true ↦ λ e. among_values a xs (later e h)
      | false ↦ λ _. elim (x =ℤ a) as (λ b. (b || is_among a xs) ≡ true → (b || is_among a (values_of xs)) ≡ true) [
        | true ↦ λ _. refl
        | false ↦ λ h. among_values a xs h
      ] h
    ]) refl
  where
    later : is_among x xs ≡ true → ((x =ℤ a) || is_among a xs) ≡ true → is_among a xs ≡ true
    later e h = (elim (x =ℤ a) as (λ b. (x =ℤ a) ≡ b → (b || is_among a xs) ≡ true → is_among a xs ≡ true) [
      | true ↦ λ same _. ap (λ z. is_among z xs) (sym (same_int x a same)) ∙ e
      | false ↦ λ _ h. h
    ]) refl h

values_differ : (xs : List ℤ) → all_different (values_of xs) ≡ true
values_differ [] = refl
values_differ (x ∷ xs) =
    (elim (is_among x xs) as (λ b. is_among x xs ≡ b → all_different (if b then values_of xs else x ∷ values_of xs) ≡ true) [
      | true ↦ λ _. values_differ xs
      | false ↦ λ e. and_both (not (is_among x (values_of xs))) _ (not_from_false _ (false_from_ne_true _ (λ h. true≢false (sym (values_among x xs h) ∙ e)))) (values_differ xs)
    ]) refl

values_at_least : (vs xs : List ℤ) → IsPicked vs xs → length (values_of vs) ≤ length (values_of xs)
values_at_least vs xs p =
    no_more (values_of vs) (values_of xs) (values_differ vs) (each_passes (λ y. is_among y (values_of xs)) (values_of vs) (λ y h. among_values y xs (picked_among y vs xs p (values_among y vs h))))

-- one number more has one value more, or none
module _ (x : ℤ) (xs : List ℤ) where
  at_most_one : length (values_of (x ∷ xs)) ≤ suc (length (values_of xs))
  at_most_one = elim (is_among x xs) as (λ b. length (if b then values_of xs else x ∷ values_of xs) ≤ suc (length (values_of xs))) [ true ↦ omega arith | false ↦ omega arith ]

  none_more : is_among x xs ≡ true → length (values_of (x ∷ xs)) ≡ length (values_of xs)
  none_more e = ap (λ b. length (if b then values_of xs else x ∷ values_of xs)) e

  one_more : is_among x xs ≡ false → length (values_of (x ∷ xs)) ≡ suc (length (values_of xs))
  one_more e = ap (λ b. length (if b then values_of xs else x ∷ values_of xs)) e

few_values : (xs : List ℤ) → length (values_of xs) ≤ length xs
few_values [] = omega arith
few_values (x ∷ xs) = let rest = few_values xs in let more = at_most_one x xs in omega arith

one_picked : (v : ℤ) (vs : List ℤ) (x : ℤ) (xs : List ℤ) → v ≡ x → IsPicked vs xs
    → length (values_of xs) + length vs ≤ length (values_of vs) + length xs
    → length (values_of (x ∷ xs)) + suc (length vs) ≤ length (values_of (v ∷ vs)) + suc (length xs)
one_picked v vs x xs same p rest =
    (elim (is_among v vs) as (λ b. is_among v vs ≡ b → length (values_of (x ∷ xs)) + suc (length vs) ≤ length (values_of (v ∷ vs)) + suc (length xs)) [
      | true ↦ λ e.
          let again : is_among x xs ≡ true = ap (λ y. is_among y xs) (sym same) ∙ picked_among v vs xs p e in
          let here = none_more x xs again in
          let there = none_more v vs e in
          omega arith
      | false ↦ λ e.
          let more = at_most_one x xs in
          let there = one_more v vs e in
          omega arith
    ]) refl

values_at_most : (vs xs : List ℤ) → IsPicked vs xs
    → length (values_of xs) + length vs ≤ length (values_of vs) + length xs
values_at_most [] xs p = let few = few_values xs in omega arith
values_at_most (v ∷ vs) [] p = absurd p
values_at_most (v ∷ vs) (x ∷ xs) (inr p) =
    let rest = values_at_most (v ∷ vs) xs p in
    let more = at_most_one x xs in
    omega arith
values_at_most (v ∷ vs) (x ∷ xs) (inl (same, p)) = one_picked v vs x xs same p (values_at_most vs xs p)

-- as many as the set of the numbers has
as_many : (xs : List ℤ) → length (values_of xs) ≡ len (from_list {R = int_cmp} xs)
as_many [] = sym (len-empty int_cmp)
as_many (x ∷ xs) =
    one (is_among x xs) (as_many xs) ∙ ap (λ b. if b then len (from_list {R = int_cmp} xs) else (len (from_list {R = int_cmp} xs) + 1)) (sym (in_listed x xs))
    ∙ sym (len-insert int_cmp_total (from_list {R = int_cmp} xs) x)
  where
    one : {n : ℕ} (b : Bool) → length (values_of xs) ≡ n
        → length (if b then values_of xs else x ∷ values_of xs) ≡ (if b then n else (n + 1))
    one true e = e
    one false e = omega arith

pub values_lie : (vs xs : List ℤ) (n : ℕ) → IsPicked vs xs → n ≡ len (from_list {R = int_cmp} vs)
    → (n ≤ length (values_of xs)) × (length (values_of xs) + length vs ≤ n + length xs)
values_lie vs xs n p is =
    let same : n ≡ length (values_of vs) = is ∙ sym (as_many vs) in
    let least = values_at_least vs xs p in
    let most = values_at_most vs xs p in
    (omega arith, omega arith)

-- so they lie between the two
pub values_above : (n all' some v : ℕ) → n ≤ v
    → int_le (int_min (pos n) (pos n +ℤ (pos all' -ℤ pos some))) (pos v) ≡ true
values_above n all' some v h = grind (arith, ints, clamps)

pub values_below : (n all' some v : ℕ) → v + some ≤ n + all'
    → int_le (pos v) (int_max (pos n) (pos n +ℤ (pos all' -ℤ pos some))) ≡ true
values_below n all' some v h = grind (arith, ints, clamps)
