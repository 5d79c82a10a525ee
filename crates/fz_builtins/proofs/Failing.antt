-- An element, or two, with which a test of a whole list fails.
use Rattle.std.proofs.Common.{◌≡◌, ℕ, zero, suc, ◌<◌, ℤ, pos, ◌+ℤ◌, Bool, true, false, ◌&&◌, ◌||◌, List, [], ◌∷◌, Option, None, Some, slice_get, refl, sym, ap, ◌∙◌, true≢false, arith, not, cond}
use Rattle.std.specs.List.{list_all, zip, filter}
use Rattle.std.specs.Option.{option_map_or}
use Rattle.std.proofs.lemmas.Int.{ints}
use Rattle.std.proofs.lemmas.Option.{none-some, same_Some}
use Rattle.fz_globals.proofs.of_meaning.of_base.Covers.{and-false}
use Rattle.fz_globals.specs.of_meaning.Relations.{all_both, all_neighbours, all_pairs, ◌=ℤ◌, all_different, is_among, precedes}
use Rattle.std.proofs.lemmas.Bool.{false_from_ne_true}
use Rattle.fz_globals.proofs.Led.{one_place}
use Rattle.fz_globals.proofs.of_meaning.Values.{int_itself}

module _ {A : Type 0} (p : A → Bool) where
  pub one_fails : (xs : List A) (i : ℕ) (x : A) → slice_get xs i ≡ Some x → p x ≡ false
      → list_all p xs ≡ false
  one_fails [] i x at e = absurd (none-some x at)
  one_fails (y ∷ ys) zero x at e = ap (λ b. b && list_all p ys) (ap p (same_Some y x at) ∙ e)
  one_fails (y ∷ ys) (suc i) x at e = ap (λ b. p y && b) (one_fails ys i x at e) ∙ and-false (p y)

-- the one element of a list
pub alone_is : {A : Type 0} (i : ℕ) (x v : A) → slice_get (x ∷ []) i ≡ Some v → x ≡ v
alone_is zero x v at = same_Some x v at
alone_is (suc i) x v at = absurd (none-some v at)

-- a test of each element with its index fails where one element fails it
module _ {A : Type 0} (p : ℤ → A → Bool) (each : ℤ → List A → Bool) (one : (o : ℤ) (x : A) (xs : List A) → each o (x ∷ xs) ≡ (p o x && each (o +ℤ pos 1) xs)) where
  pub indexed_fails : (o : ℤ) (xs : List A) (k : ℕ) (x : A) → slice_get xs k ≡ Some x
      → p (o +ℤ pos k) x ≡ false → each o xs ≡ false
  indexed_fails o [] k x at e = absurd (none-some x at)
  indexed_fails o (y ∷ ys) zero x at e =
      let here : (o +ℤ pos 0) ≡ o = omega (arith, ints) in
      one o y ys ∙ ap (λ b. b && each (o +ℤ pos 1) ys) ((λ i. p (sym here i) (same_Some y x at i)) ∙ e)
  indexed_fails o (y ∷ ys) (suc k) x at e =
      let next : (o +ℤ pos (suc k)) ≡ ((o +ℤ pos 1) +ℤ pos k) = omega (arith, ints) in
      one o y ys ∙ ap (λ b. p o y && b) (indexed_fails (o +ℤ pos 1) ys k x at (ap (λ n. p n x) (sym next) ∙ e))
      ∙ and-false (p o y)

-- what passes a test is there
pub passing : {A : Type 0} (p : A → Bool) (o : Option A) → option_map_or p o false ≡ true
    → (x : A) × (o ≡ Some x) × (p x ≡ true)
passing p None e = absurd (true≢false (sym e))
passing p (Some x) e = (x, refl, e)

module _ {A : Type 0} (p : A → A → Bool) where
  pub neighbours_fail : (xs : List A) (i : ℕ) (x y : A) → slice_get xs i ≡ Some x
      → slice_get xs (suc i) ≡ Some y → p x y ≡ false → all_neighbours p xs ≡ false
  neighbours_fail [] i x y at next e = absurd (none-some x at)
  neighbours_fail (a ∷ []) i x y at next e = absurd (none-some y next)
  neighbours_fail (a ∷ b ∷ xs) zero x y at next e =
      ap (λ s. s && all_neighbours p (b ∷ xs)) (ap (λ c. p c b) (same_Some a x at) ∙ ap (p x) (same_Some b y next) ∙ e)
  neighbours_fail (a ∷ b ∷ xs) (suc i) x y at next e =
      ap (λ s. p a b && s) (neighbours_fail (b ∷ xs) i x y at next e) ∙ and-false (p a b)

  pub pair_fails : (xs : List A) (i j : ℕ) (x y : A) → i < j → slice_get xs i ≡ Some x
      → slice_get xs j ≡ Some y → p x y ≡ false → all_pairs p xs ≡ false
  pair_fails [] i j x y before at then e = absurd (none-some x at)
  pair_fails (a ∷ as') i zero x y before at then e = absurd (omega arith)
  pair_fails (a ∷ as') zero (suc j) x y before at then e =
      ap (λ s. s && all_pairs p as') (one_fails (p a) as' j y then (ap (λ c. p c y) (same_Some a x at) ∙ e))
  pair_fails (a ∷ as') (suc i) (suc j) x y before at then e =
      ap (λ s. list_all (p a) as' && s) (pair_fails as' i j x y (omega arith) at then e) ∙ and-false (list_all (p a) as')

pub both_fail : {A B : Type 0} (p : A → B → Bool) (xs : List A) (ys : List B) (i : ℕ) (x : A) (y : B)
    → slice_get xs i ≡ Some x → slice_get ys i ≡ Some y → p x y ≡ false → all_both p xs ys ≡ false
both_fail p [] ys i x y at also e = absurd (none-some x at)
both_fail p (a ∷ as') [] i x y at also e = absurd (none-some y also)
both_fail p (a ∷ as') (b ∷ bs) zero x y at also e =
    ap (λ s. s && all_both p as' bs) (ap (λ c. p c b) (same_Some a x at) ∙ ap (p x) (same_Some b y also) ∙ e)
both_fail p (a ∷ as') (b ∷ bs) (suc i) x y at also e =
    ap (λ s. p a b && s) (both_fail p as' bs i x y at also e) ∙ and-false (p a b)

pub zipped : {A B : Type 0} (xs : List A) (ys : List B) (i : ℕ) (x : A) (y : B) → slice_get xs i ≡ Some x
    → slice_get ys i ≡ Some y → slice_get (zip xs ys) i ≡ Some (x, y)
zipped [] ys i x y at also = absurd (none-some x at)
zipped (a ∷ as') [] i x y at also = absurd (none-some y also)
zipped (a ∷ as') (b ∷ bs) zero x y at also =
    ap Some (λ k. (same_Some a x at k, same_Some b y also k))
zipped (a ∷ as') (b ∷ bs) (suc i) x y at also = zipped as' bs i x y at also

pub clash : (xs : List ℤ) (i j : ℕ) (v : ℤ) → i < j → slice_get xs i ≡ Some v
    → slice_get xs j ≡ Some v → all_different xs ≡ false
clash xs i j v before at then =
    false_from_ne_true (all_different xs) (λ e. let same : i ≡ j = one_place xs i j v e at then in omega arith)

module _ (p : ℤ → Bool) (v : ℤ) (kept : p v ≡ true) where
  still_listed : (xs : List ℤ) (i : ℕ) → slice_get xs i ≡ Some v → is_among v (filter p xs) ≡ true
  still_listed [] i at = absurd (none-some v at)
  still_listed (x ∷ xs) zero at =
      let is : x ≡ v = same_Some x v at in
      let here : p x ≡ true = ap p is ∙ kept in
      ap (λ b. is_among v (cond b (x ∷ filter p xs) (filter p xs))) here ∙ ap (λ y. (y =ℤ v) || is_among v (filter p xs)) is ∙ ap (λ b. b || is_among v (filter p xs)) (int_itself v)
  still_listed (x ∷ xs) (suc i) at =
      elim (p x) as (λ b. is_among v (cond b (x ∷ filter p xs) (filter p xs)) ≡ true) [
        | true ↦ elim (x =ℤ v) as (λ b. (b || is_among v (filter p xs)) ≡ true) [ true ↦ refl | false ↦ still_listed xs i at ]
        | false ↦ still_listed xs i at
      ]

  pub clash_of_kept : (xs : List ℤ) (i j : ℕ) → i < j → slice_get xs i ≡ Some v
      → slice_get xs j ≡ Some v → all_different (filter p xs) ≡ false
  clash_of_kept [] i j before at then = absurd (none-some v at)
  clash_of_kept (x ∷ xs) i zero before at then = absurd (omega arith)
  clash_of_kept (x ∷ xs) zero (suc j) before at then =
      let is : x ≡ v = same_Some x v at in
      let here : p x ≡ true = ap p is ∙ kept in
      ap (λ b. all_different (cond b (x ∷ filter p xs) (filter p xs))) here
      ∙ ap (λ b. not b && all_different (filter p xs)) (ap (λ y. is_among y (filter p xs)) is ∙ still_listed xs j then)
  clash_of_kept (x ∷ xs) (suc i) (suc j) before at then =
      let rest : all_different (filter p xs) ≡ false = clash_of_kept xs i j (omega arith) at then in
      elim (p x) as (λ b. all_different (cond b (x ∷ filter p xs) (filter p xs)) ≡ false) [
        | true ↦ ap (λ b. not (is_among x (filter p xs)) && b) rest ∙ and-false (not (is_among x (filter p xs)))
        | false ↦ rest
      ]

-- the second value comes, and the first not before it
pub comes_too_early : (s t : ℤ) (xs : List ℤ) (i : ℕ)
    → ((j : ℕ) → j < i → (x : ℤ) → slice_get xs j ≡ Some x → (x =ℤ s) ≡ false)
    → slice_get xs i ≡ Some t → precedes s t xs ≡ false
comes_too_early s t [] i before at = absurd (none-some t at)
comes_too_early s t (x ∷ xs) zero before at =
    ap (λ b. not b && ((x =ℤ s) || precedes s t xs)) (ap (λ y. y =ℤ t) (same_Some x t at) ∙ int_itself t)
comes_too_early s t (x ∷ xs) (suc i) before at =
    let rest : precedes s t xs ≡ false = comes_too_early s t xs i (λ j l y d. before (suc j) (omega arith) y d) at in
    (λ j. not (x =ℤ t) && (before zero (omega arith) x refl j || rest j)) ∙ and-false (not (x =ℤ t))
