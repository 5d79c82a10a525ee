-- The first index of a number in a list, by the keys of the list in order; and that one number
-- comes before another, by their first indices.
use Rattle.std.proofs.Common.{◌≡◌, ℕ, suc, zero, ◌+◌, ◌<◌, ◌≤◌, ℤ, pos, negsuc, ◌+ℤ◌, ◌-ℤ◌, ◌≤ℤ◌, ◌<ℤ◌, true, false, not, ◌&&◌, ◌||◌, inl, inr, if◌then◌else◌, List, [], ◌∷◌, ◌++◌, drop, length, get_or, int_lt, Option, option_map, Some, None, IfSome, IfNone, slice_get, Contains, refl, sym, ap, subst, ◌∙◌, arith, append_assoc}
use Rattle.std.specs.Ordering.{int_cmp, is_lt}
use Rattle.std.specs.Cmp.{int_cmp_total}
use Rattle.std.specs.List.Sorted.{IsSorted}
use Rattle.std.proofs.lemmas.Int.{ints}
use Rattle.std.proofs.lemmas.Bool.{cases_lt}
use Rattle.std.proofs.lemmas.Bool.Decides.{nat_tests}
use Rattle.std.proofs.lemmas.List.Sorted.{sorted_far, ranks_by, Contains-permutation, IsPermutation-sym}
use Rattle.std.proofs.lemmas.Option.{same_Some, slice_get_within, slice_get-get_or, get_or_from_slice_get}
use Rattle.std.proofs.lemmas.Grind.{common_steps}
use Rattle.fz_kernel.proofs.of_meaning.of_base.Numbers.{not_below}
use Rattle.fz_kernel.specs.of_meaning.Relations.{◌=ℤ◌, index_from, precedes}
use Rattle.fz_globals.specs.Keys.{key, keys_from, AreKeys, comes_before}
use Rattle.fz_globals.proofs.Compared.{is_other}
use Rattle.fz_kernel.proofs.Left.{next}

-- ---- numbers in order

pub rises : (xs : List ℤ) → IsSorted int_cmp xs → (i j : ℕ) → i ≤ j → j < length xs
    → get_or xs i (pos 0) ≤ℤ get_or xs j (pos 0)
rises xs sorted i j h g = not_below (get_or xs j (pos 0)) (get_or xs i (pos 0)) (sorted_far (λ x y. is_lt (int_cmp x y)) (ranks_by int_cmp_total (λ (x : ℤ). x)) xs sorted i j (pos 0) h g)

-- ---- keys

-- the keys so far, and those to come
pub one_more_key : (ks : List ℤ) (xs : List ℤ) (i : ℕ) (x : ℤ) → slice_get xs i ≡ Some x
    → ks ++ keys_from i (drop i xs) ≡ (ks ++ key x i ∷ []) ++ keys_from (i + 1) (drop (i + 1) xs)
one_more_key ks xs i x at = ap (λ l. ks ++ keys_from i l) (next xs i x at) ∙ sym (append_assoc ks (key x i ∷ []) (keys_from (i + 1) (drop (i + 1) xs)))

key_at : (xs : List ℤ) (n k j : ℕ) (x : ℤ) → j ≡ n + k → slice_get xs k ≡ Some x
    → slice_get (keys_from n xs) k ≡ Some (key x j)
key_at [] n k j x is at = cc
key_at (y ∷ ys) n zero j x is at = grind (arith, common_steps, same_Some)
key_at (y ∷ ys) n (suc k) j x is at = key_at ys (n + 1) k j x (omega arith) at

key_is : (xs : List ℤ) (n k : ℕ) (z : ℤ) → slice_get (keys_from n xs) k ≡ Some z
    → (x : ℤ) × (slice_get xs k ≡ Some x) × (z ≡ key x (n + k))
key_is [] n k z at = cc
key_is (y ∷ ys) n zero z at =
    let place : n ≡ n + 0 = omega arith in
    (y, refl, sym (same_Some (key y n) z at) ∙ ap (key y) place)
key_is (y ∷ ys) n (suc k) z at = grind (arith, common_steps, key_is ys (n + 1) k z at)

contained : (xs : List ℤ) (k : ℕ) (x : ℤ) → slice_get xs k ≡ Some x → Contains xs x
contained xs k x at = (k, slice_get_within xs k x at, get_or_from_slice_get xs k x x at)

container : (xs : List ℤ) (x : ℤ) → Contains xs x → (k : ℕ) × (slice_get xs k ≡ Some x)
container xs x c = (c.0, slice_get-get_or xs c.0 x c.1 ∙ ap Some c.2)

module _ (xs ks : List ℤ) (keys : AreKeys xs ks) where
  has_key : (k : ℕ) (x : ℤ) → slice_get xs k ≡ Some x → (j : ℕ) × (slice_get ks j ≡ Some (key x k))
  has_key k x at = container ks (key x k) (Contains-permutation (keys_from 0 xs) ks (key x k) keys.moved (contained (keys_from 0 xs) k (key x k) (key_at xs 0 k k x (omega arith) at)))

  of_key : (j : ℕ) (z : ℤ) → slice_get ks j ≡ Some z
      → (k : ℕ) × (x : ℤ) × (k < 18446744073709551616) × (slice_get xs k ≡ Some x) × (z ≡ key x k)
  of_key j z at =
      let there = container (keys_from 0 xs) z (Contains-permutation ks (keys_from 0 xs) z (IsPermutation-sym (keys_from 0 xs) ks keys.moved) (contained ks j z at)) in
      let one = key_is xs 0 there.0 z there.1 in
      let place : 0 + there.0 ≡ there.0 = omega arith in
      let inside : there.0 < length xs = slice_get_within xs there.0 one.0 one.1 in
      (there.0, one.0, omega (arith, keys.short), one.1, one.2 ∙ ap (key one.0) place)

-- ---- the first index

first_there : (o v : ℤ) (xs : List ℤ) (k : ℕ) → slice_get xs k ≡ Some v
    → ((q : ℕ) → q < k → slice_get xs q ≡ Some v → ⊥) → index_from o xs v ≡ Some (o +ℤ pos k)
first_there o v [] k at before = cc
first_there o v (x ∷ xs) zero at before = grind (arith, ints, nat_tests, same_Some)
first_there o v (x ∷ xs) (suc k) at before =
    let there : (o +ℤ pos 1) +ℤ pos k ≡ o +ℤ pos (suc k) = omega (arith, ints) in
    ap (λ b. if b then Some o else index_from (o +ℤ pos 1) xs v) (is_other x v (λ same. before 0 (omega arith) (ap Some same)))
    ∙ first_there (o +ℤ pos 1) v xs k at (λ q h e. before (suc q) (omega arith) e) ∙ ap Some there

nowhere : (o v : ℤ) (xs : List ℤ) → ((q : ℕ) → slice_get xs q ≡ Some v → ⊥)
    → index_from o xs v ≡ None
nowhere o v [] none = refl
nowhere o v (x ∷ xs) none =
    ap (λ b. if b then Some o else index_from (o +ℤ pos 1) xs v) (is_other x v (λ same. none 0 (ap Some same)))
    ∙ nowhere (o +ℤ pos 1) v xs (λ q e. none (suc q) e)

place_between : (v z : ℤ) (q : ℕ) → key v 0 ≤ℤ z → z ≤ℤ key v q → (p : ℕ) × (p ≤ q) × (z ≡ key v p)
place_between v z q low high = at (z -ℤ key v 0) refl
  where
    at : (d : ℤ) → z -ℤ key v 0 ≡ d → (p : ℕ) × (p ≤ q) × (z ≡ key v p)
    at (pos p) is = (p, omega (arith, ints), omega (arith, ints))
    at (negsuc p) is = absurd (omega (arith, ints))

-- where the keys from an index on, and only those, are those of the number or above
module _ (xs ks : List ℤ) (keys : AreKeys xs ks) (sorted : IsSorted int_cmp ks) (v : ℤ) (i : ℕ) (below : (k : ℕ) → k < i → get_or ks k (pos 0) <ℤ key v 0) where
  not_before : (q j : ℕ) → slice_get ks j ≡ Some (key v q) → i ≤ j
  not_before q j at =
      elim (cases_lt j i) [
        | inl h ↦
            let is : get_or ks j (pos 0) ≡ key v q = get_or_from_slice_get ks j (key v q) (pos 0) at in
            let low : get_or ks j (pos 0) <ℤ key v 0 = below j h in
            absurd (omega (arith, ints))
        | inr h ↦ h
      ]

  first_found : (z : ℤ) (p : ℕ) → i < length ks → get_or ks i (pos 0) ≡ z → p < 18446744073709551616
      → z ≡ key v p → Some (pos p) ≡ index_from (pos 0) xs v
  first_found z p inside at short is =
      let there = of_key xs ks keys i z (slice_get-get_or ks i (pos 0) inside ∙ ap Some at) in
      let k = there.0 in
      let x = there.1 in
      let least : k < 18446744073709551616 = there.2 in
      let equal : key x k ≡ key v p = sym there.4 ∙ is in
      let same : x ≡ v = omega (arith, ints) in
      let place : pos 0 +ℤ pos k ≡ pos p = omega (arith, ints) in
      sym (first_there (pos 0) v xs k (there.3 ∙ ap Some same) (λ q h e.
      let other = has_key xs ks keys q v e in
      let behind : i ≤ other.0 = not_before q other.0 other.1 in
      let above : get_or ks i (pos 0) ≤ℤ get_or ks other.0 (pos 0) = rises ks sorted i other.0 behind (slice_get_within ks other.0 (key v q) other.1) in
      let there_is : get_or ks other.0 (pos 0) ≡ key v q = get_or_from_slice_get ks other.0 (key v q) (pos 0) other.1 in
      absurd (omega (arith, ints))) ∙ ap Some place)

  none_found : (z : ℤ) → get_or ks i (pos 0) ≡ z → ((k : ℕ) → i ≤ k → k < length ks
      → key v 0 ≤ℤ get_or ks k (pos 0)) → ((p : ℕ) → p < 18446744073709551616 → z ≡ key v p → ⊥)
      → None ≡ index_from (pos 0) xs v
  none_found z at from none =
      sym (nowhere (pos 0) v xs (λ q e.
      let other = has_key xs ks keys q v e in
      let behind : i ≤ other.0 = not_before q other.0 other.1 in
      let within : other.0 < length ks = slice_get_within ks other.0 (key v q) other.1 in
      let above : get_or ks i (pos 0) ≤ℤ get_or ks other.0 (pos 0) = rises ks sorted i other.0 behind within in
      let there_is : get_or ks other.0 (pos 0) ≡ key v q = get_or_from_slice_get ks other.0 (key v q) (pos 0) other.1 in
      let here : key v 0 ≤ℤ get_or ks i (pos 0) = from i (omega arith) (omega arith) in
      let short : length xs < 18446744073709551616 = keys.short in
      let inside : q < length xs = slice_get_within xs q v e in
      let p = place_between v z q (subst (λ y. key v 0 ≤ℤ y) at here) (subst (λ y. y ≤ℤ key v q) at (subst (λ y. get_or ks i (pos 0) ≤ℤ y) there_is above)) in
      none p.0 (omega (arith, p.1)) p.2))

  pub first_told : (z : ℤ) (o : Option ℕ) → i < length ks → get_or ks i (pos 0) ≡ z
      → ((k : ℕ) → i ≤ k → k < length ks → key v 0 ≤ℤ get_or ks k (pos 0))
      → IfSome o (λ p. z ≡ key v p) → IfSome o (λ p. p < 18446744073709551616) → IfNone o ((p : ℕ) → p < 18446744073709551616 → z ≡ key v p → ⊥) → option_map pos o ≡ index_from (pos 0) xs v
  first_told z (Some p) inside at from is short none = first_found z p inside at short is
  first_told z None inside at from is short none = none_found z at from none

  pub none_behind : length ks ≤ i → None ≡ index_from (pos 0) xs v
  none_behind end =
      sym (nowhere (pos 0) v xs (λ q e.
      let other = has_key xs ks keys q v e in
      let behind : i ≤ other.0 = not_before q other.0 other.1 in
      let within : other.0 < length ks = slice_get_within ks other.0 (key v q) other.1 in
      omega arith))

-- ---- before one another

not_earlier : (o n : ℤ) (xs : List ℤ) (i : ℤ) → index_from o xs n ≡ Some i → o ≤ℤ i
not_earlier o n [] i e = cc
not_earlier o n (x ∷ xs) i e =
    elim (x =ℤ n) as (λ b. (if b then Some o else index_from (o +ℤ pos 1) xs n) ≡ Some i → o ≤ℤ i) [
      | true ↦ λ here.
          let same : o ≡ i = same_Some o i here in
          omega (arith, ints)
      | false ↦ λ later.
          let above : (o +ℤ pos 1) ≤ℤ i = not_earlier (o +ℤ pos 1) n xs i later in
          omega (arith, ints)
    ] e

later_than : (o i : ℤ) → (o +ℤ pos 1) ≤ℤ i → int_lt o i ≡ true
later_than o i h = grind (arith, ints)

not_sooner : (o i : ℤ) → o ≤ℤ i → int_lt i o ≡ false
not_sooner o i h = grind (arith, ints)

-- one number comes before another as their first indices do
pub precedes_is : (o s t : ℤ) (xs : List ℤ)
    → precedes s t xs ≡ comes_before (index_from o xs s) (index_from o xs t)
precedes_is o s t [] = refl
precedes_is o s t (x ∷ xs) =
    elim (x =ℤ t) as (λ b. (not b && ((x =ℤ s) || precedes s t xs)) ≡ comes_before (index_from o (x ∷ xs) s) (if b then Some o else index_from (o +ℤ pos 1) xs t)) [
      | true ↦ second_is (index_from o (x ∷ xs) s) (not_earlier o s (x ∷ xs))
      | false ↦
          elim (x =ℤ s) as (λ b. (b || precedes s t xs) ≡ comes_before (if b then Some o else index_from (o +ℤ pos 1) xs s) (index_from (o +ℤ pos 1) xs t)) [
            | true ↦ first_is (index_from (o +ℤ pos 1) xs t) (not_earlier (o +ℤ pos 1) t xs)
            | false ↦ precedes_is (o +ℤ pos 1) s t xs
          ]
    ]
  where
    second_is : (p : Option ℤ) → ((i : ℤ) → p ≡ Some i → o ≤ℤ i) → false ≡ comes_before p (Some o)
    second_is None h = refl
    second_is (Some i) h = sym (not_sooner o i (h i refl))

    first_is : (p : Option ℤ) → ((i : ℤ) → p ≡ Some i → (o +ℤ pos 1) ≤ℤ i)
        → true ≡ comes_before (Some o) p
    first_is None h = refl
    first_is (Some i) h = sym (later_than o i (h i refl))
