-- A test of one index after another, and of the elements of a list.
use Rattle.std.proofs.Common.{◌≡◌, ℕ, zero, suc, ◌+◌, ◌-◌, ◌<◌, ◌≤◌, min, ℤ, pos, ◌+ℤ◌, Bool, true, false, not, ◌&&◌, ◌||◌, List, [], ◌∷◌, drop, length, get_or, Some, slice_get, refl, sym, ap, ap₂, ◌∙◌, arith}
use Rattle.std.specs.List.{list_all, list_any}
use Rattle.std.proofs.lemmas.Int.{ints}
use Rattle.std.proofs.lemmas.List.{drop_all, drop_more, length-drop}
use Rattle.std.proofs.lemmas.Option.{get_or_from_slice_get}
use Rattle.fz_store.specs.of_meaning.Relations.{all_both, all_neighbours, all_pairs, is_same_list}
use Rattle.fz_kernel.specs.Indices.{all_from, all_pairs_from, any_from}

-- ---- a loop

module _ (test : ℕ → Bool) (i end : ℕ) where
  one : i < end → all_from test i (end - i) ≡ (test i && all_from test (i + 1) (end - (i + 1)))
  one inside = let more : end - i ≡ suc (end - (i + 1)) = omega arith in ap (all_from test i) more

  pub fails : i < end → test i ≡ false → all_from test i (end - i) ≡ false
  fails inside e = one inside ∙ ap (λ b. b && all_from test (i + 1) (end - (i + 1))) e

  pub passes : i < end → test i ≡ true
      → all_from test i (end - i) ≡ all_from test (i + 1) (end - (i + 1))
  passes inside e = one inside ∙ ap (λ b. b && all_from test (i + 1) (end - (i + 1))) e

  pub ends : end ≤ i → all_from test i (end - i) ≡ true
  ends past = let none : end - i ≡ 0 = omega arith in ap (all_from test i) none

-- ---- a loop over pairs

module _ (test : ℕ → ℕ → Bool) (i end : ℕ) (inside : i < end) where
  each_later : all_pairs_from test i (end - i)
      ≡ (all_from (test i) (i + 1) (end - (i + 1)) && all_pairs_from test (i + 1) (end - (i + 1)))
  each_later = let more : end - i ≡ suc (end - (i + 1)) = omega arith in ap (all_pairs_from test i) more

  pub pair_fails : all_from (test i) (i + 1) (end - (i + 1)) ≡ false
      → all_pairs_from test i (end - i) ≡ false
  pair_fails e = each_later ∙ ap (λ b. b && all_pairs_from test (i + 1) (end - (i + 1))) e

  pub pairs_pass : all_from (test i) (i + 1) (end - (i + 1)) ≡ true
      → all_pairs_from test i (end - i) ≡ all_pairs_from test (i + 1) (end - (i + 1))
  pairs_pass e = each_later ∙ ap (λ b. b && all_pairs_from test (i + 1) (end - (i + 1))) e

-- ---- a list, whose elements are read by their indices

module _ {A : Type 0} (xs : List A) (at : ℕ → A) (next : (k : ℕ) → k < length xs → drop k xs ≡ at k ∷ drop (k + 1) xs) where
  -- each is tested with its index, counted from o
  each_from : (test : ℤ → A → Bool) (left : ℤ → List A → Bool) → ((o : ℤ) → left o [] ≡ true)
      → ((o : ℤ) (y : A) (ys : List A) → left o (y ∷ ys) ≡ (test o y && left (o +ℤ pos 1) ys))
      → (o : ℤ) (i n : ℕ) → n ≡ length xs - i
      → all_from (λ k. test (o +ℤ pos k) (at k)) i n ≡ left (o +ℤ pos i) (drop i xs)
  each_from test left none one o i zero is = sym (ap (left (o +ℤ pos i)) (drop_all i xs (omega arith)) ∙ none (o +ℤ pos i))
  each_from test left none one o i (suc n) is =
      let on : o +ℤ pos (i + 1) ≡ (o +ℤ pos i) +ℤ pos 1 = omega (arith, ints) in
      ap (λ b. test (o +ℤ pos i) (at i) && b) (each_from test left none one o (i + 1) n (omega arith) ∙ ap (λ j. left j (drop (i + 1) xs)) on)
      ∙ sym (ap (left (o +ℤ pos i)) (next i (omega arith)) ∙ one (o +ℤ pos i) (at i) (drop (i + 1) xs))

  pub all_of : (p : A → Bool) (i n : ℕ) → n ≡ length xs - i
      → all_from (λ k. p (at k)) i n ≡ list_all p (drop i xs)
  all_of p i n is = each_from (λ _. p) (λ _. list_all p) (λ _. refl) (λ _ y ys. refl) (pos 0) i n is

  pub all_pairs_of : (p : A → A → Bool) (i n : ℕ) → n ≡ length xs - i
      → all_pairs_from (λ j k. p (at j) (at k)) i n ≡ all_pairs p (drop i xs)
  all_pairs_of p i zero is = sym (ap (all_pairs p) (drop_all i xs (omega arith)))
  all_pairs_of p i (suc n) is =
      ap₂ ◌&&◌ (all_of (p (at i)) (i + 1) n (omega arith)) (all_pairs_of p (i + 1) n (omega arith))
      ∙ sym (ap (all_pairs p) (next i (omega arith)))

module _ {A : Type 0} (xs : List A) (d : A) where
  -- an element that is read is the one there
  pub read_at : (k : ℕ) (x : A) → slice_get xs k ≡ Some x → get_or xs k d ≡ x
  read_at k x at = get_or_from_slice_get xs k x d at

  pub each_of : (test : ℤ → A → Bool) (left : ℤ → List A → Bool) → ((o : ℤ) → left o [] ≡ true)
      → ((o : ℤ) (y : A) (ys : List A) → left o (y ∷ ys) ≡ (test o y && left (o +ℤ pos 1) ys))
      → (o : ℤ) (n : ℕ) → n ≡ length xs
      → all_from (λ k. test (o +ℤ pos k) (get_or xs k d)) 0 (n - 0) ≡ left o xs
  each_of test left none one o n is =
      let first : o +ℤ pos 0 ≡ o = omega (arith, ints) in
      each_from xs (λ k. get_or xs k d) (λ k h. drop_more xs k d h) test left none one o 0 (n - 0) (omega arith) ∙ ap (λ i. left i xs) first

  pub every_of : (p : A → Bool) (n : ℕ) → n ≡ length xs
      → all_from (λ k. p (get_or xs k d)) 0 (n - 0) ≡ list_all p xs
  every_of p n is = all_of xs (λ k. get_or xs k d) (λ k h. drop_more xs k d h) p 0 (n - 0) (omega arith)

  some_from : (p : A → Bool) (i n : ℕ) → n ≡ length xs - i
      → any_from (λ k. p (get_or xs k d)) i n ≡ list_any p (drop i xs)
  some_from p i zero is = sym (ap (list_any p) (drop_all i xs (omega arith)))
  some_from p i (suc n) is =
      ap (λ b. p (get_or xs i d) || b) (some_from p (i + 1) n (omega arith)) ∙ sym (ap (list_any p) (drop_more xs i d (omega arith)))

  pub some_of : (p : A → Bool) (i n : ℕ) → n ≡ length xs
      → any_from (λ k. p (get_or xs k d)) i (n - i) ≡ list_any p (drop i xs)
  some_of p i n is = some_from p i (n - i) (omega arith)

  -- each with the next one
  short : (p : A → A → Bool) (ys : List A) → length ys ≤ 1 → all_neighbours p ys ≡ true
  short p (x ∷ y ∷ ys) h = absurd (omega arith)
  short p _ h = refl

  neighbours_from : (p : A → A → Bool) (i n : ℕ) → n ≡ length xs - i → 1 ≤ i
      → all_from (λ k. p (get_or xs (k - 1) d) (get_or xs k d)) i n
      ≡ all_neighbours p (drop (i - 1) xs)
  neighbours_from p i zero is from = sym (short p (drop (i - 1) xs) (omega (arith, length-drop (i - 1) xs)))
  neighbours_from p i (suc n) is from =
      let back : i - 1 + 1 ≡ i = omega arith in
      let on : i + 1 - 1 ≡ i = omega arith in
      let rest = drop_more xs i d (omega arith) in
      let first : drop (i - 1) xs ≡ get_or xs (i - 1) d ∷ drop i xs = drop_more xs (i - 1) d (omega arith) ∙ ap (λ j. get_or xs (i - 1) d ∷ drop j xs) back in
      ap (λ b. p (get_or xs (i - 1) d) (get_or xs i d) && b) (neighbours_from p (i + 1) n (omega arith) (omega arith) ∙ ap (λ j. all_neighbours p (drop j xs)) on ∙ ap (all_neighbours p) rest)
      ∙ sym (ap (all_neighbours p) (first ∙ ap (λ ys. get_or xs (i - 1) d ∷ ys) rest))

  pub neighbours_of : (p : A → A → Bool) (n : ℕ) → n ≡ length xs
      → all_from (λ k. p (get_or xs (k - 1) d) (get_or xs k d)) 1 (n - 1) ≡ all_neighbours p xs
  neighbours_of p n is = neighbours_from p 1 (n - 1) (omega arith) (omega arith)

-- ---- two lists side by side

module _ {A B : Type 0} (p : A → B → Bool) (xs : List A) (ys : List B) (d : A) (e : B) where
  none_left : (zs : List A) (ws : List B) → min (length zs) (length ws) ≡ 0 → all_both p zs ws ≡ true
  none_left (z ∷ zs) (w ∷ ws) h = absurd (omega arith)
  none_left _ ws h = refl

  both_from : (i n : ℕ) → n ≡ min (length xs) (length ys) - i
      → all_from (λ k. p (get_or xs k d) (get_or ys k e)) i n ≡ all_both p (drop i xs) (drop i ys)
  both_from i zero is = sym (none_left (drop i xs) (drop i ys) (omega (arith, length-drop i xs, length-drop i ys)))
  both_from i (suc n) is =
      ap (λ b. p (get_or xs i d) (get_or ys i e) && b) (both_from (i + 1) n (omega arith))
      ∙ sym (λ k. all_both p (drop_more xs i d (omega arith) k) (drop_more ys i e (omega arith) k))

  pub both_of : (n : ℕ) → n ≡ min (length xs) (length ys)
      → all_from (λ k. p (get_or xs k d) (get_or ys k e)) 0 (n - 0) ≡ all_both p xs ys
  both_of n is = both_from 0 (n - 0) (omega arith)

-- lists of one length are the same where each element is
pub same_both : {A : Type 0} (same : A → A → Bool) (xs ys : List A) → length xs ≡ length ys
    → all_both same xs ys ≡ is_same_list same xs ys
same_both same [] [] h = refl
same_both same [] (y ∷ ys) h = absurd (omega arith)
same_both same (x ∷ xs) [] h = absurd (omega arith)
same_both same (x ∷ xs) (y ∷ ys) h = ap (λ b. same x y && b) (same_both same xs ys (omega arith))

-- ---- an index that passes

pub none_passes : (test : ℕ → Bool) (i n : ℕ)
    → not (all_from (λ k. not (test k)) i n) ≡ any_from test i n
none_passes test i zero = refl
none_passes test i (suc n) = elim (test i) as (λ b. not (not b && all_from (λ k. not (test k)) (i + 1) n) ≡ (b || any_from test (i + 1) n)) [ true ↦ refl | false ↦ none_passes test (i + 1) n ]
