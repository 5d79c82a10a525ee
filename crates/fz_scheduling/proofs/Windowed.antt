-- The sums of runs of neighbours.
use Rattle.std.proofs.Common.{◌≡◌, ℕ, suc, zero, ◌+◌, ◌*◌, ◌<◌, ◌≤◌, ℤ, pos, ◌+ℤ◌, ◌-ℤ◌, neg_ℤ, ◌≤ℤ◌, int_le, Bool, true, false, ◌&&◌, if◌then◌else◌, min, List, [], ◌∷◌, ◌++◌, drop, take, length, FitsSigned, w64, refl, sym, ap, ◌∙◌, eq-eqb, ne_eqb, add-one, arith}
use Rattle.std.specs.List.{list_all}
use Rattle.std.proofs.lemmas.Int.{ints}
use Rattle.std.proofs.lemmas.List.{take_more, drop_more, get_or-drop, length-take, length-take-le, length-drop}
use Rattle.fz_kernel.proofs.of_meaning.of_base.Covers.{and-true}
use Rattle.fz_kernel.specs.of_meaning.Relations.{total, lies_between, windows}
use Rattle.fz_kernel.proofs.of_meaning.Values.{and_first, and_second}
use Rattle.fz_scheduling.specs.Places.{number_at}

total-append : (xs ys : List ℤ) → total (xs ++ ys) ≡ total xs +ℤ total ys
total-append [] ys = omega (arith, ints)
total-append (x ∷ xs) ys = ap (λ u. x +ℤ u) (total-append xs ys) ∙ regroup x (total xs) (total ys)
  where
    regroup : (a b c : ℤ) → (a +ℤ (b +ℤ c)) ≡ ((a +ℤ b) +ℤ c)
    regroup a b c = omega (arith, ints)

-- one more element
pub total_more : (xs : List ℤ) (i : ℕ) → i < length xs
    → total (take (i + 1) xs) ≡ total (take i xs) +ℤ number_at xs i
total_more xs i inside = ap total (take_more xs i (pos 0) inside) ∙ total-append (take i xs) (number_at xs i ∷ []) ∙ ap (λ u. total (take i xs) +ℤ u) (alone (number_at xs i))
  where
    alone : (a : ℤ) → (a +ℤ pos 0) ≡ a
    alone a = omega (arith, ints)

-- s is the sum of the first i; each is between -2^63 and 2^63
pub record IsSummed (xs : List ℤ) (i : ℕ) (s : ℤ) : Type 0 where
  pub whole : s ≡ total (take i xs)
  pub low : neg_ℤ (pos (9223372036854775808 * i)) ≤ℤ s
  pub high : s ≤ℤ pos (9223372036854775808 * i)

pub one_summed : (xs : List ℤ) (i : ℕ) (s t : ℤ) → IsSummed xs i s → i < length xs
    → t ≡ (s +ℤ number_at xs i) → FitsSigned w64 (number_at xs i) → IsSummed xs (i + 1) t
one_summed xs i s t so_far inside is fits =
    let low : neg_ℤ (pos (9223372036854775808 * i)) ≤ℤ s = so_far.low in
    let high : s ≤ℤ pos (9223372036854775808 * i) = so_far.high in
    record {
      whole = is ∙ ap (λ u. u +ℤ number_at xs i) so_far.whole ∙ sym (total_more xs i inside);
      low = omega (arith, ints);
      high = omega (arith, ints);
    }

-- ---- from one run to the next

moved : (x : ℤ) (zs : List ℤ) (j : ℕ) → j < length zs
    → total (take (j + 1) zs) ≡ (total (take (suc j) (x ∷ zs)) -ℤ x) +ℤ number_at zs j
moved x zs j inside = total_more zs j inside ∙ ap (λ u. u +ℤ number_at zs j) (left_out x (total (take j zs)))
  where
    left_out : (a b : ℤ) → b ≡ ((a +ℤ b) -ℤ a)
    left_out a b = omega (arith, ints)

pub total_moved : (xs : List ℤ) (k s : ℕ) → 0 < k → s + k < length xs
    → total (take k (drop (s + 1) xs))
    ≡ (total (take k (drop s xs)) -ℤ number_at xs s) +ℤ number_at xs (s + k)
total_moved xs zero s some inside = absurd (omega arith)
total_moved xs (suc j) s some inside =
    let behind : j < length (drop (s + 1) xs) = omega (arith, length-drop (s + 1) xs) in
    let one : j + 1 ≡ suc j = add-one j in
    let place : (s + 1) + j ≡ s + suc j = omega arith in
    let there : number_at (drop (s + 1) xs) j ≡ number_at xs (s + suc j) = get_or-drop (s + 1) xs j (pos 0) ∙ ap (number_at xs) place in
    ap (λ n. total (take n (drop (s + 1) xs))) (sym one)
    ∙ moved (number_at xs s) (drop (s + 1) xs) j behind
    ∙ ap (λ l. (total (take (suc j) l) -ℤ number_at xs s) +ℤ number_at (drop (s + 1) xs) j) (sym (drop_more xs s (pos 0) (omega arith)))
    ∙ ap (λ u. (total (take (suc j) (drop s xs)) -ℤ number_at xs s) +ℤ u) there

-- ---- the runs of a list

full : (k : ℕ) (x : ℤ) (zs : List ℤ) → k ≤ length (x ∷ zs)
    → windows k (x ∷ zs) ≡ take k (x ∷ zs) ∷ windows k zs
full k x zs fits =
    let whole : length (take k (x ∷ zs)) ≡ k = length-take-le k (x ∷ zs) fits in
    ap (λ b. if b then take k (x ∷ zs) ∷ windows k zs else []) (eq-eqb (length (take k (x ∷ zs))) k whole)

pub too_short : (k : ℕ) (zs : List ℤ) → length zs < k → windows k zs ≡ []
too_short k [] short = ap (λ b. if b then [] ∷ [] else []) (ne_eqb k 0 (λ same. omega arith))
too_short k (x ∷ zs) short =
    let part : length (take k (x ∷ zs)) ≡ min k (length (x ∷ zs)) = length-take k (x ∷ zs) in
    ap (λ b. if b then take k (x ∷ zs) ∷ windows k zs else []) (ne_eqb (length (take k (x ∷ zs))) k (λ same. omega arith))

pub one_window : (k : ℕ) (xs : List ℤ) (s : ℕ) → 0 < k → s + k ≤ length xs
    → windows k (drop s xs) ≡ take k (drop s xs) ∷ windows k (drop (s + 1) xs)
one_window k xs s some fits =
    let here : drop s xs ≡ number_at xs s ∷ drop (s + 1) xs = drop_more xs s (pos 0) (omega arith) in
    let long : k ≤ length (number_at xs s ∷ drop (s + 1) xs) = omega (arith, length-drop (s + 1) xs) in
    ap (windows k) here ∙ full k (number_at xs s) (drop (s + 1) xs) long ∙ ap (λ l. take k l ∷ windows k (drop (s + 1) xs)) (sym here)

-- ---- whether each sum lies in a range

-- the sum of each run of none is 0
pub runs_of_none : (low high : ℤ) (xs : List ℤ) → lies_between low high (pos 0)
    ≡ list_all (λ w. lies_between low high (total w)) (windows 0 xs)
runs_of_none low high xs = among xs (lies_between low high (pos 0)) refl
  where
    among : (xs : List ℤ) (b : Bool) → lies_between low high (pos 0) ≡ b
        → lies_between low high (pos 0)
        ≡ list_all (λ w. lies_between low high (total w)) (windows 0 xs)
    among [] true e = e ∙ sym (ap (λ b. b && true) e)
    among [] false e = e ∙ sym (ap (λ b. b && true) e)
    among (x ∷ xs) true e = among xs true e ∙ sym (ap (λ b. b && list_all (λ w. lies_between low high (total w)) (windows 0 xs)) e)
    among (x ∷ xs) false e = e ∙ sym (ap (λ b. b && list_all (λ w. lies_between low high (total w)) (windows 0 xs)) e)

-- the same is so of all runs as of those from index i on; s is the sum of the run that begins there
pub record Slides (low high : ℤ) (k : ℕ) (xs : List ℤ) (i : ℕ) (s : ℤ) : Type 0 where
  pub so_far : list_all (λ w. lies_between low high (total w)) (windows k xs)
      ≡ list_all (λ w. lies_between low high (total w)) (windows k (drop i xs))
  pub sum : s ≡ total (take k (drop i xs))

pub between_low : (low high n : ℤ) → lies_between low high n ≡ true → low ≤ℤ n
between_low low high n e = at_most low n (and_first (int_le low n) (int_le n high) e)
  where
    at_most : (a b : ℤ) → int_le a b ≡ true → a ≤ℤ b
    at_most a b e = grind (arith, ints)

pub between_high : (low high n : ℤ) → lies_between low high n ≡ true → n ≤ℤ high
between_high low high n e = at_most n high (and_second (int_le low n) (int_le n high) e)
  where
    at_most : (a b : ℤ) → int_le a b ≡ true → a ≤ℤ b
    at_most a b e = grind (arith, ints)

module _ (low high : ℤ) (k : ℕ) (xs : List ℤ) (i : ℕ) (s : ℤ) (slides : Slides low high k xs i s) (some : 0 < k) (fits : i + k ≤ length xs) where
  told : list_all (λ w. lies_between low high (total w)) (windows k xs)
      ≡ (lies_between low high s && list_all (λ w. lies_between low high (total w))
      (windows k (drop (i + 1) xs)))
  told =
      slides.so_far ∙ ap (list_all (λ w. lies_between low high (total w))) (one_window k xs i some fits)
      ∙ ap (λ t. lies_between low high t && list_all (λ w. lies_between low high (total w)) (windows k (drop (i + 1) xs))) (sym slides.sum)

  pub slides_out : lies_between low high s ≡ false
      → false ≡ list_all (λ w. lies_between low high (total w)) (windows k xs)
  slides_out e = sym (told ∙ ap (λ b. b && list_all (λ w. lies_between low high (total w)) (windows k (drop (i + 1) xs))) e)

  pub slides_on : lies_between low high s ≡ true → i + k < length xs → (t : ℤ)
      → t ≡ (s -ℤ number_at xs i) +ℤ number_at xs (i + k) → Slides low high k xs (i + 1) t
  slides_on e more t is = record {
    so_far = told ∙ ap (λ b. b && list_all (λ w. lies_between low high (total w)) (windows k (drop (i + 1) xs))) e;
    sum = is ∙ ap (λ u. (u -ℤ number_at xs i) +ℤ number_at xs (i + k)) slides.sum ∙ sym (total_moved xs k i some more);
  }

  pub last_run : i + k ≡ length xs
      → lies_between low high s ≡ list_all (λ w. lies_between low high (total w)) (windows k xs)
  last_run end =
      let short : length (drop (i + 1) xs) < k = omega (arith, length-drop (i + 1) xs) in
      sym (told ∙ ap (λ ws. lies_between low high s && list_all (λ w. lies_between low high (total w)) ws) (too_short k (drop (i + 1) xs) short) ∙ and-true (lies_between low high s))
