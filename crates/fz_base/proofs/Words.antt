-- The bits of a word as a set of numbers.
use Rattle.std.proofs.Common.{◌≡◌, ◌<◌, ◌^◌, ◌+◌, ◌-◌, ◌*◌, ◌/◌, ◌%◌, ℕ, zero, suc, ℤ, pos, negsuc, ◌≤ℤ◌, ◌-ℤ◌, nat_abs, Bool, true, false, not, ◌&&◌, ◌||◌, ◌==◌, ◌↔◌, List, [], ◌∷◌, cond, filter, length, refl, sym, ap, ◌∙◌, inl, inr, arith, bit_and, bit_or, bit_xor, count_ones, FitsSigned, w64, pow-suc}
use Rattle.std.specs.Int.{bit_at}
use Rattle.std.specs.List.{list_any}
use Rattle.std.specs.Ordering.{int_eq}
use Rattle.std.specs.Cmp.{int_cmp_total, both_ways}
use Rattle.std.specs.FinSet.{contains, contains-from_list, len}
use Rattle.std.proofs.lemmas.Bool.{lt-ltb, cases_lt, cases_eq, and_parts}
use Rattle.std.proofs.lemmas.Bool.Decides.{Decides-int_eq, nat_tests}
use Rattle.std.proofs.lemmas.Int.{ints}
use Rattle.std.specs.Int.{int_max, int_min}
use Rattle.std.proofs.lemmas.Nat.{one_shl, shr-shr, and_le_l, pow_below}
use Rattle.std.proofs.lemmas.Nat.Bits.{bit_at-lt, bit_at-zero, bit_at_not, bit_at_and, bit_at_or, bit_at_xor, bit_at-pow_same, bit_at-pow_other, bit_at_ones, bit_at_ones_above, ones_shr, ones_shl, bit_at_mask_inside, bit_at_mask_below, same_from_bits_below}
use lib.Count.{ones-le, ones_step}
use Rattle.fz_base.specs.Bits.{has_bit, numbers_of_bits}
use Rattle.fz_base.specs.Ranges.{is_between}
use Rattle.fz_base.specs.Sets.{counting_from}
use Rattle.fz_base.proofs.Covers.{between_yes}
use Rattle.fz_base.proofs.Numbers.{list_any-counting_from, len-from_list, Rise-filter, Rise-counting_from}

-- ---- the result of an operation on two words

pub has_or : (a b : ℕ) (x : ℤ) → has_bit (bit_or a b) x ≡ (has_bit a x || has_bit b x)
has_or a b (pos n) = grind (arith, nat_tests, bit_at_or a b n, bit_at-lt a n, bit_at-lt b n)
has_or a b (negsuc n) = refl

pub has_and : (a b : ℕ) (x : ℤ) → has_bit (bit_and a b) x ≡ (has_bit a x && has_bit b x)
has_and a b (pos n) = grind (arith, nat_tests, bit_at_and a b n, bit_at-lt a n, bit_at-lt b n)
has_and a b (negsuc n) = refl

pub has_minus : (a b : ℕ) (x : ℤ) → b < 2 ^ 64
    → has_bit (bit_and a (18446744073709551615 - b)) x ≡ (has_bit a x && not (has_bit b x))
has_minus a b (pos n) h =
    let part = bit_at_and a (18446744073709551615 - b) n in
    let other : n < 64 → bit_at (18446744073709551615 - b) n ≡ 1 - bit_at b n = bit_at_not w64 b n h in
    grind (arith, nat_tests, bit_at-lt a n, bit_at-lt b n)
has_minus a b (negsuc n) h = refl

pub has_xor : (a b : ℕ) (x : ℤ) → has_bit (bit_xor a b) x
    ≡ ((has_bit a x && not (has_bit b x)) || (has_bit b x && not (has_bit a x)))
has_xor a b (pos n) = grind (arith, nat_tests, bit_at_xor a b n, bit_at-lt a n, bit_at-lt b n)
has_xor a b (negsuc n) = refl

pub ruleset operations = (has_or, has_and, has_minus, has_xor)

-- ---- words with the same numbers

pub same_words : (a b : ℕ) → a < 2 ^ 64 → b < 2 ^ 64 → ((x : ℤ) → has_bit a x ≡ has_bit b x) → a ≡ b
same_words a b h k alike = same_from_bits_below 64 a b h k same
  where
    same : (i : ℕ) → i < 64 → bit_at a i ≡ bit_at b i
    same i low = grind (arith, nat_tests, bit_at-lt a i, bit_at-lt b i, alike (pos i))

pub has_none : (x : ℤ) → has_bit 0 x ≡ false
has_none (pos n) = grind (arith, nat_tests, bit_at-zero n)
has_none (negsuc n) = refl

-- what is in the one and not in the other is nothing
pub covered_words : (a b : ℕ) → b < 2 ^ 64 → bit_and a (18446744073709551615 - b) ≡ 0 → (x : ℤ)
    → has_bit a x ≡ true → has_bit b x ≡ true
covered_words a b h e x in_a = nothing_over (has_bit a x) (has_bit b x) (sym (has_minus a b x h) ∙ ap (λ w. has_bit w x) e ∙ has_none x) in_a
  where
    nothing_over : (p q : Bool) → (p && not q) ≡ false → p ≡ true → q ≡ true
    nothing_over p q e t = grind (arith, nat_tests)

pub words_covered : (a b : ℕ) → a < 2 ^ 64 → b < 2 ^ 64
    → ((x : ℤ) → has_bit a x ≡ true → has_bit b x ≡ true) → bit_and a (18446744073709551615 - b) ≡ 0
words_covered a b h k all =
    same_words (bit_and a (18446744073709551615 - b)) 0 (omega (arith, and_le_l a (18446744073709551615 - b))) (omega arith) (λ x. has_minus a b x k ∙ all_under (has_bit a x) (has_bit b x) (all x) ∙ sym (has_none x))
  where
    all_under : (p q : Bool) → (p ≡ true → q ≡ true) → (p && not q) ≡ false
    all_under p q h = grind (arith, nat_tests)

-- ---- one number, and the numbers between two

pub has_one : (k : ℕ) (x : ℤ) → k < 64 → has_bit (2 ^ k) x ≡ int_eq x (pos k)
has_one k (pos n) h =
    let own = bit_at-pow_same k in
    let other = bit_at-pow_other k n in
    elim (cases_eq n k) [
      | inl e ↦ rw e (grind (arith, ints, nat_tests))
      | inr d ↦ grind (arith, ints, nat_tests)
    ]
has_one k (negsuc n) h = grind (arith, ints)

pub has_with : (bits k : ℕ) (x : ℤ) → k < 64 → has_bit
    (bit_or bits (1 * 2 ^ k % 18446744073709551616)) x ≡ (has_bit bits x || int_eq x (pos k))
has_with bits k x h = ap (λ w. has_bit (bit_or bits w) x) (one_shl k 64 h) ∙ has_or bits (2 ^ k) x ∙ ap (λ b. has_bit bits x || b) (has_one k x h)

-- the numbers up to one
pub has_up_to : (k : ℕ) (x : ℤ) → k < 64
    → has_bit (2 ^ (k + 1) - 1) x ≡ is_between (pos 0) (pos k) x
has_up_to k (pos n) h =
    let below = bit_at_ones (k + 1) n in
    let above = bit_at_ones_above (k + 1) n in
    elim (cases_lt n (k + 1)) [ inl low ↦ grind (arith, ints, nat_tests) | inr high ↦ grind (arith, ints, nat_tests) ]
has_up_to k (negsuc n) h = grind (arith, ints)

-- the numbers from one on
pub has_from : (k : ℕ) (x : ℤ) → k < 64 → has_bit (2 ^ 64 - 2 ^ k) x ≡ is_between (pos k) (pos 63) x
has_from k (pos n) h =
    let below = bit_at_mask_below k 64 n in
    let inside = bit_at_mask_inside k 64 n in
    elim (cases_lt n k) [
      | inl low ↦ grind (arith, ints, nat_tests)
      | inr from ↦ elim (cases_lt n 64) [ inl low ↦ grind (arith, ints, nat_tests) | inr high ↦ grind (arith, ints, nat_tests) ]
    ]
has_from k (negsuc n) h = grind (arith, ints)

-- ---- the numbers of a list that a test keeps

-- whether x is listed
abbrev is_listed : List ℤ → ℤ → Bool
is_listed xs x = list_any (int_eq x) xs

is_listed-filter : (p : ℤ → Bool) (xs : List ℤ) (q : ℤ)
    → is_listed (filter p xs) q ≡ (is_listed xs q && p q)
is_listed-filter p [] q = refl
is_listed-filter p (x ∷ xs) q =
    let same = (Decides-int_eq q x).0 in
    grind (arith, is_listed-filter p xs q)

-- ---- the set of a word

has_low : (bits : ℕ) (x : ℤ) → (is_between (pos 0) (pos 63) x && has_bit bits x) ≡ has_bit bits x
has_low bits x = grind (arith, ints)

pub contains-numbers_of_bits : (bits : ℕ) (x : ℤ)
    → contains (numbers_of_bits bits) x ≡ has_bit bits x
unfolding numbers_of_bits
contains-numbers_of_bits bits x =
    contains-from_list int_cmp_total _ x
    ∙ is_listed-filter (has_bit bits) (counting_from (pos 0) 64) x
    ∙ ap (λ b. b && has_bit bits x) (list_any-counting_from x (pos 0) (pos 63))
    ∙ has_low bits x

-- how many numbers it has
counted_bits : (bits n k : ℕ) → bits / 2 ^ n < 2 ^ k → n + k ≡ 64
    → length (filter (has_bit bits) (counting_from (pos n) k)) ≡ count_ones (bits / 2 ^ n)
unfolding counting_from
counted_bits bits n zero h e = omega (arith, ones-le 0 (bits / 2 ^ n) h)
counted_bits bits n (suc k) h e =
    let half : bits / 2 ^ n / 2 ≡ bits / 2 ^ (n + 1) = shr-shr bits n 1 in
    let rest : length (filter (has_bit bits) (counting_from (pos (n + 1)) k)) ≡ count_ones (bits / 2 ^ (n + 1)) = counted_bits bits (n + 1) k (omega (arith, pow-suc 2 k)) (omega arith) in
    let here : has_bit bits (pos n) ≡ (bit_at bits n == 1) = ap (λ b. b && (bit_at bits n == 1)) (lt-ltb n 64 (omega arith)) in
    ap (λ b. length (cond b (pos n ∷ filter (has_bit bits) (counting_from (pos (n + 1)) k)) (filter (has_bit bits) (counting_from (pos (n + 1)) k)))) here
    ∙ one_more (bit_at bits n) (bit_at-lt bits n) (filter (has_bit bits) (counting_from (pos (n + 1)) k))
    ∙ ap (λ m. bit_at bits n + m) (rest ∙ ap count_ones (sym half))
    ∙ sym (ones_step (bits / 2 ^ n))
  where
    one_more : (d : ℕ) → d < 2 → (xs : List ℤ)
        → length (cond (d == 1) (pos n ∷ xs) xs) ≡ d + length xs
    one_more d h xs = grind (arith, nat_tests)

pub len-numbers_of_bits : (bits : ℕ) → bits < 2 ^ 64 → count_ones bits ≡ len (numbers_of_bits bits)
unfolding numbers_of_bits
len-numbers_of_bits bits h =
    let whole : bits / 2 ^ 0 ≡ bits = omega arith in
    sym (len-from_list (pos 0) _ (Rise-filter (has_bit bits) (pos 0) (counting_from (pos 0) 64) (Rise-counting_from (pos 0) 64)) ∙ counted_bits bits 0 64 (omega arith) refl ∙ ap count_ones whole)

pub low_fits : (bits : ℕ) (x : ℤ) → has_bit bits x ≡ true → FitsSigned w64 x
low_fits bits x h = grind (arith, ints)

-- ---- the numbers between two, as they are made

abs_of : (z : ℤ) (n : ℕ) → z ≡ pos n → nat_abs z ≡ n
abs_of z n e = ap nat_abs e

pub has_cut : (first last x : ℤ) → pos 0 ≤ℤ first → last ≤ℤ pos 63 → first ≤ℤ last
    → has_bit (bit_and (18446744073709551615 / 2 ^ nat_abs (pos 63 -ℤ last)) (18446744073709551615 * 2 ^ nat_abs first % 18446744073709551616)) x ≡ is_between first last x
has_cut (pos f) (pos l) x low high some =
    let rest : nat_abs (pos 63 -ℤ pos l) ≡ 63 - l = abs_of (pos 63 -ℤ pos l) (63 - l) (omega (arith, ints)) in
    let width : 64 - (63 - l) ≡ l + 1 = omega (arith, ints) in
    let up_to : 18446744073709551615 / 2 ^ nat_abs (pos 63 -ℤ pos l) ≡ 2 ^ (l + 1) - 1 = ap (λ k. 18446744073709551615 / 2 ^ k) rest ∙ ones_shr 64 (63 - l) (omega arith) ∙ ap (λ k. 2 ^ k - 1) width in
    let from : 18446744073709551615 * 2 ^ f % 18446744073709551616 ≡ 2 ^ 64 - 2 ^ f = ones_shl 64 f (omega (arith, ints)) in
    let both_ends : (is_between (pos 0) (pos l) x && is_between (pos f) (pos 63) x) ≡ is_between (pos f) (pos l) x = grind (arith, ints) in
    (λ i. has_bit (bit_and (up_to i) (from i)) x)
    ∙ has_and (2 ^ (l + 1) - 1) (2 ^ 64 - 2 ^ f) x
    ∙ (λ i. has_up_to l x (omega (arith, ints)) i && has_from f x (omega (arith, ints)) i)
    ∙ both_ends
has_cut _ last x low high some = absurd (omega (arith, ints))

pub between_cut : (lo hi x : ℤ) → is_between (int_max lo (pos 0)) (int_min hi (pos 63)) x
    ≡ (is_between (pos 0) (pos 63) x && is_between lo hi x)
between_cut lo hi x = grind (arith, ints)

pub has_with_number : (bits : ℕ) (z x : ℤ) → pos 0 ≤ℤ z → z ≤ℤ pos 63
    → has_bit (bit_or bits (1 * 2 ^ nat_abs z % 18446744073709551616)) x
    ≡ (has_bit bits x || int_eq x z)
has_with_number bits (pos k) x low high = has_with bits k x (omega (arith, ints))
has_with_number bits (negsuc k) x low high = absurd (omega (arith, ints))

-- ---- one number alone

same_int : (x y : ℤ) → x ≡ y → int_eq x y ≡ true
same_int x y e = grind (arith, ints)

pub one_word : (bits t : ℕ) → t < 64 → bits ≡ 1 * 2 ^ t % 18446744073709551616 → (x : ℤ)
    → (has_bit bits x ≡ true) ↔ (x ≡ pos t)
one_word bits t h e x =
    let is : has_bit bits x ≡ int_eq x (pos t) = ap (λ w. has_bit w x) (e ∙ one_shl t 64 h) ∙ has_one t x h in
    (λ in_it. (Decides-int_eq x (pos t)).0 (sym is ∙ in_it), λ same. is ∙ same_int x (pos t) same)

pub word_of_one : (bits t : ℕ) (n : ℤ) → t < 64 → bits < 2 ^ 64 → bit_at bits t ≡ 1
    → ((x : ℤ) → (has_bit bits x ≡ true) ↔ (x ≡ n)) → bits ≡ 1 * 2 ^ t % 18446744073709551616
word_of_one bits t n h fits set only =
    let there : has_bit bits (pos t) ≡ true = λ i. lt-ltb t 64 h i && (set i == 1) in
    let found : pos t ≡ n = (only (pos t)).0 there in
    same_words bits (2 ^ t) fits (pow_below t 64 h) (λ x. both_ways (has_bit bits x) (has_bit (2 ^ t) x)
    (λ in_it. has_one t x h ∙ same_int x (pos t) ((only x).0 in_it ∙ sym found))
    (λ same. (only x).1 ((Decides-int_eq x (pos t)).0 (sym (has_one t x h) ∙ same) ∙ found)))
    ∙ sym (one_shl t 64 h)

-- ---- within two numbers

pub within_cut : (bits cut : ℕ) (lo hi : ℤ)
    → ((x : ℤ) → has_bit cut x ≡ (is_between (pos 0) (pos 63) x && is_between lo hi x)) → (r : Bool)
    → (r ≡ true ↔ ((x : ℤ) → has_bit bits x ≡ true → has_bit cut x ≡ true)) → (r ≡ true ↔ ((x : ℤ) → has_bit bits x ≡ true → (lo ≤ℤ x) × (x ≤ℤ hi)))
within_cut bits cut lo hi is r h = (
  λ e x in_it. ends x (and_parts (is_between (pos 0) (pos 63) x) (is_between lo hi x) (sym (is x) ∙ h.0 e x in_it)).1,
  λ all. h.1 (λ x in_it. is x ∙ (λ i. low x in_it i && between_yes lo hi x (all x in_it).0 (all x in_it).1 i)),
)
  where
    ends : (x : ℤ) → is_between lo hi x ≡ true → (lo ≤ℤ x) × (x ≤ℤ hi)
    ends x e = (grind (arith, ints), grind (arith, ints))

    low : (x : ℤ) → has_bit bits x ≡ true → is_between (pos 0) (pos 63) x ≡ true
    low x e = grind (arith, has_low bits x)

-- ---- spreading a word out, one number after another

-- a word without one of its numbers
pub has_less : (rest t : ℕ) (x : ℤ) → t < 64 → has_bit (bit_and rest
    (18446744073709551615 - 1 * 2 ^ t % 18446744073709551616)) x
    ≡ (has_bit rest x && not (int_eq x (pos t)))
has_less rest t x h =
    ap (λ w. has_bit (bit_and rest (18446744073709551615 - w)) x) (one_shl t 64 h)
    ∙ has_minus rest (2 ^ t) x (pow_below t 64 h)
    ∙ ap (λ b. has_bit rest x && not b) (has_one t x h)

module _ (bits rest t : ℕ) (small : t < 64) (set : bit_at rest t ≡ 1) (first : (i : ℕ) → i < t → bit_at rest i ≡ 0) (part : (x : ℤ) → has_bit rest x ≡ true → has_bit bits x ≡ true) where
  pub in_rest : has_bit rest (pos t) ≡ true
  in_rest = λ i. lt-ltb t 64 small i && (set i == 1)

  pub spread_more : (x : ℤ) → ((has_bit bits x && not (has_bit rest x)) || int_eq x (pos t))
      ≡ (has_bit bits x && not (has_bit
      (bit_and rest (18446744073709551615 - 1 * 2 ^ t % 18446744073709551616)) x))
  spread_more x =
      let own : int_eq x (pos t) ≡ true → has_bit bits x ≡ true = λ e. rw ((Decides-int_eq x (pos t)).0 e) (part (pos t) in_rest) in
      grind (arith, has_less rest t x small)

  pub part_less : (x : ℤ) → has_bit (bit_and rest
      (18446744073709551615 - 1 * 2 ^ t % 18446744073709551616)) x ≡ true → has_bit bits x ≡ true
  part_less x e = grind (arith, has_less rest t x small, part x)

  -- what is left lies above
  pub above_lowest : (k : ℕ) → has_bit (bit_and rest
      (18446744073709551615 - 1 * 2 ^ t % 18446744073709551616)) (pos k) ≡ true → t < k
  above_lowest k e = grind (arith, ints, nat_tests, has_less rest t (pos k) small, first k)

  -- a word with a number less is less
  pub rest_less : rest < 2 ^ 64 → bit_and rest
      (18446744073709551615 - 1 * 2 ^ t % 18446744073709551616) < rest
  rest_less fits =
      elim (cases_lt (bit_and rest (18446744073709551615 - 1 * 2 ^ t % 18446744073709551616)) rest) [
        | inl below ↦ below
        | inr up ↦
            let same : bit_and rest (18446744073709551615 - 1 * 2 ^ t % 18446744073709551616) ≡ rest = omega (arith, and_le_l rest (18446744073709551615 - 1 * 2 ^ t % 18446744073709551616)) in
            let self : t < t = above_lowest t (ap (λ w. has_bit w (pos t)) same ∙ in_rest) in
            absurd (omega arith)
      ]
