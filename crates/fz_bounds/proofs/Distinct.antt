-- As many different numbers as there are in a list.
use Rattle.std.proofs.Common.{◌≡◌, ℕ, zero, suc, ◌<◌, ◌≤◌, ℤ, pos, ◌+ℤ◌, int_le, int_lt, slice_get, Some, Bool, true, false, not, ◌&&◌, ◌||◌, List, [], ◌∷◌, length, refl, sym, ap, ◌∙◌, ◌-◌, Option, None, IfSome, IsSomeAnd, arith}
use Rattle.std.proofs.lemmas.Int.{clamps, ints}
use Rattle.std.specs.Int.{int_max, int_min}
use Rattle.std.specs.List.{filter, list_all}
use Rattle.std.specs.Prelude.{cond}
use Rattle.fz_model.specs.Relations.{◌=ℤ◌, all_different, is_among}
use Rattle.fz_model.proofs.Values.{and_first, and_second, int_itself, no, no', same_int}
use Rattle.fz_bounds.specs.Decided.{LiesIn}
use Rattle.fz_bounds.specs.declared.range.Range.{Range}
use Rattle.fz_bounds.proofs.Ranges.{IsSum}

abbrev without : ℤ → List ℤ → List ℤ
without a xs = filter (λ x. not (x =ℤ a)) xs

no_longer : (a : ℤ) (xs : List ℤ) → length (without a xs) ≤ length xs
no_longer a [] = omega arith
no_longer a (x ∷ xs) = one (x =ℤ a) (no_longer a xs)
  where
    one : (b : Bool) → length (without a xs) ≤ length xs
        → length (cond (not b) (x ∷ without a xs) (without a xs)) ≤ suc (length xs)
    one true h = omega arith
    one false h = omega arith

shorter : (a : ℤ) (xs : List ℤ) → is_among a xs ≡ true → length (without a xs) < length xs
shorter a [] h = no h
shorter a (x ∷ xs) h = one (x =ℤ a) h (shorter a xs)
  where
    one : (b : Bool) → (b || is_among a xs) ≡ true
        → (is_among a xs ≡ true → length (without a xs) < length xs)
        → length (cond (not b) (x ∷ without a xs) (without a xs)) < suc (length xs)
    one true h f = let rest = no_longer a xs in omega arith
    one false h f = let rest = f h in omega arith

still_among : (a w : ℤ) (xs : List ℤ) → (a =ℤ w) ≡ false → is_among w xs ≡ true
    → is_among w (without a xs) ≡ true
still_among a w [] e h = no h
still_among a w (x ∷ xs) e h =
    (elim (x =ℤ a) as (λ b. (x =ℤ a) ≡ b → is_among w (cond (not b) (x ∷ without a xs) (without a xs)) ≡ true) [
      | true ↦ λ is. still_among a w xs e (sym (ap (λ y. (y =ℤ w) || is_among w xs) (same_int x a is) ∙ ap (λ b. b || is_among w xs) e) ∙ h)
      | false ↦ λ _. first (x =ℤ w) h (still_among a w xs e)
    ]) refl
  where
    first : (b : Bool) → (b || is_among w xs) ≡ true
        → (is_among w xs ≡ true → is_among w (without a xs) ≡ true)
        → (b || is_among w (without a xs)) ≡ true
    first true h f = refl
    first false h f = f h

others_among : (a : ℤ) (ys xs : List ℤ) → is_among a ys ≡ false
    → list_all (λ y. is_among y xs) ys ≡ true → list_all (λ y. is_among y (without a xs)) ys ≡ true
others_among a [] xs e h = refl
others_among a (y ∷ ys) xs e h =
    let other : (y =ℤ a) ≡ false = neither (y =ℤ a) (is_among a ys) e in
    and_both' (is_among y (without a xs)) _ (still_among a y xs (turned y a other) (and_first (is_among y xs) _ h)) (others_among a ys xs (second (y =ℤ a) (is_among a ys) e) (and_second (is_among y xs) _ h))
  where
    neither : (b c : Bool) → (b || c) ≡ false → b ≡ false
    neither true c e = no' e
    neither false c e = refl

    second : (b c : Bool) → (b || c) ≡ false → c ≡ false
    second true c e = no' e
    second false c e = e

    and_both' : (b c : Bool) → b ≡ true → c ≡ true → (b && c) ≡ true
    and_both' true c d e = e
    and_both' false c d e = no d

    turned : (y a : ℤ) → (y =ℤ a) ≡ false → (a =ℤ y) ≡ false
    turned y a e =
        (elim (a =ℤ y) as (λ b. (a =ℤ y) ≡ b → b ≡ false) [
          | true ↦ λ is. no' (sym (ap (λ z. y =ℤ z) (same_int a y is) ∙ int_itself y) ∙ e)
          | false ↦ λ _. refl
        ]) refl

pub no_more : (ys xs : List ℤ) → all_different ys ≡ true → list_all (λ y. is_among y xs) ys ≡ true
    → length ys ≤ length xs
no_more [] xs d h = omega arith
no_more (y ∷ ys) xs d h =
    let fewer = shorter y xs (and_first (is_among y xs) _ h) in
    let rest = no_more ys (without y xs) (and_second (not (is_among y ys)) _ d) (others_among y ys xs (is_not (is_among y ys) (and_first (not (is_among y ys)) _ d)) (and_second (is_among y xs) _ h)) in
    omega arith
  where
    is_not : (b : Bool) → not b ≡ true → b ≡ false
    is_not true e = no e
    is_not false e = refl

-- ---- numbers that lie from one on

abbrev pub numbers_from : ℤ → ℕ → List ℤ
numbers_from l zero = []
numbers_from l (suc n) = l ∷ numbers_from (l +ℤ pos 1) n

pub so_many : (l : ℤ) (n : ℕ) → length (numbers_from l n) ≡ n
so_many l zero = refl
so_many l (suc n) = ap suc (so_many (l +ℤ pos 1) n)

pub is_one : (l x : ℤ) (n : ℕ) → int_le l x ≡ true → int_lt x (l +ℤ pos n) ≡ true
    → is_among x (numbers_from l n) ≡ true
is_one l x zero from to = absurd (grind (arith, ints))
is_one l x (suc n) from to =
    (elim (l =ℤ x) as (λ b. (l =ℤ x) ≡ b → (b || is_among x (numbers_from (l +ℤ pos 1) n)) ≡ true) [
      | true ↦ λ _. refl
      | false ↦ λ e. is_one (l +ℤ pos 1) x n (above l x from e) (grind (arith, ints))
    ]) refl
  where
    above : (l x : ℤ) → int_le l x ≡ true → (l =ℤ x) ≡ false → int_le (l +ℤ pos 1) x ≡ true
    above l x from e = grind (arith, ints, int_itself)

all_among : (xs ys : List ℤ)
    → ((i : ℕ) (n : ℤ) → slice_get xs i ≡ Some n → is_among n ys ≡ true)
    → list_all (λ y. is_among y ys) xs ≡ true
all_among [] ys h = refl
all_among (x ∷ xs) ys h =
    ap (λ b. b && list_all (λ y. is_among y ys) xs) (h zero x refl) ∙ all_among xs ys (λ i n at. h (suc i) n at)

too_many : (xs : List ℤ) (l : ℤ) (n : ℕ) → n < length xs
    → ((i : ℕ) (x : ℤ) → slice_get xs i ≡ Some x → (int_le l x ≡ true) × (int_lt x (l +ℤ pos n) ≡ true))
    → all_different xs ≡ false
too_many xs l n more inside =
    (elim (all_different xs) as (λ b. all_different xs ≡ b → b ≡ false) [
      | true ↦ λ e.
          let few = no_more xs (numbers_from l n) e (all_among xs (numbers_from l n) (λ i x at. let (from, to) = inside i x at in is_one l x n from to)) in
          let many = so_many l n in
          absurd (omega arith)
      | false ↦ λ _. refl
    ]) refl

crowded_between : (low high : Option ℤ) (xs : List ℤ) (n : ℕ) → n ≡ length xs → 0 < n
    → IsSomeAnd low (λ l. IsSomeAnd high (λ h. int_lt (h +ℤ pos 1) (l +ℤ pos n) ≡ true))
    → ((i : ℕ) (x : ℤ) → slice_get xs i ≡ Some x → LiesIn (record { low = low; high = high }) x)
    → all_different xs ≡ false
crowded_between None high xs n counted some fewer inside = absurd fewer
crowded_between (Some l) None xs n counted some fewer inside = absurd fewer
crowded_between (Some l) (Some h) xs n counted some fewer inside =
    too_many xs l (n - 1) (omega arith) (λ i x at. let (from, to) = inside i x at in (from, before x to))
  where
    before : (x : ℤ) → int_le x h ≡ true → int_lt x (l +ℤ pos (n - 1)) ≡ true
    before x to = grind (arith, ints)

pub crowded : (r : Range) (xs : List ℤ) (n : ℕ) → n ≡ length xs → 0 < n
    → IsSomeAnd r.low (λ l. IsSomeAnd r.high (λ h. int_lt (h +ℤ pos 1) (l +ℤ pos n) ≡ true))
    → ((i : ℕ) (x : ℤ) → slice_get xs i ≡ Some x → LiesIn r x) → all_different xs ≡ false
crowded r xs n counted some fewer inside = crowded_between r.low r.high xs n counted some fewer inside

pub sum_below : (o p q r s : Option ℤ) (n : ℕ)
    → IsSomeAnd p (λ x. IsSomeAnd q (λ y. int_lt x y ≡ true)) → IsSum o (Some (pos 1)) p
    → IsSum r s q → IfSome s (λ b. int_le b (pos n) ≡ true)
    → IsSomeAnd r (λ l. IsSomeAnd o (λ h. int_lt (h +ℤ pos 1) (l +ℤ pos n) ≡ true))
sum_below o None q r s n less f g most = absurd less
sum_below o (Some x) None r s n less f g most = absurd less
sum_below None (Some x) (Some y) r s n less f g most = absurd f
sum_below (Some h) (Some x) (Some y) None s n less f g most = absurd g
sum_below (Some h) (Some x) (Some y) (Some l) None n less f g most = absurd g
sum_below (Some h) (Some x) (Some y) (Some l) (Some b) n less f g most =
    below h x y l b less f g most
  where
    below : (h x y l b : ℤ) → int_lt x y ≡ true → x ≡ (h +ℤ pos 1) → y ≡ (l +ℤ b)
        → int_le b (pos n) ≡ true → int_lt (h +ℤ pos 1) (l +ℤ pos n) ≡ true
    below h x y l b less f g most = grind (arith, ints)

pub in_hull : (a b : ℤ) → (int_le (int_min a b) a ≡ true) × (int_le a (int_max a b) ≡ true)
    × (int_le (int_min a b) b ≡ true) × (int_le b (int_max a b) ≡ true)
in_hull a b =
    (grind (arith, ints, clamps), grind (arith, ints, clamps), grind (arith, ints, clamps), grind (arith, ints, clamps))
