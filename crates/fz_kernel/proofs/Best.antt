-- The greatest and the least element of a list, by an order that is given.
use Rattle.std.proofs.Common.{◌≡◌, ℕ, ◌+◌, ◌<◌, ℤ, Bool, true, false, ◌&&◌, ◌||◌, ◌⊎◌, inl, inr, List, [], ◌∷◌, take, length, get_or, Some, slice_get, int_le, refl, sym, ap, subst, ◌∙◌, arith}
use Rattle.std.specs.List.{list_all}
use Rattle.std.specs.Cmp.{both_ways}
use Rattle.std.specs.Int.{int_min, int_max}
use Rattle.std.proofs.lemmas.Int.{ints}
use Rattle.std.proofs.lemmas.List.Folds.{list_any_more, list_all_more}
use Rattle.std.proofs.lemmas.Option.{slice_get_within, get_or_from_slice_get}
use Rattle.std.proofs.lemmas.Bool.Decides.{Decides-int_eq}
use Rattle.fz_store.specs.of_meaning.Relations.{◌=ℤ◌, is_among}
use Rattle.fz_store.proofs.of_meaning.Values.{no, and_first, and_second, and_both, same_int, int_itself}

-- what an order keeps
pub record IsOrder (below : ℤ → ℤ → Bool) : Type 0 where
  pub itself : (a : ℤ) → below a a ≡ true
  pub steps : (a b c : ℤ) → below a b ≡ true → below b c ≡ true → below a c ≡ true
  pub meets : (a b : ℤ) → below a b ≡ true → below b a ≡ true → a ≡ b

-- m is an element, and each element is below it
abbrev pub is_best : (ℤ → ℤ → Bool) → ℤ → List ℤ → Bool
is_best below m xs = is_among m xs && list_all (λ x. below x m) xs

module _ (below : ℤ → ℤ → Bool) (order : IsOrder below) where
  all_below : (m n : ℤ) (xs : List ℤ) → below m n ≡ true → list_all (λ x. below x m) xs ≡ true
      → list_all (λ x. below x n) xs ≡ true
  all_below m n [] up e = refl
  all_below m n (x ∷ xs) up e =
      and_both (below x n) (list_all (λ y. below y n) xs)
      (order.steps x m n (and_first (below x m) (list_all (λ y. below y m) xs) e) up)
      (all_below m n xs up (and_second (below x m) (list_all (λ y. below y m) xs) e))

  below_when_listed : (m a : ℤ) (xs : List ℤ) → list_all (λ x. below x m) xs ≡ true
      → is_among a xs ≡ true → below a m ≡ true
  below_when_listed m a [] all one = no one
  below_when_listed m a (x ∷ xs) all one =
      elim (x =ℤ a) as (λ b. (x =ℤ a) ≡ b → (b || is_among a xs) ≡ true → below a m ≡ true) [
        | true ↦ λ same _. subst (λ y. below y m ≡ true) (same_int x a same) (and_first (below x m) (list_all (λ y. below y m) xs) all)
        | false ↦ λ _ later. below_when_listed m a xs (and_second (below x m) (list_all (λ y. below y m) xs) all) later
      ] refl one

  pub first_is_best : (xs : List ℤ) (x : ℤ) → slice_get xs 0 ≡ Some x
      → is_best below x (take 1 xs) ≡ true
  first_is_best [] x at = cc
  first_is_best (y ∷ ys) x at =
      let same : y ≡ x = cc in
      rw same (and_both ((x =ℤ x) || false) (below x x && true) (ap (λ b. b || false) (int_itself x)) (and_both (below x x) true (order.itself x) refl))

  -- one more element: the best is the better of the two
  pub better : (xs : List ℤ) (i : ℕ) (m n x : ℤ) → slice_get xs i ≡ Some x
      → is_best below m (take i xs) ≡ true → below m n ≡ true → below x n ≡ true → (n ≡ m) ⊎ (n ≡ x)
      → is_best below n (take (i + 1) xs) ≡ true
  better xs i m n x at best up up_x which =
      let inside : i < length xs = slice_get_within xs i x at in
      let here : get_or xs i x ≡ x = get_or_from_slice_get xs i x x at in
      let among : is_among m (take i xs) ≡ true = and_first (is_among m (take i xs)) (list_all (λ y. below y m) (take i xs)) best in
      let all : list_all (λ y. below y m) (take i xs) ≡ true = and_second (is_among m (take i xs)) (list_all (λ y. below y m) (take i xs)) best in
      and_both (is_among n (take (i + 1) xs)) (list_all (λ y. below y n) (take (i + 1) xs))
      (list_any_more (λ y. y =ℤ n) xs i x inside ∙ ap (λ y. is_among n (take i xs) || (y =ℤ n)) here ∙ listed among which)
      (list_all_more (λ y. below y n) xs i x inside ∙ ap (λ y. list_all (λ z. below z n) (take i xs) && below y n) here
      ∙ and_both (list_all (λ z. below z n) (take i xs)) (below x n) (all_below m n (take i xs) up all) up_x)
    where
      or_second : (p q : Bool) → q ≡ true → (p || q) ≡ true
      or_second true q e = refl
      or_second false q e = e

      listed : is_among m (take i xs) ≡ true → (n ≡ m) ⊎ (n ≡ x)
          → (is_among n (take i xs) || (x =ℤ n)) ≡ true
      listed among (inl same) = rw same (ap (λ b. b || (x =ℤ m)) among)
      listed among (inr same) = rw same (or_second (is_among x (take i xs)) (x =ℤ x) (int_itself x))

  -- there is no other
  pub is_the_best : (xs : List ℤ) (m a : ℤ) → is_best below m xs ≡ true
      → (a =ℤ m) ≡ is_best below a xs
  is_the_best xs m a best =
      both_ways (a =ℤ m) (is_best below a xs)
      (λ same. subst (λ n. is_best below n xs ≡ true) (sym (same_int a m same)) best)
      (λ other. (Decides-int_eq a m).1 (order.meets a m
      (below_when_listed m a xs (and_second (is_among m xs) (list_all (λ y. below y m) xs) best) (and_first (is_among a xs) (list_all (λ y. below y a) xs) other))
      (below_when_listed a m xs (and_second (is_among a xs) (list_all (λ y. below y a) xs) other) (and_first (is_among m xs) (list_all (λ y. below y m) xs) best))))

abbrev pub not_above : ℤ → ℤ → Bool
not_above x m = int_le x m

abbrev pub not_below : ℤ → ℤ → Bool
not_below x m = int_le m x

pub upward : IsOrder not_above
upward = record {
  itself = λ a. grind (arith, ints);
  steps = λ a b c h k. grind (arith, ints);
  meets = λ a b h k. grind (arith, ints);
}

pub downward : IsOrder not_below
downward = record {
  itself = λ a. upward.itself a;
  steps = λ a b c h k. upward.steps c b a k h;
  meets = λ a b h k. upward.meets a b k h;
}

pub below_max : (a b : ℤ) → int_le a (int_max a b) ≡ true
below_max a b = grind (arith, ints)

pub below_max' : (a b : ℤ) → int_le b (int_max a b) ≡ true
below_max' a b = grind (arith, ints)

pub above_min : (a b : ℤ) → int_le (int_min a b) a ≡ true
above_min a b = grind (arith, ints)

pub above_min' : (a b : ℤ) → int_le (int_min a b) b ≡ true
above_min' a b = grind (arith, ints)

pub max_is_one : (a b : ℤ) → (int_max a b ≡ a) ⊎ (int_max a b ≡ b)
max_is_one a b = grind (arith, ints)

pub min_is_one : (a b : ℤ) → (int_min a b ≡ a) ⊎ (int_min a b ≡ b)
min_is_one a b = grind (arith, ints)

pub one_more_up : (xs : List ℤ) (i : ℕ) (m n x : ℤ) → slice_get xs i ≡ Some x
    → is_best not_above m (take i xs) ≡ true → n ≡ int_max m x
    → is_best not_above n (take (i + 1) xs) ≡ true
one_more_up xs i m n x at best is = rw is (better not_above upward xs i m (int_max m x) x at best (below_max m x) (below_max' m x) (max_is_one m x))

pub one_more_down : (xs : List ℤ) (i : ℕ) (m n x : ℤ) → slice_get xs i ≡ Some x
    → is_best not_below m (take i xs) ≡ true → n ≡ int_min m x
    → is_best not_below n (take (i + 1) xs) ≡ true
one_more_down xs i m n x at best is = rw is (better not_below downward xs i m (int_min m x) x at best (above_min m x) (above_min' m x) (min_is_one m x))
