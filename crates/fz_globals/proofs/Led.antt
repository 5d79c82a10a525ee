-- Lists of successors: the elements as positions, and inverse lists.
use Rattle.std.proofs.Common.{◌≡◌, ℕ, suc, zero, ◌+◌, ◌≤◌, ℤ, pos, negsuc, ◌+ℤ◌, ◌-ℤ◌, Bool, true, false, not, ◌&&◌, ◌||◌, List, [], ◌∷◌, length, Some, option_map, slice_get, refl, sym, ap, ◌∙◌, arith, add-one, rules}
use Rattle.std.specs.Option.{option_map_or}
use Rattle.std.proofs.lemmas.Int.{ints}
use Rattle.std.proofs.lemmas.List.{length-map}
use Rattle.std.proofs.lemmas.Option.{slice_get-map}
use Rattle.std.proofs.lemmas.Grind.{common_steps}
use Rattle.fz_kernel.specs.of_meaning.Relations.{◌=ℤ◌, all_different, element_at, is_among, as_places, lies_between}
use Rattle.fz_kernel.proofs.of_meaning.Values.{no, and_first, and_second}
use Rattle.fz_kernel.proofs.Passed.{element_is}

-- ---- elements as positions

abbrev pub as_place : ℤ → ℤ → ℤ
as_place o x = (x -ℤ o) +ℤ pos 1

pub placed_at : (o : ℤ) (xs : List ℤ) (k : ℕ) (x : ℤ) → slice_get xs k ≡ Some x
    → slice_get (as_places o xs) k ≡ Some (as_place o x)
placed_at o xs k x at = slice_get-map (as_place o) xs k ∙ ap (option_map (as_place o)) at

pub placed_counted : (o : ℤ) (xs : List ℤ) → length (as_places o xs) ≡ length xs
placed_counted o xs = length-map xs (as_place o)

pub shifted : (d p : ℤ) → (d =ℤ p) ≡ ((d +ℤ pos 1) =ℤ (p +ℤ pos 1))
shifted d p = grind (arith, ints)

same_place : (o x y : ℤ) → (x =ℤ y) ≡ (as_place o x =ℤ as_place o y)
same_place o x y = grind (arith, ints)

among_places : (o a : ℤ) (xs : List ℤ) → is_among (as_place o a) (as_places o xs) ≡ is_among a xs
among_places o a [] = refl
among_places o a (x ∷ xs) = λ k. sym (same_place o x a) k || among_places o a xs k

-- elements are as different as their positions
pub different_places : (o : ℤ) (xs : List ℤ) → all_different xs ≡ all_different (as_places o xs)
different_places o [] = refl
different_places o (x ∷ xs) = λ k. not (sym (among_places o x xs) k) && different_places o xs k

pub is_no_place : (n : ℤ) (count : ℕ) → ((k : ℕ) → n ≡ pos (k + 1) → count ≤ k)
    → lies_between (pos 1) (pos count) n ≡ true → ⊥
is_no_place (pos zero) count none e = no e
is_no_place (pos (suc k)) count none e =
    let past : count ≤ k = none k (ap pos (sym (add-one k))) in
    beyond k count past e
  where
    beyond : (k count : ℕ) → count ≤ k → lies_between (pos 1) (pos count) (pos (suc k)) ≡ true → ⊥
    beyond k count past e = grind (arith, ints)
is_no_place (negsuc k) count none e = no e

-- ---- the element at a position

pub element_place : (xs : List ℤ) (n c : ℤ) → element_at xs n ≡ Some c
    → (k : ℕ) × (n ≡ pos (suc k)) × (slice_get xs k ≡ Some c)
element_place (x ∷ xs) (pos (suc k)) c e = (k, refl, sym (element_is (x ∷ xs) k) ∙ e)
element_place _ n c e = cc

pub listed_at : (xs : List ℤ) (k : ℕ) (c : ℤ) → slice_get xs k ≡ Some c → is_among c xs ≡ true
listed_at [] k c at = cc
listed_at (x ∷ xs) zero c at = grind (arith, common_steps)
listed_at (x ∷ xs) (suc k) c at = elim (x =ℤ c) as (λ b. (b || is_among c xs) ≡ true) [ true ↦ refl | false ↦ listed_at xs k c at ]

twice : (x : ℤ) (xs : List ℤ) (j : ℕ) (c : ℤ) → all_different (x ∷ xs) ≡ true → Some x ≡ Some c
    → slice_get xs j ≡ Some c → ⊥
twice x xs j c apart here there = search (rules, no, listed_at, and_first)

-- a number is at one position of a list whose elements are different
pub one_place : (xs : List ℤ) (k j : ℕ) (c : ℤ) → all_different xs ≡ true → slice_get xs k ≡ Some c
    → slice_get xs j ≡ Some c → k ≡ j
one_place [] k j c apart at_k at_j = cc
one_place (x ∷ xs) zero zero c apart at_k at_j = refl
one_place (x ∷ xs) zero (suc j) c apart at_k at_j = absurd (twice x xs j c apart at_k at_j)
one_place (x ∷ xs) (suc k) zero c apart at_k at_j = absurd (twice x xs k c apart at_j at_k)
one_place (x ∷ xs) (suc k) (suc j) c apart at_k at_j = ap suc (one_place xs k j c (and_second (not (is_among x xs)) (all_different xs) apart) at_k at_j)

-- ---- where the second list is the inverse

abbrev pub leads_to : List ℤ → ℤ → ℤ → Bool
leads_to g x p = option_map_or (λ y. y =ℤ p) (element_at g x) false
