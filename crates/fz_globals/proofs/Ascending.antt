-- Two lists in ascending order that have each number equally often are one list.
use Rattle.std.proofs.Common.{◌≡◌, ℕ, suc, zero, ◌<◌, ◌≤◌, ℤ, ◌<ℤ◌, ◌≤ℤ◌, int_le, Bool, true, false, cond, ◌&&◌, ◌||◌, ◌⊎◌, inl, inr, nat_eq, List, [], ◌∷◌, length, filter, get_or, All, IsSorted, IsPermutation, int_cmp, sym, ap, subst, ◌∙◌, refl, arith, eq-eqb, eqb-true}
use Rattle.std.specs.List.{list_all}
use Rattle.std.specs.Cmp.{both_ways}
use Rattle.std.proofs.lemmas.Int.{ints}
use Rattle.std.proofs.lemmas.List.Sorted.{length_permutation}
use Rattle.std.proofs.lemmas.Grind.{common_steps}
use Rattle.fz_kernel.proofs.of_meaning.of_base.Covers.{at_most_yes}
use Rattle.fz_kernel.specs.of_meaning.Relations.{◌=ℤ◌, is_among, all_neighbours, is_same_list, is_sorted_form, count_of}
use Rattle.fz_kernel.proofs.of_meaning.Values.{no, no', and_first, and_second, and_both, same_int, int_itself}
use Rattle.fz_globals.proofs.Compared.{above_is_other, at_most}
use Rattle.fz_globals.proofs.Each.{filter_yes, filter_no, told-permutation, count_of-permutation}
use Rattle.fz_globals.proofs.Halving.{Ascends, ascends}

-- how often the number is listed
abbrev times : ℤ → List ℤ → ℕ
times a xs = length (filter (λ x. x =ℤ a) xs)

-- ---- neighbours in order

pub neighbours_ascend : (xs : List ℤ) → all_neighbours int_le xs ≡ true → Ascends xs
neighbours_ascend (x ∷ xs) e zero zero d before inside = omega (arith, ints)
neighbours_ascend (x ∷ y ∷ xs) e zero (suc j) d before inside =
    let step : x ≤ℤ y = at_most x y (and_first (int_le x y) (all_neighbours int_le (y ∷ xs)) e) in
    let far : y ≤ℤ get_or (y ∷ xs) j d = neighbours_ascend (y ∷ xs) (and_second (int_le x y) (all_neighbours int_le (y ∷ xs)) e) zero j d (omega arith) (omega arith) in
    omega (arith, ints)
neighbours_ascend (x ∷ y ∷ xs) e (suc i) (suc j) d before inside =
    neighbours_ascend (y ∷ xs) (and_second (int_le x y) (all_neighbours int_le (y ∷ xs)) e) i j d (omega arith) (omega arith)
neighbours_ascend _ e i j d before inside = absurd (omega arith)

ascending_neighbours : (xs : List ℤ) → Ascends xs → all_neighbours int_le xs ≡ true
ascending_neighbours (x ∷ y ∷ xs) up =
    and_both (int_le x y) (all_neighbours int_le (y ∷ xs)) (at_most_yes x y (up zero (suc zero) x (omega arith) (omega arith)))
    (ascending_neighbours (y ∷ xs) (λ i j d l h. up (suc i) (suc j) d (omega arith) (omega arith)))
ascending_neighbours _ up = refl

-- ---- the same numbers equally often

never : (a : ℤ) (xs : List ℤ) → All (λ y. a <ℤ y) xs → times a xs ≡ 0
never a [] low = refl
never a (x ∷ xs) low = filter_no (λ y. y =ℤ a) x xs (above_is_other a x (low zero x (omega arith))) ∙ never a xs (λ k d h. low (suc k) d (omega arith))

never_below : (a x : ℤ) (xs : List ℤ) → Ascends (x ∷ xs) → a <ℤ x → times a (x ∷ xs) ≡ 0
never_below a x xs up less = never a (x ∷ xs) (λ k d h. above k d h)
  where
    above : All (λ y. a <ℤ y) (x ∷ xs)
    above k d h =
        let high : x ≤ℤ get_or (x ∷ xs) k d = up zero k d (omega arith) h in
        omega (arith, ints)

not_listed : (a : ℤ) (xs : List ℤ) → is_among a xs ≡ false → times a xs ≡ 0
not_listed a [] e = refl
not_listed a (x ∷ xs) e =
    elim (x =ℤ a) as (λ s. (s || is_among a xs) ≡ false → length (cond s (x ∷ filter (λ y. y =ℤ a) xs) (filter (λ y. y =ℤ a) xs)) ≡ 0) [
      | true ↦ λ e. no' e
      | false ↦ λ e. not_listed a xs e
    ] e

without_first : (s : Bool) (x : ℤ) (us vs : List ℤ)
    → length (cond s (x ∷ us) us) ≤ length (cond s (x ∷ vs) vs) → length us ≤ length vs
without_first true x us vs h = omega arith
without_first false x us vs h = h

tail_ascends : (x : ℤ) (xs : List ℤ) → Ascends (x ∷ xs) → Ascends xs
tail_ascends x xs up i j d l h = up (suc i) (suc j) d (omega arith) (omega arith)

three_ways : (a b : ℤ) → (a ≡ b) ⊎ ((a <ℤ b) ⊎ (b <ℤ a))
three_ways a b = grind (arith, ints)

-- where each number of one list is as often in the other, that one is longer, or they are one
longer_or_same : (xs ys : List ℤ) → Ascends xs → Ascends ys → ((a : ℤ) → times a xs ≤ times a ys)
    → (length xs < length ys) ⊎ (xs ≡ ys)
longer_or_same [] [] up_x up_y few = inr refl
longer_or_same [] (y ∷ ys) up_x up_y few = inl (omega arith)
longer_or_same (x ∷ xs) [] up_x up_y few =
    let some : times x (x ∷ xs) ≡ suc (times x xs) = filter_yes (λ z. z =ℤ x) x xs (int_itself x) in
    let none : times x (x ∷ xs) ≤ 0 = few x in
    absurd (omega arith)
longer_or_same (x ∷ xs) (y ∷ ys) up_x up_y few =
    elim (three_ways x y) [
      | inl same ↦ by_rest same (longer_or_same xs ys (tail_ascends x xs up_x) (tail_ascends y ys up_y) (λ a. without_first (x =ℤ a) x (filter (λ z. z =ℤ a) xs) (filter (λ z. z =ℤ a) ys) (subst (λ z. times a (x ∷ xs) ≤ times a (z ∷ ys)) (sym same) (few a))))
      | inr (inl less) ↦
          let some : times x (x ∷ xs) ≡ suc (times x xs) = filter_yes (λ z. z =ℤ x) x xs (int_itself x) in
          let none : times x (y ∷ ys) ≡ 0 = never_below x y ys up_y less in
          let at : times x (x ∷ xs) ≤ times x (y ∷ ys) = few x in
          absurd (omega arith)
      | inr (inr more) ↦ later (longer_or_same (x ∷ xs) ys up_x (tail_ascends y ys up_y) (λ a. fewer more a (y =ℤ a) refl))
    ]
  where
    by_rest : x ≡ y → (length xs < length ys) ⊎ (xs ≡ ys)
        → (length (x ∷ xs) < length (y ∷ ys)) ⊎ ((x ∷ xs) ≡ (y ∷ ys))
    by_rest same (inl h) = inl (omega arith)
    by_rest same (inr e) = inr cc

    later : (length (x ∷ xs) < length ys) ⊎ ((x ∷ xs) ≡ ys)
        → (length (x ∷ xs) < length (y ∷ ys)) ⊎ ((x ∷ xs) ≡ (y ∷ ys))
    later (inl h) = inl (omega arith)
    later (inr e) = inl (omega (arith, ap length e))

    fewer : y <ℤ x → (a : ℤ) (s : Bool) → (y =ℤ a) ≡ s → times a (x ∷ xs) ≤ times a ys
    fewer more a true e =
        let is : y ≡ a = same_int y a e in
        let none : times a (x ∷ xs) ≡ 0 = never_below a x xs up_x (subst (λ z. z <ℤ x) is more) in
        omega arith
    fewer more a false e =
        let same : times a (y ∷ ys) ≡ times a ys = filter_no (λ z. z =ℤ a) y ys e in
        let at : times a (x ∷ xs) ≤ times a (y ∷ ys) = few a in
        omega arith

-- ---- the ascending form

same_list_is : (xs ys : List ℤ) → is_same_list ◌=ℤ◌ xs ys ≡ true → xs ≡ ys
same_list_is [] [] e = refl
same_list_is (x ∷ xs) (y ∷ ys) e =
    let one : x ≡ y = same_int x y (and_first (x =ℤ y) (is_same_list ◌=ℤ◌ xs ys) e) in
    let rest : xs ≡ ys = same_list_is xs ys (and_second (x =ℤ y) (is_same_list ◌=ℤ◌ xs ys) e) in
    cc
same_list_is _ _ e = no e

list_itself : (xs : List ℤ) → is_same_list ◌=ℤ◌ xs xs ≡ true
list_itself [] = refl
list_itself (x ∷ xs) = and_both (x =ℤ x) (is_same_list ◌=ℤ◌ xs xs) (int_itself x) (list_itself xs)

all_true : (p : ℤ → Bool) (xs : List ℤ) → ((v : ℤ) → p v ≡ true) → list_all p xs ≡ true
all_true p [] each = refl
all_true p (x ∷ xs) each = and_both (p x) (list_all p xs) (each x) (all_true p xs each)

at_listed : (p : ℤ → Bool) (xs : List ℤ) (a : ℤ) → list_all p xs ≡ true → is_among a xs ≡ true
    → p a ≡ true
at_listed p [] a all one = no one
at_listed p (x ∷ xs) a all one =
    elim (x =ℤ a) as (λ s. (x =ℤ a) ≡ s → (s || is_among a xs) ≡ true → p a ≡ true) [
      | true ↦ λ same _. subst (λ z. p z ≡ true) (same_int x a same) (and_first (p x) (list_all p xs) all)
      | false ↦ λ _ later. at_listed p xs a (and_second (p x) (list_all p xs) all) later
    ] refl one

module _ (xs zs ys : List ℤ) (moved : IsPermutation xs zs) (sorted : IsSorted int_cmp zs) where
  each_as_often : list_all (λ v. count_of xs v =ℤ count_of ys v) xs ≡ true → (a : ℤ) (s : Bool)
      → is_among a xs ≡ s → times a zs ≤ times a ys
  each_as_often all a s e =
      grind (arith, common_steps, same_int, at_listed, told-permutation, not_listed)

  told_same : is_sorted_form xs ys ≡ true → is_same_list ◌=ℤ◌ zs ys ≡ true
  told_same e =
      let counted : (nat_eq (length xs) (length ys) && list_all (λ v. count_of xs v =ℤ count_of ys v) xs) ≡ true =
      and_first (nat_eq (length xs) (length ys) && list_all (λ v. count_of xs v =ℤ count_of ys v) xs) (all_neighbours int_le ys) e in
      let up : Ascends ys = neighbours_ascend ys (and_second (nat_eq (length xs) (length ys) && list_all (λ v. count_of xs v =ℤ count_of ys v) xs) (all_neighbours int_le ys) e) in
      let lengths : nat_eq (length xs) (length ys) ≡ true = and_first (nat_eq (length xs) (length ys)) (list_all (λ v. count_of xs v =ℤ count_of ys v) xs) counted in
      let all : list_all (λ v. count_of xs v =ℤ count_of ys v) xs ≡ true = and_second (nat_eq (length xs) (length ys)) (list_all (λ v. count_of xs v =ℤ count_of ys v) xs) counted in
      ended (eqb-true (length xs) (length ys) lengths) (longer_or_same zs ys (ascends zs sorted) up (λ a. each_as_often all a (is_among a xs) refl))
    where
      ended : length xs ≡ length ys → (length zs < length ys) ⊎ (zs ≡ ys)
          → is_same_list ◌=ℤ◌ zs ys ≡ true
      ended equal (inl h) = absurd (omega (arith, length_permutation xs zs moved))
      ended equal (inr e) = subst (λ l. is_same_list ◌=ℤ◌ zs l ≡ true) e (list_itself zs)

  told_form : is_same_list ◌=ℤ◌ zs ys ≡ true → is_sorted_form xs ys ≡ true
  told_form e =
      subst (λ l. is_sorted_form xs l ≡ true) (same_list_is zs ys e)
      (and_both (nat_eq (length xs) (length zs) && list_all (λ v. count_of xs v =ℤ count_of zs v) xs) (all_neighbours int_le zs)
      (and_both (nat_eq (length xs) (length zs)) (list_all (λ v. count_of xs v =ℤ count_of zs v) xs) (eq-eqb (length xs) (length zs) (sym (length_permutation xs zs moved)))
      (all_true (λ v. count_of xs v =ℤ count_of zs v) xs (λ v. ap (λ n. n =ℤ count_of zs v) (count_of-permutation xs zs moved v) ∙ int_itself (count_of zs v))))
      (ascending_neighbours zs (ascends zs sorted)))

  pub form_is : is_same_list ◌=ℤ◌ zs ys ≡ is_sorted_form xs ys
  form_is = both_ways (is_same_list ◌=ℤ◌ zs ys) (is_sorted_form xs ys) told_form told_same
