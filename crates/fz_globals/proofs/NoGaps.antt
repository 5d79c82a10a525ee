-- A set has no gap just where it is one range at most.
use Rattle.std.proofs.Common.{◌≡◌, ◌≤◌, ◌<◌, ℤ, pos, ◌+ℤ◌, ◌≤ℤ◌, int_le, int_cmp, Bool, true, false, ◌||◌, List, [], ◌∷◌, length, refl, sym, ap, ◌∙◌, arith}
use Rattle.std.specs.List.{list_all, list_any}
use Rattle.std.specs.Ordering.{eq_by_cmp}
use Rattle.std.specs.Cmp.{int_cmp_total}
use Rattle.std.specs.FinSet as sets
use Rattle.std.proofs.lemmas.Bool.{or_left, or_right}
use Rattle.std.proofs.lemmas.Int.{ints}
use Rattle.fz_kernel.specs.of_meaning.of_base.Sets.{NumberSet, numbers_between}
use Rattle.fz_kernel.specs.of_meaning.of_base.Ranges.{AreInOrder, covers, is_between}
use Rattle.fz_kernel.specs.of_meaning.of_base.declared.ranges.Range.{Range}
use Rattle.fz_kernel.proofs.of_meaning.of_base.Covers.{between_yes, between_above, covers_below, or-false}
use Rattle.fz_kernel.proofs.of_meaning.of_base.Numbers.{contains-numbers_between}
use Rattle.fz_kernel.specs.of_meaning.Relations.{is_convex}
use Rattle.fz_kernel.proofs.of_meaning.Values.{no, and_first, and_second, and_both, same_int, int_itself}

-- ---- a test of each element of a set

each_listed : (p : ℤ → Bool) (ns : List ℤ)
    → ((x : ℤ) → list_any (eq_by_cmp int_cmp x) ns ≡ true → p x ≡ true) → list_all p ns ≡ true
each_listed p [] h = refl
each_listed p (n ∷ ns) h =
    and_both (p n) (list_all p ns) (h n (or_left (eq_by_cmp int_cmp n n) _ (int_itself n)))
    (each_listed p ns (λ x in_it. h x (or_right (eq_by_cmp int_cmp x n) _ in_it)))

listed_each : (p : ℤ → Bool) (ns : List ℤ) → list_all p ns ≡ true → (x : ℤ)
    → list_any (eq_by_cmp int_cmp x) ns ≡ true → p x ≡ true
listed_each p [] h x in_it = no in_it
listed_each p (n ∷ ns) h x in_it =
    elim (eq_by_cmp int_cmp x n) as (λ b. eq_by_cmp int_cmp x n ≡ b → (b || list_any (eq_by_cmp int_cmp x) ns) ≡ true → p x ≡ true) [
      | true ↦ λ e _. let same : x ≡ n = same_int x n e in ap p same ∙ and_first (p n) (list_all p ns) h
      | false ↦ λ _ later. listed_each p ns (and_second (p n) (list_all p ns) h) x later
    ] refl in_it

pub each_element : (p : ℤ → Bool) (s : NumberSet)
    → ((x : ℤ) → sets.contains s x ≡ true → p x ≡ true) → list_all p (sets.items s) ≡ true
each_element p s h = each_listed p (sets.items s) (λ x in_it. h x (sets.contains-items s x ∙ in_it))

pub element_each : (p : ℤ → Bool) (s : NumberSet) → list_all p (sets.items s) ≡ true → (x : ℤ)
    → sets.contains s x ≡ true → p x ≡ true
element_each p s all x in_s = listed_each p (sets.items s) all x (sym (sets.contains-items s x) ∙ in_s)

-- an element that passes
pub some_element : (p : ℤ → Bool) (s : NumberSet) → list_any p (sets.items s) ≡ true
    → (x : ℤ) × (sets.contains s x ≡ true) × (p x ≡ true)
some_element p s any =
    let there = listed_one (sets.items s) any in
    (there.0, sets.contains-items s there.0 ∙ there.1, there.2)
  where
    listed_one : (ns : List ℤ) → list_any p ns ≡ true
        → (x : ℤ) × (list_any (eq_by_cmp int_cmp x) ns ≡ true) × (p x ≡ true)
    listed_one [] any = no any
    listed_one (n ∷ ns) any =
        elim (p n) as (λ b. p n ≡ b → (b || list_any p ns) ≡ true → (x : ℤ) × (list_any (eq_by_cmp int_cmp x) (n ∷ ns) ≡ true) × (p x ≡ true)) [
          | true ↦ λ passes _. (n, or_left (eq_by_cmp int_cmp n n) _ (int_itself n), passes)
          | false ↦ λ _ later.
              let there = listed_one ns later in
              (there.0, or_right (eq_by_cmp int_cmp there.0 n) _ there.1, there.2)
        ] refl any

pub element_some : (p : ℤ → Bool) (s : NumberSet) (x : ℤ) → sets.contains s x ≡ true → p x ≡ true
    → list_any p (sets.items s) ≡ true
element_some p s x in_s passes = one_listed (sets.items s) (sym (sets.contains-items s x) ∙ in_s)
  where
    one_listed : (ns : List ℤ) → list_any (eq_by_cmp int_cmp x) ns ≡ true → list_any p ns ≡ true
    one_listed [] in_it = no in_it
    one_listed (n ∷ ns) in_it =
        elim (eq_by_cmp int_cmp x n) as (λ b. eq_by_cmp int_cmp x n ≡ b → (b || list_any (eq_by_cmp int_cmp x) ns) ≡ true → (p n || list_any p ns) ≡ true) [
          | true ↦ λ e _. let same : x ≡ n = same_int x n e in or_left (p n) _ (ap p (sym same) ∙ passes)
          | false ↦ λ _ later. or_right (p n) _ (one_listed ns later)
        ] refl in_it

-- ---- gaps

at_most : (a b : ℤ) → int_le a b ≡ true → a ≤ℤ b
at_most a b e = grind (arith, ints)

-- a number between two elements is none
pub gap : (s : NumberSet) (x q y : ℤ) → sets.contains s x ≡ true → sets.contains s y ≡ true → x ≤ℤ q
    → q ≤ℤ y → sets.contains s q ≡ false → is_convex s ≡ false
gap s x q y first last low high out = by (is_convex s) refl
  where
    by : (b : Bool) → is_convex s ≡ b → is_convex s ≡ false
    by false e = e
    by true e =
        let row : list_all (λ w. sets.is_subset (numbers_between x w) s) (sets.items s) ≡ true =
        element_each (λ v. list_all (λ w. sets.is_subset (numbers_between v w) s) (sets.items s)) s e x first in
        let all : sets.is_subset (numbers_between x y) s ≡ true = element_each (λ w. sets.is_subset (numbers_between x w) s) s row y last in
        let inside : sets.contains (numbers_between x y) q ≡ true = contains-numbers_between x y q ∙ between_yes x y q low high in
        no (sym out ∙ sets.is_subset-contains int_cmp_total (numbers_between x y) s all q inside)

-- the elements are those from lo to hi
pub one_stretch : (s : NumberSet) (lo hi : ℤ) → ((x : ℤ) → sets.contains s x ≡ is_between lo hi x)
    → is_convex s ≡ true
one_stretch s lo hi told =
    each_element (λ x. list_all (λ y. sets.is_subset (numbers_between x y) s) (sets.items s)) s (λ x in_x.
    each_element (λ y. sets.is_subset (numbers_between x y) s) s (λ y in_y.
    sets.contains-is_subset int_cmp_total (numbers_between x y) s (λ q in_q.
    told q ∙ within x y q (sym (told x) ∙ in_x) (sym (told y) ∙ in_y) (sym (contains-numbers_between x y q) ∙ in_q))))
  where
    within : (x y q : ℤ) → is_between lo hi x ≡ true → is_between lo hi y ≡ true → is_between x y q ≡ true
        → is_between lo hi q ≡ true
    within x y q dx dy dq =
        let low : lo ≤ℤ x = at_most lo x (and_first (int_le lo x) (int_le x hi) dx) in
        let high : y ≤ℤ hi = at_most y hi (and_second (int_le lo y) (int_le y hi) dy) in
        let above : x ≤ℤ q = at_most x q (and_first (int_le x q) (int_le q y) dq) in
        let below : q ≤ℤ y = at_most q y (and_second (int_le x q) (int_le q y) dq) in
        between_yes lo hi q (omega (arith, ints)) (omega (arith, ints))

module _ (s : NumberSet) (from : ℤ) where
  few_ranges : (rs : List Range) → ((x : ℤ) → covers rs x ≡ sets.contains s x) → length rs ≤ 1
      → is_convex s ≡ true
  few_ranges [] told few = one_stretch s (pos 1) (pos 0) (λ x. sym (told x) ∙ sym (none x))
    where
      none : (x : ℤ) → is_between (pos 1) (pos 0) x ≡ false
      none x = grind (arith, ints)
  few_ranges (r ∷ []) told few = one_stretch s r.lo r.hi (λ x. sym (told x) ∙ or-false (is_between r.lo r.hi x))
  few_ranges (r ∷ q ∷ rs) told few = absurd (omega arith)

  more_ranges : (rs : List Range) → AreInOrder from rs → ((x : ℤ) → covers rs x ≡ sets.contains s x)
      → 1 < length rs → is_convex s ≡ false
  more_ranges [] order told more = absurd (omega arith)
  more_ranges (r ∷ []) order told more = absurd (omega arith)
  more_ranges (r ∷ q ∷ rs) order told more =
      let behind = r.hi +ℤ pos 1 in
      let low : r.lo ≤ℤ r.hi = order.1 in
      let next : (r.hi +ℤ pos 2) ≤ℤ q.lo = order.3.0 in
      let some : q.lo ≤ℤ q.hi = order.3.1 in
      let first : covers (r ∷ q ∷ rs) r.lo ≡ true = or_left (is_between r.lo r.hi r.lo) _ (between_yes r.lo r.hi r.lo (omega (arith, ints)) low) in
      let last : covers (r ∷ q ∷ rs) q.lo ≡ true = or_right (is_between r.lo r.hi q.lo) _ (or_left (is_between q.lo q.hi q.lo) _ (between_yes q.lo q.hi q.lo (omega (arith, ints)) some)) in
      let beyond : is_between r.lo r.hi behind ≡ false = between_above r.lo r.hi behind (omega (arith, ints)) in
      let before : covers (q ∷ rs) behind ≡ false = covers_below (r.hi +ℤ pos 2) behind (q ∷ rs) order.3 (omega (arith, ints)) in
      let out : covers (r ∷ q ∷ rs) behind ≡ false = λ i. beyond i || before i in
      gap s r.lo behind q.lo (sym (told r.lo) ∙ first) (sym (told q.lo) ∙ last) (omega (arith, ints)) (omega (arith, ints)) (sym (told behind) ∙ out)

  -- whether there is one range at most is told
  pub counted : (rs : List Range) → AreInOrder from rs → ((x : ℤ) → covers rs x ≡ sets.contains s x)
      → (few : Bool) → (few ≡ true → length rs ≤ 1) → (few ≡ false → 1 < length rs)
      → few ≡ is_convex s
  counted rs order told true at_most_one _ = sym (few_ranges rs told (at_most_one refl))
  counted rs order told false _ more = sym (more_ranges rs order told (more refl))
