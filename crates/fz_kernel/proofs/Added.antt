-- Sums that are added one after another, from the left.
use Rattle.std.proofs.Common.{◌≡◌, ℕ, ◌+◌, ◌*◌, ◌≤◌, ℤ, pos, negsuc, ◌+ℤ◌, ◌*ℤ◌, neg_ℤ, ◌≤ℤ◌, Bool, true, false, not, ◌&&◌, ◌⊎◌, inl, inr, List, [], ◌∷◌, drop, length, Some, slice_get, FitsSigned, w64, to_z, of_z, refl, sym, ap, ◌∙◌, arith}
use Rattle.std.specs.Int.{w128}
use Rattle.std.specs.List.{list_all}
use Rattle.std.proofs.lemmas.Int.{ints, to_z-of_z}
use Rattle.std.proofs.lemmas.Bool.Decides.{nat_tests}
use Rattle.fz_store.specs.of_meaning.Relations.{total, products, where_true}
use Rattle.fz_store.specs.of_meaning.States.{sums_from, fits_128, leaves_128}
use Rattle.fz_kernel.proofs.Left.{next, next_is, none_left}

-- ---- what a number of 128 bits is

pub fits_is : (z : ℤ) → FitsSigned w128 z → fits_128 z ≡ true
fits_is (pos n) fits = grind (arith, ints, nat_tests)
fits_is (negsuc n) fits = grind (arith, ints, nat_tests)

pub fits_not : (z : ℤ) → ¬ (FitsSigned w128 z) → fits_128 z ≡ false
fits_not z out = elim (fits_128 z) as (λ b. fits_128 z ≡ b → b ≡ false) [ true ↦ λ e. absurd (out (in_range z e)) | false ↦ λ _. refl ] refl
  where
    in_range : (z : ℤ) → fits_128 z ≡ true → FitsSigned w128 z
    in_range (pos n) e = grind (arith, ints, nat_tests)
    in_range (negsuc n) e = grind (arith, ints, nat_tests)

-- a product of numbers of 64 bits, as the code passes them on
pub passed_on : (p x y : ℤ) → FitsSigned w128 p → FitsSigned w64 x → FitsSigned w64 y
    → p ≡ (to_z w64 (of_z w64 x) *ℤ to_z w64 (of_z w64 y)) → to_z w128 (of_z w128 p) ≡ (x *ℤ y)
passed_on p x y fits fits_x fits_y e = to_z-of_z w128 p fits ∙ e ∙ ap (λ a. a *ℤ to_z w64 (of_z w64 y)) (to_z-of_z w64 x fits_x) ∙ ap (λ b. x *ℤ b) (to_z-of_z w64 y fits_y)

-- ---- a[i] * b[i]

-- s is the sum of the first i products; the partial sums leave 128 bits where those from s on do
pub record IsAdded (xs ys : List ℤ) (i : ℕ) (s : ℤ) : Type 0 where
  pub on_the_way : list_all fits_128 (sums_from (pos 0) (products xs ys))
      ≡ list_all fits_128 (sums_from s (products (drop i xs) (drop i ys)))
  pub whole : total (products xs ys) ≡ s +ℤ total (products (drop i xs) (drop i ys))

regroup : (a b c : ℤ) → (a +ℤ (b +ℤ c)) ≡ ((a +ℤ b) +ℤ c)
regroup a b c = omega (arith, ints)

to_zero : (a : ℤ) → (a +ℤ pos 0) ≡ a
to_zero a = omega (arith, ints)

module _ (xs ys : List ℤ) (i : ℕ) (s x y : ℤ) (so_far : IsAdded xs ys i s) (at_x : slice_get xs i ≡ Some x) (at_y : slice_get ys i ≡ Some y) where
  left : products (drop i xs) (drop i ys) ≡ (x *ℤ y) ∷ products (drop (i + 1) xs) (drop (i + 1) ys)
  left = rw (next xs i x at_x, next ys i y at_y)

  pub one_added : (t : ℤ) → t ≡ (s +ℤ (x *ℤ y)) → FitsSigned w128 t → IsAdded xs ys (i + 1) t
  one_added t is fits =
      let inside : fits_128 (s +ℤ (x *ℤ y)) ≡ true = ap fits_128 (sym is) ∙ fits_is t fits in
      rw is (record {
        on_the_way = so_far.on_the_way ∙ ap (λ ps. list_all fits_128 (sums_from s ps)) left
            ∙ ap (λ b. b && list_all fits_128 (sums_from (s +ℤ (x *ℤ y)) (products (drop (i + 1) xs) (drop (i + 1) ys)))) inside;
        whole = so_far.whole ∙ ap (λ ps. s +ℤ total ps) left ∙ regroup s (x *ℤ y) (total (products (drop (i + 1) xs) (drop (i + 1) ys)));
      })

  pub leaves : ¬ (FitsSigned w128 (s +ℤ (x *ℤ y))) → leaves_128 (products xs ys) ≡ true
  leaves out =
      ap not (so_far.on_the_way ∙ ap (λ ps. list_all fits_128 (sums_from s ps)) left
      ∙ ap (λ b. b && list_all fits_128 (sums_from (s +ℤ (x *ℤ y)) (products (drop (i + 1) xs) (drop (i + 1) ys)))) (fits_not (s +ℤ (x *ℤ y)) out))

products_none : (xs : List ℤ) → products xs [] ≡ []
products_none [] = refl
products_none (x ∷ xs) = refl

-- where one list is used up
pub no_products_left : (xs ys : List ℤ) (i : ℕ) → (length xs ≤ i) ⊎ (length ys ≤ i)
    → products (drop i xs) (drop i ys) ≡ []
no_products_left xs ys i (inl end) = ap (λ l. products l (drop i ys)) (none_left xs i end)
no_products_left xs ys i (inr end) = ap (λ l. products (drop i xs) l) (none_left ys i end) ∙ products_none (drop i xs)

pub stays_within : (xs ys : List ℤ) (i : ℕ) (s : ℤ) → IsAdded xs ys i s
    → products (drop i xs) (drop i ys) ≡ [] → leaves_128 (products xs ys) ≡ false
stays_within xs ys i s so_far end = ap not (so_far.on_the_way ∙ ap (λ ps. list_all fits_128 (sums_from s ps)) end)

pub all_added : (xs ys : List ℤ) (i : ℕ) (s : ℤ) → IsAdded xs ys i s
    → products (drop i xs) (drop i ys) ≡ [] → s ≡ total (products xs ys)
all_added xs ys i s so_far end = sym (so_far.whole ∙ ap (λ ps. s +ℤ total ps) end ∙ to_zero s)

-- ---- the a[i] for which b[i] is true

-- s is the sum of those among the first i; each is between -2^63 and 2^63
pub record IsCounted (xs : List ℤ) (bs : List Bool) (i : ℕ) (s : ℤ) : Type 0 where
  pub whole : total (where_true xs bs) ≡ s +ℤ total (where_true (drop i xs) (drop i bs))
  pub low : neg_ℤ (pos (9223372036854775808 * i)) ≤ℤ s
  pub high : s ≤ℤ pos (9223372036854775808 * i)

module _ (xs : List ℤ) (bs : List Bool) (i : ℕ) (s x : ℤ) (b : Bool) (so_far : IsCounted xs bs i s) (at_x : slice_get xs i ≡ Some x) (at_b : slice_get bs i ≡ Some b) where
  pub one_counted : (t : ℤ) → t ≡ (s +ℤ x) → b ≡ true → FitsSigned w64 x → IsCounted xs bs (i + 1) t
  one_counted t is is_true fits =
      let low : neg_ℤ (pos (9223372036854775808 * i)) ≤ℤ s = so_far.low in
      let high : s ≤ℤ pos (9223372036854775808 * i) = so_far.high in
      let left : where_true (drop i xs) (drop i bs) ≡ x ∷ where_true (drop (i + 1) xs) (drop (i + 1) bs) = rw (next xs i x at_x, next_is bs i b true at_b is_true) in
      record {
        whole = so_far.whole ∙ ap (λ ps. s +ℤ total ps) left ∙ regroup s x (total (where_true (drop (i + 1) xs) (drop (i + 1) bs))) ∙ ap (λ u. u +ℤ total (where_true (drop (i + 1) xs) (drop (i + 1) bs))) (sym is);
        low = omega (arith, ints);
        high = omega (arith, ints);
      }

  pub one_passed : (t : ℤ) → t ≡ s → b ≡ false → IsCounted xs bs (i + 1) t
  one_passed t is is_false =
      let low : neg_ℤ (pos (9223372036854775808 * i)) ≤ℤ s = so_far.low in
      let high : s ≤ℤ pos (9223372036854775808 * i) = so_far.high in
      let left : where_true (drop i xs) (drop i bs) ≡ where_true (drop (i + 1) xs) (drop (i + 1) bs) = rw (next xs i x at_x, next_is bs i b false at_b is_false) in
      record {
        whole = so_far.whole ∙ ap (λ ps. s +ℤ total ps) left ∙ ap (λ u. u +ℤ total (where_true (drop (i + 1) xs) (drop (i + 1) bs))) (sym is);
        low = omega (arith, ints);
        high = omega (arith, ints);
      }

where_true_none : (xs : List ℤ) → where_true xs [] ≡ []
where_true_none [] = refl
where_true_none (x ∷ xs) = refl

pub none_true_left : (xs : List ℤ) (bs : List Bool) (i : ℕ) → (length xs ≤ i) ⊎ (length bs ≤ i)
    → where_true (drop i xs) (drop i bs) ≡ []
none_true_left xs bs i (inl end) = ap (λ l. where_true l (drop i bs)) (none_left xs i end)
none_true_left xs bs i (inr end) = ap (λ l. where_true (drop i xs) l) (none_left bs i end) ∙ where_true_none (drop i xs)

pub all_counted : (xs : List ℤ) (bs : List Bool) (i : ℕ) (s : ℤ) → IsCounted xs bs i s
    → where_true (drop i xs) (drop i bs) ≡ [] → s ≡ total (where_true xs bs)
all_counted xs bs i s so_far end = sym (so_far.whole ∙ ap (λ ps. s +ℤ total ps) end ∙ to_zero s)
