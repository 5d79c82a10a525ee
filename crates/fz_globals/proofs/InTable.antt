-- Two lists compared index by index, and the rows of a table one after another.
use Rattle.std.proofs.Common.{◌≡◌, ℕ, suc, zero, ◌+◌, ◌*◌, ◌<◌, ◌≤◌, Bool, true, false, ◌&&◌, ◌||◌, List, [], ◌∷◌, drop, take, length, refl, ap, ◌∙◌, arith, rules}
use Rattle.std.specs.List.{list_any}
use Rattle.std.proofs.lemmas.List.{length-drop, drop-drop}
use Rattle.std.proofs.lemmas.Nat.{mod-mul-add, mul-add-lt}
use Rattle.std.proofs.lemmas.Grind.{common_steps}
use Rattle.fz_kernel.specs.of_meaning.Relations.{all_both, is_same_list, is_row_of, rows_of, rows_within}

-- ---- lists that are compared

-- with the front of a list that is no shorter
pub same_front : {A : Type 0} (same : A → A → Bool) (xs ys : List A) → length xs ≤ length ys
    → all_both same xs ys ≡ is_same_list same xs (take (length xs) ys)
same_front same [] ys h = refl
same_front same (x ∷ xs) [] h = absurd (omega arith)
same_front same (x ∷ xs) (y ∷ ys) h = ap (λ b. same x y && b) (same_front same xs ys (omega arith))

-- ---- rows

-- the number of rows that is asked for doesn't matter where it is large enough
enough : {A : Type 0} (k j n : ℕ) (xs : List A) → length xs ≤ k → length xs ≤ j
    → rows_within k (suc n) xs ≡ rows_within j (suc n) xs
enough zero (suc j) n (x ∷ xs) h g = absurd (omega arith)
enough (suc k) zero n (x ∷ xs) h g = absurd (omega arith)
enough (suc k) (suc j) n (x ∷ xs) h g = ap (λ r. take (suc n) (x ∷ xs) ∷ r) (enough k j n (drop n xs) (omega (arith, length-drop n xs)) (omega (arith, length-drop n xs)))
enough _ _ n xs h g = refl

first_row : {A : Type 0} (n : ℕ) (xs : List A) → 0 < n → 0 < length xs
    → rows_of n xs ≡ take n xs ∷ rows_of n (drop n xs)
first_row (suc n) (x ∷ xs) h g = ap (λ r. take (suc n) (x ∷ xs) ∷ r) (enough (length xs) (length (drop n xs)) n (drop n xs) (omega (arith, length-drop n xs)) (omega arith))
first_row _ xs h g = absurd (omega arith)

-- a table of so many rows, of which i are done
module _ {A : Type 0} (test : List A → Bool) (t : List A) (n rows i : ℕ) (wide : 0 < n) (whole : rows * n ≡ length t) (r : Bool) (so_far : r ≡ list_any test (rows_of n (drop (i * n) t))) where
  one_row : i < rows → r ≡ (test (take n (drop (i * n) t))
      || list_any test (rows_of n (drop ((i + 1) * n) t)))
  one_row more =
      let inside : i * n < length t = omega (arith, mul-add-lt i n 0 rows more wide) in
      let rest : drop n (drop (i * n) t) ≡ drop ((i + 1) * n) t = drop-drop n (i * n) t ∙ ap (λ m. drop m t) (row_more i n) in
      so_far ∙ ap (list_any test) (first_row n (drop (i * n) t) wide (omega (arith, length-drop (i * n) t))) ∙ ap (λ l. test (take n (drop (i * n) t)) || list_any test (rows_of n l)) rest
    where
      row_more : (i n : ℕ) → i * n + n ≡ (i + 1) * n
      row_more i n = omega arith

  pub row_fails : i < rows → (start : ℕ) → start ≡ i * n → test (take n (drop start t)) ≡ false
      → r ≡ list_any test (rows_of n (drop ((i + 1) * n) t))
  row_fails more start is failed = search (rules, one_row)

module _ {A : Type 0} (same : A → A → Bool) where
  pub whole_rows : (xs t : List A) (rows : ℕ) → 0 < length xs → rows * length xs ≡ length t
      → is_row_of same xs t ≡ list_any (is_same_list same xs)
      (rows_of (length xs) (drop (0 * length xs) t))
  whole_rows xs t rows wide whole = grind (arith, common_steps, mod-mul-add)
