-- The sum of those numbers whose companion passes a test, taken one after another.
use Rattle.std.proofs.Common.{◌≡◌, ℕ, ◌+◌, ◌<◌, ◌≤◌, ℤ, pos, ◌+ℤ◌, Bool, true, false, List, [], ◌∷◌, drop, length, map, min, Some, slice_get, refl, ap, ◌∙◌, arith}
use Rattle.std.proofs.lemmas.Int.{ints}
use Rattle.std.proofs.lemmas.Slice.Zip.{length-zip}
use Rattle.std.specs.List.{filter, zip}
use Rattle.std.specs.Prelude.{cond}
use Rattle.fz_model.specs.Relations.{total}
use Rattle.fz_model.proofs.of_builtins.of_kernel.Left.{next, none_left}

abbrev pub chosen : {A : Type 0} → (A → Bool) → List (A × ℤ) → ℤ
chosen test ps = total (map (λ p. p.1) (filter (λ p. test p.0) ps))

pub one_kept : {A : Type 0} (b : Bool) (a : A) (n : ℤ) (ps : List (A × ℤ))
    → total (map (λ p. p.1) (cond b ((a, n) ∷ ps) ps))
    ≡ cond b n (pos 0) +ℤ total (map (λ p. p.1) ps)
one_kept true a n ps = refl
one_kept false a n ps = from_zero (total (map (λ p. p.1) ps))
  where
    from_zero : (z : ℤ) → z ≡ (pos 0 +ℤ z)
    from_zero z = omega (arith, ints)

pub next_chosen : {A : Type 0} (test : A → Bool) (ps : List (A × ℤ)) (i : ℕ) (a : A) (n : ℤ)
    → slice_get ps i ≡ Some (a, n) → chosen test (drop i ps)
    ≡ cond (test a) n (pos 0) +ℤ chosen test (drop (i + 1) ps)
next_chosen test ps i a n at =
    ap (chosen test) (next ps i (a, n) at) ∙ one_kept (test a) a n (filter (λ p. test p.0) (drop (i + 1) ps))

-- ---- arrays that are read at the same index

pub none_in_both : {A B : Type 0} (xs : List A) (ys : List B) (m n i : ℕ) → m ≡ length xs
    → n ≡ length ys → min m n ≤ i → drop i (zip xs ys) ≡ []
none_in_both xs ys m n i d e past =
    let both : length (zip xs ys) ≡ min (length xs) (length ys) = length-zip xs ys in
    none_left (zip xs ys) i (omega arith)

pub both_counted : {A B : Type 0} (xs : List A) (ys : List B) (m n k : ℕ) → m ≡ length xs
    → n ≡ length ys → k ≡ min m n → k ≡ length (zip xs ys)
both_counted xs ys m n k d e f =
    let both : length (zip xs ys) ≡ min (length xs) (length ys) = length-zip xs ys in
    omega arith

pub some_in_both : {A B : Type 0} (xs : List A) (ys : List B) (m n i : ℕ) → m ≡ length xs
    → n ≡ length ys → i < min m n → 0 < length (zip xs ys)
some_in_both xs ys m n i d e within =
    let both : length (zip xs ys) ≡ min (length xs) (length ys) = length-zip xs ys in
    omega arith
