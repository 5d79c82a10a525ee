-- Arrays that are read at the same index: what is there, and what is left after it.
use Rattle.std.proofs.Common.{◌≡◌, ℕ, ◌+◌, ◌<◌, ℤ, pos, List, ◌∷◌, drop, length, get_or, min, ap, ◌∙◌, arith}
use Rattle.std.specs.List.{zip}
use Rattle.std.proofs.lemmas.List.{drop_more}
use Rattle.std.proofs.lemmas.Slice.Zip.{length-zip, get_or-zip}
use Rattle.fz_kernel.specs.of_meaning.Relations.{boxes}
use Rattle.fz_scheduling.specs.Places.{number_at, span_at, box_at}

pub next_number : (xs : List ℤ) (i : ℕ) → i < length xs
    → drop i xs ≡ number_at xs i ∷ drop (i + 1) xs
next_number xs i inside = drop_more xs i (pos 0) inside

next_pair : {A B : Type 0} (xs : List A) (ys : List B) (i : ℕ) (d : A) (e : B)
    → i < length (zip xs ys) → drop i (zip xs ys)
    ≡ (get_or xs i d, get_or ys i e) ∷ drop (i + 1) (zip xs ys)
next_pair xs ys i d e inside =
    let both : length (zip xs ys) ≡ min (length xs) (length ys) = length-zip xs ys in
    drop_more (zip xs ys) i (d, e) inside ∙ ap (λ p. p ∷ drop (i + 1) (zip xs ys)) (get_or-zip xs ys i (d, e) (omega arith) (omega arith))

pub next_span : (xs ys : List ℤ) (i : ℕ) → i < length (zip xs ys)
    → drop i (zip xs ys) ≡ span_at xs ys i ∷ drop (i + 1) (zip xs ys)
next_span xs ys i inside = next_pair xs ys i (pos 0) (pos 0) inside

span_is : (xs ys : List ℤ) (i : ℕ) → i < length (zip xs ys)
    → get_or (zip xs ys) i (pos 0, pos 0) ≡ span_at xs ys i
span_is xs ys i inside =
    let both : length (zip xs ys) ≡ min (length xs) (length ys) = length-zip xs ys in
    get_or-zip xs ys i (pos 0, pos 0) (omega arith) (omega arith)

pub next_task : (xs ys zs : List ℤ) (i : ℕ) → i < length (zip (zip xs ys) zs)
    → drop i (zip (zip xs ys) zs) ≡ (span_at xs ys i, number_at zs i)
    ∷ drop (i + 1) (zip (zip xs ys) zs)
next_task xs ys zs i inside =
    let both : length (zip (zip xs ys) zs) ≡ min (length (zip xs ys)) (length zs) = length-zip (zip xs ys) zs in
    next_pair (zip xs ys) zs i (pos 0, pos 0) (pos 0) inside ∙ ap (λ p. (p, number_at zs i) ∷ drop (i + 1) (zip (zip xs ys) zs)) (span_is xs ys i (omega arith))

pub next_box : (x y width height : List ℤ) (i : ℕ) → i < length (boxes x y width height)
    → drop i (boxes x y width height)
    ≡ box_at x y width height i ∷ drop (i + 1) (boxes x y width height)
next_box x y width height i inside =
    let both : length (zip (zip x width) (zip y height)) ≡ min (length (zip x width)) (length (zip y height)) = length-zip (zip x width) (zip y height) in
    next_pair (zip x width) (zip y height) i (pos 0, pos 0) (pos 0, pos 0) inside
    ∙ ap (λ p. (p, get_or (zip y height) i (pos 0, pos 0)) ∷ drop (i + 1) (boxes x y width height)) (span_is x width i (omega arith))
    ∙ ap (λ p. (span_at x width i, p) ∷ drop (i + 1) (boxes x y width height)) (span_is y height i (omega arith))
