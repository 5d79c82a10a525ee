-- A loop over a list that changes each element in place: what it has changed so far.
use Rattle.std.proofs.Common.{◌≡◌, ◌<◌, ◌≤◌, ◌+◌, ℕ, zero, suc, List, [], ◌∷◌, map, length, slice_set, slice_index_or, add-one, refl, sym, ap, subst, ◌∙◌, arith}

-- ---- the first n elements changed

abbrev pub turned : {A : Type 0} → (A → A) → ℕ → List A → List A
turned f zero xs = xs
turned f (suc n) [] = []
turned f (suc n) (x ∷ xs) = f x ∷ turned f n xs

pub all_turned : {A : Type 0} (f : A → A) (xs : List A) (n : ℕ) → length xs ≤ n
    → turned f n xs ≡ map f xs
all_turned f [] zero h = refl
all_turned f [] (suc n) h = refl
all_turned f (x ∷ xs) zero h = absurd (omega arith)
all_turned f (x ∷ xs) (suc n) h = ap (λ rest. f x ∷ rest) (all_turned f xs n (omega arith))

abbrev head_or : {A : Type 0} → A → List A → A
head_or x [] = x
head_or x (y ∷ ys) = y

abbrev tail_of : {A : Type 0} → List A → List A
tail_of [] = []
tail_of (y ∷ ys) = ys

turned_at : {A B : Type 0} (view : B → A) (f : A → A) (xs : List B) (zs : List A) (n : ℕ)
    (old new : B) → n < length xs → old ≡ slice_index_or xs n old → view new ≡ f (view old)
    → map view xs ≡ turned f n zs → map view (slice_set xs n new) ≡ turned f (suc n) zs
turned_at view f [] zs n old new h e same so_far = absurd (omega arith)
turned_at view f (x ∷ xs) zs zero old new h e same so_far =
    subst (λ w. (view new ∷ map view xs) ≡ turned f 1 w) so_far (ap (λ z. z ∷ map view xs) (same ∙ ap (λ o. f (view o)) e))
turned_at view f (x ∷ xs) [] (suc n) old new h e same so_far = cc
turned_at view f (x ∷ xs) (z ∷ zs) (suc n) old new h e same so_far =
    let head = ap (head_or (view x)) so_far in
    let rest = turned_at view f xs zs n old new (omega arith) e same (ap tail_of so_far) in
    λ i. head i ∷ rest i

-- one more
pub one_more_turned : {A B : Type 0} (view : B → A) (f : A → A) (xs : List B) (zs : List A) (n : ℕ)
    (old new : B) → n < length xs → old ≡ slice_index_or xs n old → view new ≡ f (view old)
    → map view xs ≡ turned f n zs → map view (slice_set xs n new) ≡ turned f (n + 1) zs
one_more_turned view f xs zs n old new h e same so_far = turned_at view f xs zs n old new h e same so_far ∙ ap (λ k. turned f k zs) (sym (add-one n))
