-- What holds of each element of a list, through the operations on lists; and the element at an
-- index.
use Rattle.std.proofs.Common.{◌≡◌, ℕ, suc, zero, ◌+◌, ◌<◌, List, [], ◌∷◌, ◌++◌, length, Some, refl, subst, take, drop, slice_get, arith}
use Rattle.std.specs.List.{AllByRecursion, enumerate_from}
use Rattle.std.proofs.lemmas.Grind.{common_steps}

-- ---- lists

pub all_append : {A : Type 0} (P : A → Type 0) (xs ys : List A) → AllByRecursion P xs
    → AllByRecursion P ys → AllByRecursion P (xs ++ ys)
all_append P [] ys h k = k
all_append P (x ∷ xs) ys h k = (h.0, all_append P xs ys h.1 k)

pub all_right : {A : Type 0} (P : A → Type 0) (xs ys : List A) → AllByRecursion P (xs ++ ys)
    → AllByRecursion P ys
all_right P [] ys h = h
all_right P (x ∷ xs) ys h = all_right P xs ys h.1

pub all_left : {A : Type 0} (P : A → Type 0) (xs ys : List A) → AllByRecursion P (xs ++ ys)
    → AllByRecursion P xs
all_left P [] ys h = tt
all_left P (x ∷ xs) ys h = (h.0, all_left P xs ys h.1)

pub all_drop : {A : Type 0} (P : A → Type 0) (k : ℕ) (xs : List A) → AllByRecursion P xs
    → AllByRecursion P (drop k xs)
all_drop P k xs h = grind (arith, common_steps)

pub all_take : {A : Type 0} (P : A → Type 0) (k : ℕ) (xs : List A) → AllByRecursion P xs
    → AllByRecursion P (take k xs)
all_take P k xs h = grind (arith, common_steps)

pub all_enumerated : {A : Type 0} (P : A → Type 0) (i : ℕ) (xs : List A) → AllByRecursion P xs
    → AllByRecursion (λ q. P q.1) (enumerate_from i xs)
all_enumerated P i [] h = tt
all_enumerated P i (x ∷ xs) h = (h.0, all_enumerated P (i + 1) xs h.1)

pub all_both : {A : Type 0} (P Q : A → Type 0) (xs : List A) → AllByRecursion P xs
    → AllByRecursion Q xs → AllByRecursion (λ x. P x × Q x) xs
all_both P Q [] h k = tt
all_both P Q (x ∷ xs) h k = ((h.0, k.0), all_both P Q xs h.1 k.1)

pub all_map : {A : Type 0} (P Q : A → Type 0) → ((x : A) → P x → Q x) → (xs : List A)
    → AllByRecursion P xs → AllByRecursion Q xs
all_map P Q f [] h = tt
all_map P Q f (x ∷ xs) h = (f x h.0, all_map P Q f xs h.1)

-- what holds of each holds of the one at an index
pub at_place : {A : Type 0} (P : A → Type 0) (xs : List A) (k : ℕ) (x : A) → AllByRecursion P xs
    → slice_get xs k ≡ Some x → P x
at_place P [] k x h e = cc
at_place P (y ∷ ys) zero x h e = let same : y ≡ x = cc in subst P same h.0
at_place P (y ∷ ys) (suc k) x h e = at_place P ys k x h.1 e

-- there is an element at each index in range
pub there_is : {A : Type 0} (xs : List A) (k : ℕ) → k < length xs
    → (x : A) × (slice_get xs k ≡ Some x)
there_is [] k h = absurd (omega arith)
there_is (x ∷ xs) zero h = (x, refl)
there_is (x ∷ xs) (suc k) h = there_is xs k (omega arith)
