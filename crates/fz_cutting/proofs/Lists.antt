-- Elements of a list that pass a test.
use Rattle.std.proofs.Common.{◌≡◌, ◌||◌, ◌⊎◌, inl, inr, ℕ, zero, suc, ◌+◌, ◌<◌, Bool, List, [], ◌∷◌, ◌++◌, length, map, take, drop, get_or, refl, ap, sym, ◌∙◌, subst, length-append, arith}
use Rattle.std.specs.Prelude.{Any}
use Rattle.std.specs.List.{list_any}
use Rattle.std.proofs.lemmas.List.{drop_at, take_at}

pub any_mapped : {A B : Type 0} (p : B → Bool) (f : A → B) (xs : List A)
    → list_any p (map f xs) ≡ list_any (λ x. p (f x)) xs
any_mapped p f [] = refl
any_mapped p f (x ∷ xs) = ap (λ b. p (f x) || b) (any_mapped p f xs)

-- an element of the list has it
abbrev pub Has : {A : Type 0} → (A → Type 0) → List A → Type 0
Has P [] = ⊥
Has P (x ∷ xs) = P x ⊎ Has P xs

pub from_any : {A : Type 0} (P : A → Type 0) (xs : List A) → Any P xs → Has P xs
from_any P [] (k, x, l, e, p) = absurd (omega (arith, l))
from_any P (y ∷ ys) (zero, x, l, e, p) = inl (subst P (sym e) p)
from_any P (y ∷ ys) (suc k, x, l, e, p) = inr (from_any P ys (k, x, omega (arith, l), e, p))

pub to_any : {A : Type 0} (P : A → Type 0) (xs : List A) → Has P xs → Any P xs
to_any P [] h = absurd h
to_any P (y ∷ ys) (inl p) = (0, y, omega arith, refl, p)
to_any P (y ∷ ys) (inr h) =
    let a = to_any P ys h in (suc a.0, a.1, omega (arith, a.2), a.3, a.4)

pub has_at : {A : Type 0} (P : A → Type 0) (xs : List A) (i : ℕ) (d : A) → i < length xs
    → P (get_or xs i d) → Has P xs
has_at P [] i d l p = absurd (omega (arith, l))
has_at P (y ∷ ys) zero d l p = inl p
has_at P (y ∷ ys) (suc i) d l p = inr (has_at P ys i d (omega (arith, l)) p)

pub has_mapped : {A B : Type 0} (P : B → Type 0) (f : A → B) (xs : List A)
    → Has (λ x. P (f x)) xs → Has P (map f xs)
has_mapped P f [] h = h
has_mapped P f (x ∷ xs) (inl p) = inl p
has_mapped P f (x ∷ xs) (inr h) = inr (has_mapped P f xs h)

pub mapped_has : {A B : Type 0} (P : B → Type 0) (f : A → B) (xs : List A)
    → Has P (map f xs) → Has (λ x. P (f x)) xs
mapped_has P f [] h = h
mapped_has P f (x ∷ xs) (inl p) = inl p
mapped_has P f (x ∷ xs) (inr h) = inr (mapped_has P f xs h)

-- the element that isn't it is left out
pub has_other : {A : Type 0} (P : A → Type 0) (x : A) (xs : List A) → (P x → ⊥) → Has P (x ∷ xs)
    → Has P xs
has_other P x xs not (inl p) = absurd (not p)
has_other P x xs not (inr h) = h

-- what stands before the last element, and that
pub same_but_last : {A : Type 0} (xs ys : List A) (x y : A) → xs ++ x ∷ [] ≡ ys ++ y ∷ []
    → (xs ≡ ys) × (x ≡ y)
same_but_last xs ys x y e =
    let sizes : length xs ≡ length ys = omega (arith, ap length e, length-append xs (x ∷ []), length-append ys (y ∷ [])) in
    let front = sym (take_at xs (x ∷ []) (length ys) sizes) ∙ ap (take (length ys)) e ∙ take_at ys (y ∷ []) (length ys) refl in
    let back : x ∷ [] ≡ y ∷ [] = sym (drop_at xs (x ∷ []) (length ys) sizes) ∙ ap (drop (length ys)) e ∙ drop_at ys (y ∷ []) (length ys) refl in
    (front, cc)

pub none_is_last : {A : Type 0} (xs : List A) (x : A) → [] ≡ xs ++ x ∷ [] → ⊥
none_is_last xs x e = omega (arith, ap length e, length-append xs (x ∷ []))
