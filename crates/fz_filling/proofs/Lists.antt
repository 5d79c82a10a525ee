-- Loops over a list: one more element, and the first answer.
use Rattle.std.proofs.Common.{◌≡◌, ℕ, zero, suc, ◌+◌, ◌<◌, min, Bool, true, false, List, [], ◌∷◌, map, option_map, length, get_or, take, drop, Option, Some, None, is_some, Result, Ok, Err, IfOk, refl, sym, ap, subst, ◌∙◌, arith}
use Rattle.std.specs.List.{AllByRecursion}
use Rattle.std.specs.Option.{option_or}
use Rattle.fz_index.specs.of_model.Meaning.{first_some}
use Rattle.fz_index.proofs.of_model.ScanSteps.{first_append, first_map, first_more, whole_at}

-- at the end of the shorter one, a function that is the same for each empty list is at its end
pub both_end : {A B R : Type 0} (h : List A → List B → R) (r : R) → ((ys : List B) → h [] ys ≡ r)
    → ((xs : List A) → h xs [] ≡ r) → (xs : List A) (ys : List B) (k : ℕ)
    → k ≡ min (length xs) (length ys) → h (drop k xs) (drop k ys) ≡ r
both_end h r left right [] ys zero e = left ys
both_end h r left right [] ys (suc k) e = left (drop (suc k) ys)
both_end h r left right (x ∷ xs) [] zero e = right (x ∷ xs)
both_end h r left right (x ∷ xs) [] (suc k) e = absurd (omega arith)
both_end h r left right (x ∷ xs) (y ∷ ys) zero e = absurd (omega arith)
both_end h r left right (x ∷ xs) (y ∷ ys) (suc k) e = both_end h r left right xs ys k (omega arith)

-- what holds of what each element stands for holds of what one stands for
pub mapped_at : {A B : Type 0} (P : B → Type 0) (f : A → B) (xs : List A) (k : ℕ) (x : A)
    → k < length xs → x ≡ get_or xs k x → AllByRecursion P (map f xs) → P (f x)
mapped_at P f [] k x h e all = absurd (omega arith)
mapped_at P f (y ∷ xs) zero x h e all = subst (λ z. P (f z)) (sym e) all.0
mapped_at P f (y ∷ xs) (suc k) x h e all = mapped_at P f xs k x (omega arith) e all.1

-- ---- the first answer

pub not_some : {A : Type 0} (o : Option A) → is_some o ≡ false → o ≡ None
not_some None e = refl
not_some (Some x) e = cc

pub map_is_some : {A B : Type 0} (f : A → B) (o : Option A) → is_some (option_map f o) ≡ is_some o
map_is_some f None = refl
map_is_some f (Some x) = refl

pub or_some : {A : Type 0} (o p : Option A) → is_some o ≡ true → option_or o p ≡ o
or_some None p e = cc
or_some (Some x) p e = refl

-- over elements that stand for `g x`: none so far, and one at the next
pub first_found : {A B C : Type 0} (f : B → Option C) (g : A → B) (xs : List A) (i : ℕ) (x : A)
    → i < length xs → x ≡ get_or xs i x → first_some f (map g (take i xs)) ≡ None
    → is_some (f (g x)) ≡ true → first_some f (map g xs) ≡ f (g x)
first_found f g xs i x h e none here =
    ap (first_some f) (whole_at g xs i x h e) ∙ first_append f (map g (take i xs)) (g x ∷ map g (drop (i + 1) xs)) ∙ ap (λ o. option_or o (option_or (f (g x)) (first_some f (map g (drop (i + 1) xs))))) none
    ∙ or_some (f (g x)) (first_some f (map g (drop (i + 1) xs))) here

-- what is told through a function is told where there is an answer
pub told_is_some : {A B : Type 0} (r : A → B) (o : Option B) (p : Option A) (b : Bool)
    → o ≡ option_map r p → is_some o ≡ b → is_some p ≡ b
told_is_some r o p b e h = sym (map_is_some r p) ∙ ap is_some (sym e) ∙ h

pub seen_is_some : {A B : Type 0} (v : B → A) (o : Option B) (p : Option A) (b : Bool)
    → option_map v o ≡ p → is_some o ≡ b → is_some p ≡ b
seen_is_some v o p b e h = ap is_some (sym e) ∙ map_is_some v o ∙ h

-- the same of elements that stand for themselves
pub found_here : {A C : Type 0} (f : A → Option C) (xs : List A) (i : ℕ) (x : A) → i < length xs
    → x ≡ get_or xs i x → first_some f (take i xs) ≡ None → is_some (f x) ≡ true
    → first_some f xs ≡ f x
found_here f xs i x h e none here = sym (first_map f (λ y. y) xs) ∙ first_found f (λ y. y) xs i x h e (first_map f (λ y. y) (take i xs) ∙ none) here

pub none_more : {A C : Type 0} (f : A → Option C) (xs : List A) (i : ℕ) (x : A) → i < length xs
    → x ≡ get_or xs i x → first_some f (take i xs) ≡ None → f x ≡ None
    → first_some f (take (i + 1) xs) ≡ None
none_more f xs i x h e none here = sym (first_map f (λ y. y) (take (i + 1) xs)) ∙ first_more f (λ y. y) xs i x h e (first_map f (λ y. y) (take i xs) ∙ none) here

-- ---- what follows from what is said of a result

pub ok_then : {T E : Type 0} (r : Result T E) {P Q : T → Type 0} → IfOk r P → ((x : T) → P x → Q x)
    → IfOk r Q
ok_then (Ok x) h f = f x h
ok_then (Err e) h f = tt
