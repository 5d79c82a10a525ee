-- Steps of loops: what is met first in a list of which a part was read, and one more declaration,
-- constraint or part.
use Rattle.std.proofs.Common.{◌≡◌, ℕ, ◌+◌, ◌<◌, List, [], ◌∷◌, ◌++◌, map, length, get_or, take, drop, Option, Some, None, refl, sym, ap, ◌∙◌, append_assoc, add-one, drop-cons, rules}
use Rattle.std.specs.Option.{option_or}
use Rattle.std.proofs.lemmas.List.{take-append-drop, map-append, append-nil}
use Rattle.std.proofs.Math.Seq.{take-suc}
use Rattle.fz_meaning.specs.Located.{Decl, LocatedTree}
use Rattle.fz_meaning.specs.Meaning.{first_some}
use Rattle.fz_meaning.specs.Names.{kinds, Fault, decls_fault, constraint_fault, goal_fault, first_fault, fault_at_decl}

-- ---- a list of which a part was read

-- the whole list: what was read, the one at the index, and what follows
pub whole_at : {A B : Type 0} (f : A → B) (xs : List A) (i : ℕ) (x : A) → i < length xs
    → x ≡ get_or xs i x → map f xs ≡ map f (take i xs) ++ f x ∷ map f (drop (i + 1) xs)
whole_at f xs i x h e =
    let rest : drop i xs ≡ x ∷ drop (i + 1) xs = drop-cons xs i x h ∙ (λ j. sym e j ∷ drop (sym (add-one i) j) xs) in
    ap (map f) (sym (take-append-drop i xs)) ∙ map-append f (take i xs) (drop i xs) ∙ ap (λ ys. map f (take i xs) ++ map f ys) rest

-- one more
pub take_one_more : {A B : Type 0} (f : A → B) (xs : List A) (i : ℕ) (x : A) → i < length xs
    → x ≡ get_or xs i x → map f (take (i + 1) xs) ≡ map f (take i xs) ++ f x ∷ []
take_one_more f xs i x h e =
    ap (λ n. map f (take n xs)) (add-one i) ∙ ap (map f) (take-suc xs i x h) ∙ map-append f (take i xs) (get_or xs i x ∷ []) ∙ ap (λ y. map f (take i xs) ++ f y ∷ []) (sym e)

-- ---- the first answer

pub or_nothing : {A : Type 0} (o : Option A) → option_or o None ≡ o
or_nothing None = refl
or_nothing (Some x) = refl

pub or_assoc : {A : Type 0} (o p q : Option A)
    → option_or (option_or o p) q ≡ option_or o (option_or p q)
or_assoc None p q = refl
or_assoc (Some x) p q = refl

pub first_none : {A : Type 0} (o p : Option A) → option_or o p ≡ None → o ≡ None
first_none None p e = refl
first_none (Some x) p e = cc

pub second_none : {A : Type 0} (o p : Option A) → option_or o p ≡ None → p ≡ None
second_none None p e = e
second_none (Some x) p e = cc

pub both_none : {A : Type 0} (o p : Option A) → o ≡ None → p ≡ None → option_or o p ≡ None
both_none o p a b = ap (λ z. option_or z p) a ∙ b

pub first_append : {A B : Type 0} (f : A → Option B) (xs ys : List A)
    → first_some f (xs ++ ys) ≡ option_or (first_some f xs) (first_some f ys)
first_append f [] ys = refl
first_append f (x ∷ xs) ys = ap (option_or (f x)) (first_append f xs ys) ∙ sym (or_assoc (f x) (first_some f xs) (first_some f ys))

pub first_map : {A B C : Type 0} (f : B → Option C) (g : A → B) (xs : List A)
    → first_some f (map g xs) ≡ first_some (λ x. f (g x)) xs
first_map f g [] = refl
first_map f g (x ∷ xs) = ap (option_or (f (g x))) (first_map f g xs)

-- in a loop over elements whose logical value is `g x`: none so far, and none at the next
pub first_more : {A B C : Type 0} (f : B → Option C) (g : A → B) (xs : List A) (i : ℕ) (x : A)
    → i < length xs → x ≡ get_or xs i x → first_some f (map g (take i xs)) ≡ None → f (g x) ≡ None
    → first_some f (map g (take (i + 1) xs)) ≡ None
first_more f g xs i x h e none here =
    ap (first_some f) (take_one_more g xs i x h e) ∙ first_append f (map g (take i xs)) (g x ∷ []) ∙ both_none (first_some f (map g (take i xs))) (option_or (f (g x)) None) none (both_none (f (g x)) None here refl)

-- none so far, and one at the next
pub first_stops : {A B C : Type 0} (f : B → Option C) (g : A → B) (xs : List A) (i : ℕ) (x : A)
    (y : C) → i < length xs → x ≡ get_or xs i x → first_some f (map g (take i xs)) ≡ None
    → f (g x) ≡ Some y → first_some f (map g xs) ≡ Some y
first_stops f g xs i x y h e none here =
    ap (first_some f) (whole_at g xs i x h e) ∙ first_append f (map g (take i xs)) (g x ∷ map g (drop (i + 1) xs)) ∙ ap (λ o. option_or o (option_or (f (g x)) (first_some f (map g (drop (i + 1) xs))))) none
    ∙ ap (λ o. option_or o (first_some f (map g (drop (i + 1) xs)))) here

-- ---- declarations

pub decls_append : (before xs ys : List Decl) → decls_fault before (xs ++ ys)
    ≡ option_or (decls_fault before xs) (decls_fault (before ++ xs) ys)
decls_append before [] ys = ap (λ zs. decls_fault zs ys) (sym (append-nil before))
decls_append before (d ∷ xs) ys =
    ap (option_or (fault_at_decl (kinds before) d)) (decls_append (before ++ d ∷ []) xs ys ∙ ap (λ zs. option_or (decls_fault (before ++ d ∷ []) xs) (decls_fault zs ys)) (append_assoc before (d ∷ []) xs))
    ∙ sym (or_assoc (fault_at_decl (kinds before) d) (decls_fault (before ++ d ∷ []) xs) (decls_fault (before ++ d ∷ xs) ys))

-- none in what was read, and none at the next
pub decls_one_more : (before : List Decl) (d : Decl) → decls_fault [] before ≡ None
    → fault_at_decl (kinds before) d ≡ None → decls_fault [] (before ++ d ∷ []) ≡ None
decls_one_more before d none here = decls_append [] before (d ∷ []) ∙ both_none (decls_fault [] before) (option_or (fault_at_decl (kinds before) d) None) none (both_none (fault_at_decl (kinds before) d) None here refl)

-- none in what was read, and one at the next
pub decls_stop : (before : List Decl) (d : Decl) (rest : List Decl) (f : Fault)
    → decls_fault [] before ≡ None → fault_at_decl (kinds before) d ≡ Some f
    → decls_fault [] (before ++ d ∷ rest) ≡ Some f
decls_stop before d rest f none here = search (rules, decls_append)

-- the same in a loop over the code's declarations, whose logical value is `g x`
pub decls_stops : {A : Type 0} (g : A → Decl) (xs : List A) (i : ℕ) (x : A) (f : Fault)
    → i < length xs → x ≡ get_or xs i x → decls_fault [] (map g (take i xs)) ≡ None
    → fault_at_decl (kinds (map g (take i xs))) (g x) ≡ Some f → decls_fault [] (map g xs) ≡ Some f
decls_stops g xs i x f h e none here = ap (decls_fault []) (whole_at g xs i x h e) ∙ decls_stop (map g (take i xs)) (g x) (map g (drop (i + 1) xs)) f none here

-- ---- constraints and the objective

pub in_constraints : (t : LocatedTree) (f : Fault) → decls_fault [] t.decls ≡ None
    → first_some (constraint_fault (kinds t.decls)) t.constraints ≡ Some f → first_fault t ≡ Some f
in_constraints t f none e = search rules

pub in_goal : (t : LocatedTree) (f : Fault) → decls_fault [] t.decls ≡ None
    → first_some (constraint_fault (kinds t.decls)) t.constraints ≡ None → goal_fault (kinds t.decls) t.solve.goal ≡ Some f
    → first_fault t ≡ Some f
in_goal t f none here e = search rules

pub nowhere : (t : LocatedTree) → decls_fault [] t.decls ≡ None
    → first_some (constraint_fault (kinds t.decls)) t.constraints ≡ None → goal_fault (kinds t.decls) t.solve.goal ≡ None
    → first_fault t ≡ None
nowhere t a b c = both_none (decls_fault [] t.decls) (option_or (first_some (constraint_fault (kinds t.decls)) t.constraints) (goal_fault (kinds t.decls) t.solve.goal)) a (both_none (first_some (constraint_fault (kinds t.decls)) t.constraints) (goal_fault (kinds t.decls) t.solve.goal) b c)

pub declarations_clean : (t : LocatedTree) → first_fault t ≡ None → decls_fault [] t.decls ≡ None
declarations_clean t e = first_none (decls_fault [] t.decls) (option_or (first_some (constraint_fault (kinds t.decls)) t.constraints) (goal_fault (kinds t.decls) t.solve.goal)) e

pub goal_clean : (t : LocatedTree) → first_fault t ≡ None → goal_fault (kinds t.decls) t.solve.goal ≡ None
goal_clean t e = search (rules, second_none)
