-- What the model of a tree looks up in all declarations is known from the earlier ones, where those
-- have no fault.
use Rattle.std.proofs.Common.{◌≡◌, ℕ, suc, ◌+◌, Bool, true, false, not, cond, ◌||◌, List, [], ◌∷◌, ◌++◌, length, Option, Some, None, refl, ap, subst, ◌∙◌, find, filter, one-add, arith, rules, option_map, is_some}
use Rattle.std.specs.List.{list_any, position_or_len}
use Rattle.std.specs.Option.{option_or, option_map_or}
use Rattle.std.proofs.lemmas.List.Elements.{filter-append}
use Rattle.std.proofs.lemmas.List.Folds.{find-append}
use Rattle.std.proofs.lemmas.Slice.Eq.{bytes_eq-Decides}
use Rattle.std.proofs.lemmas.Grind.{common_steps}
use Rattle.fz_tree.specs.declared.span.Span.{Span}
use Rattle.fz_meaning.specs.declared.kind.Kind.{Kind}
use Rattle.fz_meaning.specs.declared.kind.Kind.TheVariants.{Int as IntKind}
use Rattle.fz_meaning.specs.Relations.{same_kind}
use Rattle.fz_meaning.specs.Meaning.Place.{Array}
use Rattle.fz_meaning.specs.Located.{Name, Decl}
use Rattle.fz_meaning.specs.Located.Basic.{Named}
use Rattle.fz_meaning.specs.Names.{declaration, named_as, parts, kind_of_base, is_scalar, is_scalar_variable, scalar_kind, kinds, number_of, scalar_term, scalar_place, scalars, declared_elements, place_of_declared, places, term_at, term_of, Fault, kind_fault, name_fault, parts_fault, fault_at_decl}
use Rattle.fz_meaning.specs.Laws.{scalar_variables}
use Rattle.fz_meaning.specs.Names.FaultKind.{UnknownName, WrongKind}
use Rattle.fz_meaning.proofs.Values.{no'}
use Rattle.fz_meaning.proofs.ScanSteps.{first_none, second_none}

-- ---- names

-- a declaration of one of these declares the name
abbrev pub declares : List Decl → List ℕ → Bool
declares ds x = list_any (named_as x) ds

-- what is not found is not declared
pub not_found : (t : Decl → Bool) (ds : List Decl) → find t ds ≡ None → list_any t ds ≡ false
not_found t [] e = refl
not_found t (d ∷ ds) e = elim (t d) as (λ b. cond b (Some d) (find t ds) ≡ None → (b || list_any t ds) ≡ false) [ true ↦ λ e. cc | false ↦ λ e. not_found t ds e ] e

pub found_passes : (t : Decl → Bool) (ds : List Decl) (d : Decl) → find t ds ≡ Some d → t d ≡ true
found_passes t [] d e = cc
found_passes t (c ∷ ds) d e =
    (elim (t c) as (λ b. t c ≡ b → cond b (Some c) (find t ds) ≡ Some d → t d ≡ true) [
      | true ↦ λ h e. let same : c ≡ d = cc in subst (λ z. t z ≡ true) same h
      | false ↦ λ _ e. found_passes t ds d e
    ]) refl e

-- what a name was declared as, it stays
pub found_stays : (before rest : List Decl) (x : List ℕ) (d : Decl) → declaration before x ≡ Some d
    → declaration (before ++ rest) x ≡ Some d
found_stays before rest x d e = find-append (named_as x) before rest ∙ ap (λ o. option_or o (declaration rest x)) e

pub has_name : (ds : List Decl) (x : List ℕ) (d : Decl) → declaration ds x ≡ Some d
    → d.name.text ≡ x
has_name ds x d e = (bytes_eq-Decides d.name.text x).0 (found_passes (named_as x) ds d e)

pub own_name : (d : Decl) → named_as d.name.text d ≡ true
own_name d = (bytes_eq-Decides d.name.text d.name.text).1 refl

-- ---- numbers

pub scalars_append : (xs ys : List Decl)
    → scalar_variables (xs ++ ys) ≡ scalar_variables xs ++ scalar_variables ys
scalars_append xs ys = filter-append is_scalar_variable xs ys

pub scalars_more : (before : List Decl) (d : Decl) → scalar_variables (before ++ d ∷ [])
    ≡ scalar_variables before ++ cond (is_scalar_variable d) (d ∷ []) []
scalars_more before d = scalars_append before (d ∷ [])

-- the number of the next scalar variable
abbrev pub next_number : List Decl → ℕ
next_number ds = length (scalar_variables ds)

length_more : {A : Type 0} (xs : List A) (b : Bool) (x : A)
    → length (xs ++ cond b (x ∷ []) []) ≡ cond b (suc (length xs)) (length xs)
length_more xs b x = grind (arith, common_steps)

pub next_number_more : (before : List Decl) (d : Decl) → next_number (before ++ d ∷ [])
    ≡ cond (is_scalar_variable d) (suc (next_number before)) (next_number before)
next_number_more before d = ap length (scalars_more before d) ∙ length_more (scalar_variables before) (is_scalar_variable d) d

-- the first that passes comes after those that don't
position_right : (t : Decl → Bool) (xs : List Decl) (y : Decl) (ys : List Decl)
    → list_any t xs ≡ false → t y ≡ true → position_or_len t (xs ++ y ∷ ys) ≡ length xs
position_right t [] y ys none here = ap (λ b. cond (not b) (1 + position_or_len t ys) 0) here
position_right t (x ∷ xs) y ys none here =
    (elim (t x) as (λ b. (b || list_any t xs) ≡ false → cond (not b) (1 + position_or_len t (xs ++ y ∷ ys)) 0 ≡ suc (length xs)) [
      | true ↦ λ e. no' e
      | false ↦ λ e. one-add (position_or_len t (xs ++ y ∷ ys)) ∙ ap suc (position_right t xs y ys e here)
    ]) none

-- none of all is none of some
pub none_among : (t q : Decl → Bool) (ds : List Decl) → list_any t ds ≡ false
    → list_any t (filter q ds) ≡ false
none_among t q [] e = refl
none_among t q (d ∷ ds) e =
    (elim (q d) as (λ b. list_any t (cond b (d ∷ filter q ds) (filter q ds)) ≡ false) [
      | true ↦ elim (t d) as (λ b. (b || list_any t ds) ≡ false → (b || list_any t (filter q ds)) ≡ false) [ true ↦ λ e. e | false ↦ λ e. none_among t q ds e ] e
      | false ↦ none_among t q ds (elim (t d) as (λ b. (b || list_any t ds) ≡ false → list_any t ds ≡ false) [ true ↦ λ e. no' e | false ↦ λ e. e ] e)
    ])

-- a new scalar variable has the next number
pub number_here : (before : List Decl) (d : Decl) (rest : List Decl)
    → declares before d.name.text ≡ false → is_scalar_variable d ≡ true
    → number_of (before ++ d ∷ rest) d.name.text ≡ next_number before
number_here before d rest new is =
    search (rules, scalars_append, position_right, none_among, own_name)

-- ---- terms

pub passed : (b : Bool) (f : Fault) → cond b None (Some f) ≡ None → b ≡ true
passed true f e = refl
passed false f e = cc

-- what a name without a fault was declared as
pub clean_name : (wanted : Kind) (o : Option Decl) (at : Span)
    → option_map_or (λ k. kind_fault (Some wanted) k at) (option_map scalar_kind o) (Some (UnknownName, at)) ≡ None
    → (d : Decl) × (o ≡ Some d) × (is_scalar d ≡ true) × (same_kind (kind_of_base d.base) wanted ≡ true)
clean_name wanted None at e = cc
clean_name wanted (Some d) at e =
    let (scalar, kind) = (elim (is_scalar d) as (λ b. kind_fault (Some wanted) (cond b (Some (kind_of_base d.base)) None) at ≡ None → (b ≡ true) × (same_kind (kind_of_base d.base) wanted ≡ true)) [
      | true ↦ λ e. (refl, passed (same_kind (kind_of_base d.base) wanted) (WrongKind, at) e)
      | false ↦ λ e. cc
    ]) e in
    (d, refl, scalar, kind)

pub term_found : (ds : List Decl) (x : Name) (d : Decl) → declaration ds x.text ≡ Some d
    → term_of (scalars ds) (Named x) ≡ scalar_term ds d
term_found ds x d e = ap (λ o. term_at (option_map_or (λ p. p) (option_map (scalar_place ds) o) (Array x.text IntKind []))) e

pub term_placed : (ds : List Decl) (x : Name) (d : Decl) → declaration ds x.text ≡ Some d
    → is_scalar d ≡ true → term_of (places ds) (Named x) ≡ scalar_term ds d
term_placed ds x d e scalar =
    ap (λ o. term_at (option_map_or (λ p. p) (option_map (place_of_declared ds) o) (Array x.text IntKind []))) e
    ∙ ap (λ b. term_at (cond b (scalar_place ds d) (Array d.name.text (kind_of_base d.base) (declared_elements ds d)))) scalar

pub parts_clean : (before : List Decl) (d : Decl) → fault_at_decl (kinds before) d ≡ None
    → parts_fault (kinds before) (Some (kind_of_base d.base)) (parts d.value) ≡ None
parts_clean before d e = second_none _ (parts_fault (kinds before) (Some (kind_of_base d.base)) (parts d.value)) e

-- a declaration with no fault has a new name
pub is_new : (before : List Decl) (d : Decl) → fault_at_decl (kinds before) d ≡ None
    → declares before d.name.text ≡ false
is_new before d e =
    not_found (named_as d.name.text) before (nothing (declaration before d.name.text) _ _ (first_none (name_fault (kinds before) d) _ e))
  where
    nothing : (o : Option Decl) (f : Fault) (g : Option Fault)
        → cond (is_some (option_map scalar_kind o)) (Some f) g ≡ None → o ≡ None
    nothing None f g e = refl
    nothing (Some x) f g e = cc
