-- In the model of a tree without faults each scalar that a name stands for, alone or as an array's
-- element, has the kind of that name: a variable the declared one, and a stored value what is so of
-- the tree's literals and scalar parameters.
use Rattle.std.proofs.Common.{◌≡◌, true, false, cond, ◌&&◌, List, [], ◌∷◌, ◌++◌, map, Option, Some, None, option_map, refl, sym, ap, subst, ◌∙◌, append_assoc, ℕ}
use Rattle.std.specs.Prelude.{⊤}
use Rattle.std.specs.List.{AllByRecursion}
use Rattle.fz_base.specs.declared.value.Value.{Value}
use Rattle.fz_meaning.specs.declared.kind.Kind.{Kind}
use Rattle.fz_meaning.specs.Relations.{kind_of}
use Rattle.fz_meaning.specs.Located.{Basic, Decl, Literal, LocatedTree}
use Rattle.fz_meaning.specs.Located.Basic.{Lit, Named}
use Rattle.fz_meaning.specs.Names.{HasNoFault, kind_fault, part_fault, parts_fault, decls_fault, declaration, kinds, is_scalar, number_of, scalar_term, scalars, term_of, declared_elements, literal_of, literal_value, kind_of_base, parts, model_of, place_of_declared, fault_at_decl}
use Rattle.fz_meaning.specs.Meaning.{Place, Model, find_name}
use Rattle.fz_meaning.specs.declared.term.Term.{Term}
use Rattle.fz_meaning.specs.declared.term.Term.TheVariants.{Var, Fixed}
use Rattle.fz_meaning.specs.Meaning.Place.{Scalar, Array}
use Rattle.fz_meaning.specs.Steps.{kind_at}
use Rattle.fz_meaning.proofs.Determined.{at_found}
use Rattle.fz_meaning.proofs.KnownNames.{clean_name, found_stays, has_name, parts_clean, term_found}
use Rattle.fz_meaning.proofs.Names.{are_new, find_declared}
use Rattle.fz_meaning.proofs.Scope.{same_kind_is, kind_of_number}
use Rattle.fz_meaning.proofs.ScanSteps.{first_none, second_none, declarations_clean}

-- a variable has the kind, and a stored value is as said of it
abbrev pub TermIs : (Kind → Value → Type 0) → Model → Kind → Term → Type 0
TermIs Is m k (Var n) = kind_at m n ≡ Some k
TermIs Is m k (Fixed v) = Is k v

abbrev pub PlaceIs : (Kind → Value → Type 0) → Model → Place → Type 0
PlaceIs Is m (Scalar k t) = TermIs Is m k t
PlaceIs Is m (Array x k ts) = AllByRecursion (TermIs Is m k) ts

-- a variable has the kind
abbrev pub TermFits : Model → Kind → Term → Type 0
TermFits m k t = TermIs (λ _ _. ⊤) m k t

abbrev pub PlaceFits : Model → Place → Type 0
PlaceFits m p = PlaceIs (λ _ _. ⊤) m p

-- the value of a scalar parameter is as said of its declared kind
abbrev pub ParameterIs : (Kind → Value → Type 0) → Decl → Type 0
ParameterIs Is d = is_scalar d ≡ true → d.is_var ≡ false → Is (kind_of_base d.base) (literal_of d.value)

module _ (Is : Kind → Value → Type 0) (t : LocatedTree) (clean : decls_fault [] t.decls ≡ None)
    (literals : (k : Kind) (l : Literal) → kind_fault (Some k) (Some (kind_of (literal_value l.what))) l.span ≡ None → Is k (literal_value l.what))
    (parameters : AllByRecursion (ParameterIs Is) t.decls) where
  scalar_fits : (x : List ℕ) (d : Decl) → declaration t.decls x ≡ Some d → is_scalar d ≡ true
      → TermIs Is (model_of t) (kind_of_base d.base) (scalar_term t.decls d)
  scalar_fits x d found scalar =
      elim d.is_var as (λ b. d.is_var ≡ b → TermIs Is (model_of t) (kind_of_base d.base) (cond b (Var (number_of t.decls d.name.text)) (Fixed (literal_of d.value)))) [
        | true ↦ λ is_var. ap (λ y. kind_at (model_of t) (number_of t.decls y)) (has_name t.decls x d found) ∙ kind_of_number t x d found (ap (λ b. b && is_scalar d) is_var ∙ scalar)
        | false ↦ λ fixed. at_found (ParameterIs Is) _ t.decls d parameters found scalar fixed
      ] refl

  term_fits : (before rest : List Decl) → before ++ rest ≡ t.decls → (k : Kind) (b : Basic)
      → part_fault (kinds before) (Some k) b ≡ None → TermIs Is (model_of t) k (term_of (scalars t.decls) b)
  term_fits before rest all k (Lit l) e = literals k l e
  term_fits before rest all k (Named x) e =
      let (d, known, scalar, is) = clean_name k (declaration before x.text) x.span e in
      let found : declaration t.decls x.text ≡ Some d = subst (λ ds. declaration ds x.text ≡ Some d) all (found_stays before rest x.text d known) in
      let kind : kind_of_base d.base ≡ k = same_kind_is (kind_of_base d.base) k is in
      subst (TermIs Is (model_of t) k) (sym (term_found t.decls x d found))
      (subst (λ j. TermIs Is (model_of t) j (scalar_term t.decls d)) kind (scalar_fits x.text d found scalar))

  terms_fit : (before rest : List Decl) → before ++ rest ≡ t.decls → (k : Kind) (bs : List Basic)
      → parts_fault (kinds before) (Some k) bs ≡ None
      → AllByRecursion (TermIs Is (model_of t) k) (map (term_of (scalars t.decls)) bs)
  terms_fit before rest all k [] e = tt
  terms_fit before rest all k (b ∷ bs) e =
      (term_fits before rest all k b (first_none (part_fault (kinds before) (Some k) b) (parts_fault (kinds before) (Some k) bs) e), terms_fit before rest all k bs (second_none (part_fault (kinds before) (Some k) b) (parts_fault (kinds before) (Some k) bs) e))

  abbrev ElementsFit : Decl → Type 0
  ElementsFit d = AllByRecursion (TermIs Is (model_of t) (kind_of_base d.base)) (declared_elements t.decls d)

  elements_fit : (before ds : List Decl) → before ++ ds ≡ t.decls → decls_fault before ds ≡ None
      → AllByRecursion ElementsFit ds
  elements_fit before [] all e = tt
  elements_fit before (d ∷ ds) all e = (
    terms_fit before (d ∷ ds) all (kind_of_base d.base) (parts d.value) (parts_clean before d (first_none (fault_at_decl (kinds before) d) (decls_fault (before ++ d ∷ []) ds) e)),
    elements_fit (before ++ d ∷ []) ds (append_assoc before (d ∷ []) ds ∙ all) (second_none (fault_at_decl (kinds before) d) (decls_fault (before ++ d ∷ []) ds) e),
  )

  pub declared_fits : (x : List ℕ) (d : Decl) → declaration t.decls x ≡ Some d
      → PlaceIs Is (model_of t) (place_of_declared t.decls d)
  declared_fits x d found =
      elim (is_scalar d) as (λ b. is_scalar d ≡ b → PlaceIs Is (model_of t) (cond b (Scalar (kind_of_base d.base) (scalar_term t.decls d)) (Array d.name.text (kind_of_base d.base) (declared_elements t.decls d)))) [
        | true ↦ λ scalar. scalar_fits x d found scalar
        | false ↦ λ _. at_found ElementsFit _ t.decls d (elements_fit [] t.decls refl clean) found
      ] refl

  pub name_fits : (x : List ℕ) (p : Place) → find_name (model_of t) x ≡ Some p
      → PlaceIs Is (model_of t) p
  name_fits x p e = by_declaration (declaration t.decls x) refl (sym (find_declared t (are_new [] t.decls clean) x) ∙ e)
    where
      by_declaration : (o : Option Decl) → declaration t.decls x ≡ o
          → option_map (place_of_declared t.decls) o ≡ Some p → PlaceIs Is (model_of t) p
      by_declaration None found e = cc
      by_declaration (Some d) found e = let same : place_of_declared t.decls d ≡ p = cc in subst (PlaceIs Is (model_of t)) same (declared_fits x d found)

-- What a name stands for in the model of a tree without faults has variables of its kind.
pub named_fits : (t : LocatedTree) → HasNoFault t → (x : List ℕ) (p : Place)
    → find_name (model_of t) x ≡ Some p → PlaceFits (model_of t) p
named_fits t sound = name_fits (λ _ _. ⊤) t (declarations_clean t sound) (λ _ _ _. tt) (nothing t.decls)
  where
    nothing : (ds : List Decl) → AllByRecursion (ParameterIs (λ _ _. ⊤)) ds
    nothing [] = tt
    nothing (d ∷ ds) = ((λ _ _. tt), nothing ds)
