-- In a tree without faults the objective is an integer.
use Rattle.std.proofs.Common.{◌≡◌, ℕ, pos, Bool, true, false, cond, ◌&&◌, List, [], ◌∷◌, ◌++◌, map, Option, Some, None, refl, sym, ap, subst, ◌∙◌, option_map, slice_get, flat_map, find, ◌⊎◌, filter, arith}
use Rattle.std.specs.Prelude.{⊤}
use Rattle.std.specs.List.{AllByRecursion}
use Rattle.fz_meaning.specs.Relations.{kind_of, same_kind}
use Rattle.fz_meaning.specs.Located.{Basic, Decl, Expr, Goal, Literal, LocatedTree}
use Rattle.fz_meaning.specs.Located.Basic.{Lit, Named}
use Rattle.fz_meaning.specs.Names.FaultKind.{WrongKind}
use Rattle.fz_meaning.specs.Names.{HasNoFault, kind_fault, part_fault, parts_fault, decls_fault, goal_fault, declaration, kinds, named_as, is_scalar, is_scalar_variable, number_of, scalar_term, scalars, declared_elements, places, term_of, literal_value, literal_of, kind_of_base, parts, declared_of, variable_declared, model_of, aim_of, definition_of, domain_of, place_of_declared, fault_at_decl}
use Rattle.fz_meaning.specs.Laws.{scalar_variables}
use Rattle.std.proofs.lemmas.List.Folds.{find_at}
use Rattle.std.proofs.lemmas.Option.{slice_get-map}
use Rattle.std.proofs.lemmas.Grind.{common_steps}
use Rattle.fz_meaning.specs.Meaning.{Declared, variable_of, Aim, Model}
use Rattle.fz_meaning.specs.declared.term.Term.TheVariants.{Var, Fixed}
use Rattle.fz_meaning.specs.declared.term.Term.{Term}
use Rattle.fz_meaning.specs.Steps.{kind_at}
use Rattle.fz_meaning.proofs.Values.{no}
use Rattle.fz_meaning.proofs.Determined.{at_found}
use Rattle.fz_meaning.proofs.KnownNames.{clean_name, has_name, parts_clean, passed, term_placed}
use Rattle.fz_meaning.proofs.ScanSteps.{first_none, second_none, declarations_clean, goal_clean}
use Rattle.fz_base.specs.declared.value.Value.TheVariants.{Int}
use Rattle.fz_meaning.specs.declared.kind.Kind.{Kind}
use Rattle.fz_meaning.specs.declared.kind.Kind.TheVariants.{Int as IntKind}

-- ---- the kind of a scalar

abbrev pub kind_of_term : Model → Term → Option Kind
kind_of_term m (Var n) = kind_at m n
kind_of_term m (Fixed v) = Some (kind_of v)

-- what is minimized or maximized is an integer
abbrev pub HasNumberKind : Model → Aim → Type 0
HasNumberKind m Aim.Satisfy = ⊤
HasNumberKind m (Aim.Minimize t) = kind_of_term m t ≡ Some IntKind
HasNumberKind m (Aim.Maximize t) = kind_of_term m t ≡ Some IntKind

abbrev pub AimsAtNumber : Model → Type 0
AimsAtNumber m = HasNumberKind m m.aim

pub same_kind_is : (j k : Kind) → same_kind j k ≡ true → j ≡ k
same_kind_is j k e = grind (arith, common_steps, no)

-- ---- the first scalar variable of a name

found_among : (t q : Decl → Bool) (ds : List Decl) (d : Decl) → find t ds ≡ Some d → q d ≡ true
    → find t (filter q ds) ≡ Some d
found_among t q [] d e h = e
found_among t q (c ∷ ds) d e h =
    (elim (t c) as (λ b. t c ≡ b → cond b (Some c) (find t ds) ≡ Some d → find t (cond (q c) (c ∷ filter q ds) (filter q ds)) ≡ Some d) [
      | true ↦ λ here e.
          let same : c ≡ d = cc in
          let passes : q c ≡ true = subst (λ z. q z ≡ true) (sym same) h in
          subst (λ b. find t (cond b (c ∷ filter q ds) (filter q ds)) ≡ Some d) (sym passes) (subst (λ b. cond b (Some c) (find t (filter q ds)) ≡ Some d) (sym here) (ap Some same))
      | false ↦ λ here e.
          elim (q c) as (λ b. find t (cond b (c ∷ filter q ds) (filter q ds)) ≡ Some d) [
            | true ↦ subst (λ b. cond b (Some c) (find t (filter q ds)) ≡ Some d) (sym here) (found_among t q ds d e h)
            | false ↦ found_among t q ds d e h
          ]
    ]) refl e

-- the variables of a tree's model are those of its scalar variables
pub variables_are : (all ds : List Decl)
    → flat_map variable_of (map (declared_of all) ds) ≡ map variable_declared (scalar_variables ds)
variables_are all [] = refl
variables_are all (d ∷ ds) =
    elim d.is_var as (λ b. variable_of (cond b (cond (is_scalar d) (Declared.ScalarVariable (variable_declared d) (definition_of (scalars all) d.value)) (Declared.ArrayOfVariables d.name.text (kind_of_base d.base) (domain_of d.base) (declared_elements all d))) (Declared.Parameter d.name.text (place_of_declared all d))) ++ flat_map variable_of (map (declared_of all) ds)
    ≡ map variable_declared (cond (b && is_scalar d) (d ∷ scalar_variables ds) (scalar_variables ds))) [
      | false ↦ variables_are all ds
      | true ↦ elim (is_scalar d) as (λ b. variable_of (cond b (Declared.ScalarVariable (variable_declared d) (definition_of (scalars all) d.value)) (Declared.ArrayOfVariables d.name.text (kind_of_base d.base) (domain_of d.base) (declared_elements all d))) ++ flat_map variable_of (map (declared_of all) ds)
          ≡ map variable_declared (cond b (d ∷ scalar_variables ds) (scalar_variables ds))) [
            | true ↦ ap (λ vs. variable_declared d ∷ vs) (variables_are all ds)
            | false ↦ variables_are all ds
          ]
    ]

-- the number of a name that a scalar variable has leads to that variable
pub kind_of_number : (t : LocatedTree) (x : List ℕ) (d : Decl) → declaration t.decls x ≡ Some d
    → is_scalar_variable d ≡ true → kind_at (model_of t) (number_of t.decls x)
    ≡ Some (kind_of_base d.base)
kind_of_number t x d found is =
    let at : slice_get (scalar_variables t.decls) (number_of t.decls x) ≡ Some d = sym (find_at (named_as x) (scalar_variables t.decls)) ∙ found_among (named_as x) is_scalar_variable t.decls d found is in
    ap (λ vs. option_map (λ v. v.kind) (slice_get vs (number_of t.decls x))) (variables_are t.decls t.decls)
    ∙ ap (option_map (λ v. v.kind)) (slice_get-map variable_declared (scalar_variables t.decls) (number_of t.decls x) ∙ ap (option_map variable_declared) at)

-- ---- in a tree without faults

-- a literal without a fault is of the kind that is wanted
pub literal_is_of : (k : Kind) (l : Literal)
    → kind_fault (Some k) (Some (kind_of (literal_value l.what))) l.span ≡ None
    → kind_of (literal_value l.what) ≡ k
literal_is_of k l e = same_kind_is (kind_of (literal_value l.what)) k (passed (same_kind (kind_of (literal_value l.what)) k) (WrongKind, l.span) e)

-- the value of a declared scalar has the declared kind, or there is no literal
abbrev HasLiteralKind : Decl → Type 0
HasLiteralKind d = (kind_of (literal_of d.value) ≡ kind_of_base d.base) ⊎ (literal_of d.value ≡ Int (pos 0))

literal_kind : (before : List Decl) (k : Kind) (v : Option Expr)
    → parts_fault (kinds before) (Some k) (parts v) ≡ None
    → (kind_of (literal_of v) ≡ k) ⊎ (literal_of v ≡ Int (pos 0))
literal_kind before k v e = grind (arith, common_steps, literal_is_of, first_none)

literal_kinds : (before ds : List Decl) → decls_fault before ds ≡ None
    → AllByRecursion HasLiteralKind ds
literal_kinds before [] e = tt
literal_kinds before (d ∷ ds) e =
    let later : List Decl = before ++ d ∷ [] in (
      literal_kind before (kind_of_base d.base) d.value
          (parts_clean before d (first_none (fault_at_decl (kinds before) d) (decls_fault later ds) e)),
      literal_kinds later ds (second_none (fault_at_decl (kinds before) d) (decls_fault later ds) e),
    )

module _ (t : LocatedTree) (clean : decls_fault [] t.decls ≡ None) where
  number_kind : (x : List ℕ) (d : Decl) → declaration t.decls x ≡ Some d → is_scalar d ≡ true
      → kind_of_base d.base ≡ IntKind
      → kind_of_term (model_of t) (scalar_term t.decls d) ≡ Some IntKind
  number_kind x d found scalar is =
      grind (arith, common_steps, has_name, kind_of_number, at_found, literal_kinds)

  objective_kind : (b : Basic) → part_fault (kinds t.decls) (Some IntKind) b ≡ None
      → kind_of_term (model_of t) (term_of (places t.decls) b) ≡ Some IntKind
  objective_kind (Lit l) e = ap Some (literal_is_of IntKind l e)
  objective_kind (Named x) e =
      let (d, found, scalar, is) = clean_name IntKind (declaration t.decls x.text) x.span e in
      ap (kind_of_term (model_of t)) (term_placed t.decls x d found scalar) ∙ number_kind x.text d found scalar (same_kind_is (kind_of_base d.base) IntKind is)

  in_goal : (g : Goal) → goal_fault (kinds t.decls) g ≡ None
      → HasNumberKind (model_of t) (aim_of (places t.decls) g)
  in_goal g e = grind (arith, common_steps, objective_kind, first_none)

-- A tree without faults aims at a number.
pub sound_aims : (t : LocatedTree) → HasNoFault t → AimsAtNumber (model_of t)
sound_aims t sound = in_goal t (declarations_clean t sound) t.solve.goal (goal_clean t sound)
