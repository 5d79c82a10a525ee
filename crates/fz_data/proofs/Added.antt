-- What each kind of declaration adds.
use Rattle.std.proofs.Common.{◌≡◌, ℕ, ◌<◌, Bool, true, false, not, cond, ◌&&◌, List, [], ◌∷◌, ◌++◌, map, length, Option, Some, None, option_map, slice_get, is_some, refl, sym, ap, ◌∙◌}
use Rattle.std.specs.List.{AllByRecursion}
use Rattle.std.specs.Option.{option_map_or}
use Rattle.std.proofs.lemmas.Bool.{and_right, cond-true, cond-false}
use Rattle.std.proofs.lemmas.Option.{slice_get_within}
use Rattle.fz_store.proofs.of_meaning.Points.{slice_get_at}
use Rattle.fz_store.specs.of_meaning.of_base.declared.value.Value.{Value}
use Rattle.fz_store.specs.of_meaning.declared.kind.Kind.{Kind}
use Rattle.fz_store.specs.of_meaning.declared.term.Term.{Term}
use Rattle.fz_store.specs.of_meaning.declared.term.Term.TheVariants.{Var, Fixed}
use Rattle.fz_store.specs.of_meaning.declared.term.Domain.{Domain}
use Rattle.fz_store.specs.of_meaning.declared.term.Domain.TheVariants.{All, Within, Among}
use Rattle.fz_store.specs.of_meaning.Relations.{kind_of, same_kind}
use Rattle.fz_store.specs.of_meaning.Located.{Decl}
use Rattle.fz_store.specs.of_meaning.Meaning.{Place, declared_points, definition_points, admits_all}
use Rattle.fz_store.specs.of_meaning.Meaning.Place.{Scalar, Array}
use Rattle.fz_store.specs.of_meaning.Meaning.Declared.{Parameter, ScalarVariable, ArrayOfVariables}
use Rattle.fz_store.specs.of_meaning.Meaning.Point.{DomainPoint, ArrayPoint}
use Rattle.fz_store.specs.of_meaning.Names.{kind_of_base, domain_of, is_scalar, is_scalar_variable, number_of, literal_of, scalars, declared_elements, place_of_declared, definition_of, declared_of, variable_declared}
use Rattle.fz_store.proofs.of_meaning.Scope.{same_kind_is}
use Rattle.fz_store.proofs.of_meaning.KnownNames.{declares, next_number, number_here}
use Rattle.fz_store.specs.declared.parts.Array as the_array
use Rattle.fz_store.specs.Naming.{Declared as declarations}
use Rattle.fz_store.specs.declared.parts.DeclaredPoint.TheVariants as points
use Rattle.fz_store.specs.declared.parts.Variable.{Variable}
use Rattle.fz_store.specs.Parts.{variable_view, no_variable, variable_at, definition_at, array_view, declared_point, definition_point, elements_point, no_array, elements_of}
use Rattle.fz_store.specs.Declarations.{array_declared}
use Rattle.fz_store.specs.Layout.{IsPlaced}
use Rattle.fz_data.specs.Scope.{has_elements_point}
use Rattle.fz_data.proofs.Stands.{Adds}

-- ---- a parameter

module _ (all known : List Decl) (d : Decl) (k : List ℕ) (v : Value) (named : k ≡ d.name.text) (scalar : is_scalar d ≡ true) (fixed : d.is_var ≡ false) (value : v ≡ literal_of d.value)
    (kinds : same_kind (kind_of v) (kind_of_base d.base) ≡ true) where
  parameter_place : place_of_declared all d ≡ Scalar (kind_of v) (Fixed v)
  parameter_place =
      cond-true (is_scalar d) _ _ scalar ∙ ap (Scalar (kind_of_base d.base)) (cond-false d.is_var _ _ fixed)
      ∙ (λ i. Scalar (sym (same_kind_is (kind_of v) (kind_of_base d.base) kinds) i) (Fixed (sym value i)))

  parameter_is : declared_of all d ≡ Parameter d.name.text (place_of_declared all d)
  parameter_is = cond-false d.is_var _ _ fixed

  pub adds_parameter : (vs : List Variable) (xs : List the_array.Array)
      → Adds all known d (k, declarations.Scalar (Fixed v)) vs [] xs [] []
  adds_parameter vs xs = record {
    declared = λ ws ys. (λ i. Parameter (named i) (sym parameter_place i)) ∙ sym parameter_is;
    places = λ ws ys. (λ i. (named i, sym parameter_place i));
    kept = λ ys. tt;
    variables = ap (λ b. map variable_declared (cond (b && is_scalar d) (d ∷ []) [])) (sym fixed);
    points = λ ws ys. ap (λ q. declared_points (next_number known, q)) (sym parameter_is);
    placed = λ ws ys. tt;
  }

-- ---- a variable

module _ (us : List Variable) (zs : List the_array.Array) (n : ℕ) where
  variable_points : (o : Option Term) → definition_at us n ≡ o
      → map (declared_point us zs) (points.Domain n ∷ cond (is_some o) (points.Definition n ∷ []) []) ≡ DomainPoint (variable_at us n) n ∷ definition_points (variable_at us n) n o
  variable_points None e = refl
  variable_points (Some t) e = λ i. DomainPoint (variable_at us n) n ∷ definition_point us n (e i) ∷ []

  variable_placed : (o : Option Term) → definition_at us n ≡ o → n < length us
      → AllByRecursion (IsPlaced us zs)
      (points.Domain n ∷ cond (is_some o) (points.Definition n ∷ []) [])
  variable_placed None e lt = (lt, tt)
  variable_placed (Some t) e lt = (lt, ((lt, ap is_some e), tt))

module _ (all known : List Decl) (d : Decl) (rest : List Decl) (split : all ≡ known ++ d ∷ rest) (new : declares known d.name.text ≡ false)
    (k : List ℕ) (v : Variable) (named : k ≡ d.name.text) (scalar : is_scalar d ≡ true)
    (varies : d.is_var ≡ true) (view : variable_view v ≡ variable_declared d)
    (definition : v.definition ≡ definition_of (scalars all) d.value) (vs : List Variable) (count : length vs ≡ next_number known) (xs : List the_array.Array) where
  is_one : is_scalar_variable d ≡ true
  is_one = ap (λ b. b && is_scalar d) varies ∙ scalar

  number : length vs ≡ number_of all d.name.text
  number = count ∙ sym (number_here known d rest new is_one) ∙ ap (λ ds. number_of ds d.name.text) (sym split)

  variable_is : declared_of all d ≡ ScalarVariable (variable_declared d) (definition_of (scalars all) d.value)
  variable_is = cond-true d.is_var _ _ varies ∙ cond-true (is_scalar d) _ _ scalar

  variable_place : place_of_declared all d
      ≡ Scalar (kind_of_base d.base) (Var (number_of all d.name.text))
  variable_place = cond-true (is_scalar d) _ _ scalar ∙ ap (Scalar (kind_of_base d.base)) (cond-true d.is_var _ _ varies)

  at : (ws : List Variable) → slice_get (vs ++ v ∷ ws) (length vs) ≡ Some v
  at ws = slice_get_at vs ws v

  variable_there : (ws : List Variable)
      → variable_at (vs ++ v ∷ ws) (length vs) ≡ variable_declared d
  variable_there ws = ap (λ o. option_map_or variable_view o no_variable) (at ws) ∙ view

  definition_there : (ws : List Variable) → definition_at (vs ++ v ∷ ws) (length vs) ≡ v.definition
  definition_there ws = ap (λ o. option_map_or (λ (w : Variable). w.definition) o None) (at ws)

  pub adds_variable : Adds all known d (k, declarations.Scalar (Var (length vs))) vs (v ∷ []) xs []
      (points.Domain (length vs) ∷ cond (is_some v.definition)
      (points.Definition (length vs) ∷ []) [])
  adds_variable = record {
    declared = λ ws ys. (λ i. ScalarVariable (variable_there ws i) ((definition_there ws ∙ definition) i)) ∙ sym variable_is;
    places = λ ws ys. (λ i. (named i, ((λ j. Scalar ((variable_there ws j).kind) (Var (number j))) ∙ sym variable_place) i));
    kept = λ ys. tt;
    variables = (λ i. view i ∷ []) ∙ ap (λ b. map variable_declared (cond b (d ∷ []) [])) (sym is_one);
    points = λ ws ys. variable_points (vs ++ v ∷ ws) (xs ++ ys) (length vs) v.definition (definition_there ws)
        ∙ (λ i. DomainPoint (variable_there ws i) (count i) ∷ definition_points (variable_there ws i) (count i) (definition i))
        ∙ ap (λ q. declared_points (next_number known, q)) (sym variable_is);
    placed = λ ws ys. variable_placed (vs ++ v ∷ ws) (xs ++ ys) (length vs) v.definition (definition_there ws) (slice_get_within (vs ++ v ∷ ws) (length vs) v (at ws));
  }

-- ---- an array

bounded_points : (b : Bool) (m : ℕ) (x : List ℕ) (k : Kind) (dom : Domain) (ts : List Term)
    (p : Place)
    → cond (b && not (admits_all dom)) (ArrayPoint x dom ts ∷ []) [] ≡ declared_points (m, cond b (ArrayOfVariables x k dom ts) (Parameter x p))
bounded_points false m x k dom ts p = refl
bounded_points true m x k All ts p = refl
bounded_points true m x k (Within lo hi) ts p = refl
bounded_points true m x k (Among s) ts p = refl

map_cond : {A B : Type 0} (f : A → B) (b : Bool) (x : A)
    → map f (cond b (x ∷ []) []) ≡ cond b (f x ∷ []) []
map_cond f true x = refl
map_cond f false x = refl

all_cond : {A : Type 0} (P : A → Type 0) (b : Bool) (x : A) → P x
    → AllByRecursion P (cond b (x ∷ []) [])
all_cond P true x h = (h, tt)
all_cond P false x h = tt

module _ (all known : List Decl) (d : Decl) (k : List ℕ) (x : the_array.Array) (named : k ≡ d.name.text) (list : is_scalar d ≡ false) (varies : x.is_variable ≡ d.is_var) (name : x.name.now ≡ d.name.text)
    (kind : x.kind ≡ kind_of_base d.base) (domain : x.domain ≡ domain_of d.base) (elements : elements_of x ≡ declared_elements all d) (vs : List Variable) (xs : List the_array.Array) where
  array_place : place_of_declared all d
      ≡ Array d.name.text (kind_of_base d.base) (declared_elements all d)
  array_place = cond-false (is_scalar d) _ _ list

  array_is : declared_of all d ≡ cond d.is_var (ArrayOfVariables d.name.text (kind_of_base d.base)
      (domain_of d.base) (declared_elements all d))
      (Parameter d.name.text (Array d.name.text (kind_of_base d.base)
      (declared_elements all d)))
  array_is = λ i. cond d.is_var (cond (list i) (ScalarVariable (variable_declared d) (definition_of (scalars all) d.value)) (ArrayOfVariables d.name.text (kind_of_base d.base) (domain_of d.base) (declared_elements all d))) (Parameter d.name.text (array_place i))

  declared_is : array_declared x ≡ declared_of all d
  declared_is = (λ i. cond (varies i) (ArrayOfVariables (name i) (kind i) (domain i) (elements i)) (Parameter (name i) (Array (name i) (kind i) (elements i)))) ∙ sym array_is

  here : (ys : List the_array.Array) → slice_get (xs ++ x ∷ ys) (length xs) ≡ Some x
  here ys = slice_get_at xs ys x

  pub adds_array : Adds all known d (k, declarations.Array (length xs)) vs [] xs (x ∷ [])
      (cond (has_elements_point x) (points.Elements (length xs) ∷ []) [])
  adds_array = record {
    declared = λ ws ys. ap (λ o. option_map_or array_declared o (Parameter k no_array)) (here ys) ∙ declared_is;
    places = λ ws ys. (λ i. (named i, (ap (λ o. option_map_or array_view o no_array) (here ys) ∙ (λ j. Array (name j) (kind j) (elements j)) ∙ sym array_place) i));
    kept = λ ys. ap (option_map (λ (a : the_array.Array). a.name.now)) (here ys) ∙ ap Some (name ∙ sym named);
    variables = ap (λ b. map variable_declared (cond b (d ∷ []) [])) (sym (ap (λ b. d.is_var && b) list ∙ and_right d.is_var false refl));
    points = λ ws ys. map_cond (declared_point (vs ++ ws) (xs ++ x ∷ ys)) (has_elements_point x) (points.Elements (length xs))
        ∙ ap (λ o. cond (has_elements_point x) (option_map_or elements_point o (ArrayPoint [] All []) ∷ []) []) (here ys)
        ∙ bounded_points x.is_variable (next_number known) x.name.now x.kind x.domain (elements_of x) (array_view x) ∙ ap (λ q. declared_points (next_number known, q)) declared_is;
    placed = λ ws ys. all_cond (IsPlaced (vs ++ ws) (xs ++ x ∷ ys)) (has_elements_point x) (points.Elements (length xs)) (slice_get_within (xs ++ x ∷ ys) (length xs) x (here ys));
  }
