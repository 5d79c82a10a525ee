-- A tree has the model that it has where it asks for every scalar variable: each name stands for
-- the same.
use Rattle.std.proofs.Common.{◌≡◌, ℕ, true, false, cond, List, [], ◌∷◌, map, Option, Some, None, option_map, refl, ap, ◌∙◌, not, ◌+◌}
use Rattle.std.specs.List.{position_or_len}
use Rattle.fz_search.specs.of_model.declared.Term.TheVariants.{Var, Fixed}
use Rattle.fz_search.specs.of_model.Located.{Decl, LocatedTree}
use Rattle.fz_search.specs.of_model.Meaning.Place.{Scalar, Array}
use Rattle.fz_search.specs.of_model.Meaning.Declared.{Parameter, ScalarVariable, ArrayOfVariables}
use Rattle.fz_search.specs.of_model.Names.{named_as, declaration, is_scalar, is_scalar_variable, number_of, literal_of, scalar_place, scalars, places, term_of, place_of_declared, kind_of_base, domain_of, parts, variable_declared, definition_of, declared_of, posted_of, aim_of, model_of}
use Rattle.fz_search.specs.of_model.Laws.{scalar_variables}
use Rattle.fz_check.specs.Outputs.{printed_decl, with_all_printed}

abbrev pub printed : List Decl → List Decl
printed ds = map printed_decl ds

-- ---- names

pub found_still : (ds : List Decl) (x : List ℕ)
    → declaration (printed ds) x ≡ option_map printed_decl (declaration ds x)
found_still [] x = refl
found_still (d ∷ ds) x = elim (named_as x d) as (λ b. cond b (Some (printed_decl d)) (declaration (printed ds) x) ≡ option_map printed_decl (cond b (Some d) (declaration ds x))) [
  | true ↦ refl
  | false ↦ found_still ds x
]

-- what is looked up of a declaration is the same, where that asks for no annotation
pub looked_up : {A : Type 0} (g f : Decl → A) → ((d : Decl) → g (printed_decl d) ≡ f d)
    → (ds : List Decl) (x : List ℕ)
    → option_map g (declaration (printed ds) x) ≡ option_map f (declaration ds x)
looked_up g f same ds x = ap (option_map g) (found_still ds x) ∙ each (declaration ds x)
  where
    each : (o : Option Decl) → option_map g (option_map printed_decl o) ≡ option_map f o
    each None = refl
    each (Some d) = ap Some (same d)

variables_still : (ds : List Decl) → scalar_variables (printed ds) ≡ printed (scalar_variables ds)
variables_still [] = refl
variables_still (d ∷ ds) = elim (is_scalar_variable d) as (λ b. cond b (printed_decl d ∷ scalar_variables (printed ds)) (scalar_variables (printed ds)) ≡ printed (cond b (d ∷ scalar_variables ds) (scalar_variables ds))) [
  | true ↦ ap (λ rest. printed_decl d ∷ rest) (variables_still ds)
  | false ↦ variables_still ds
]

position_still : (ds : List Decl) (x : List ℕ)
    → position_or_len (named_as x) (printed ds) ≡ position_or_len (named_as x) ds
position_still [] x = refl
position_still (d ∷ ds) x = ap (λ n. cond (not (named_as x d)) (1 + n) 0) (position_still ds x)

numbered_still : (ds : List Decl) (x : List ℕ) → number_of (printed ds) x ≡ number_of ds x
numbered_still ds x = ap (position_or_len (named_as x)) (variables_still ds) ∙ position_still (scalar_variables ds) x

-- ---- what a name stands for

scalar_still : (ds : List Decl) (d : Decl)
    → scalar_place (printed ds) (printed_decl d) ≡ scalar_place ds d
scalar_still ds d = ap (λ n. Scalar (kind_of_base d.base) (cond d.is_var (Var n) (Fixed (literal_of d.value)))) (numbered_still ds d.name.text)

scalars_still : (ds : List Decl) → scalars (printed ds) ≡ scalars ds
scalars_still ds = λ i x. looked_up (scalar_place (printed ds)) (scalar_place ds) (scalar_still ds) ds x i

place_still : (ds : List Decl) (d : Decl)
    → place_of_declared (printed ds) (printed_decl d) ≡ place_of_declared ds d
place_still ds d = λ i. cond (is_scalar d) (scalar_still ds d i)
    (Array d.name.text (kind_of_base d.base) (map (term_of (scalars_still ds i)) (parts d.value)))

places_still : (ds : List Decl) → places (printed ds) ≡ places ds
places_still ds = λ i x. looked_up (place_of_declared (printed ds)) (place_of_declared ds) (place_still ds) ds x i

-- ---- items

item_still : (ds : List Decl) (d : Decl)
    → declared_of (printed ds) (printed_decl d) ≡ declared_of ds d
item_still ds d = λ i.
    cond d.is_var
    (cond (is_scalar d)
    (ScalarVariable (variable_declared d) (definition_of (scalars_still ds i) d.value))
    (ArrayOfVariables d.name.text (kind_of_base d.base) (domain_of d.base) (map (term_of (scalars_still ds i)) (parts d.value))))
    (Parameter d.name.text (place_still ds d i))

items_still : (all ds : List Decl)
    → map (declared_of (printed all)) (printed ds) ≡ map (declared_of all) ds
items_still all [] = refl
items_still all (d ∷ ds) = λ i. item_still all d i ∷ items_still all ds i

pub same_model : (t : LocatedTree) → model_of (with_all_printed t) ≡ model_of t
same_model t = λ i. record {
  declared = items_still t.decls t.decls i;
  constraints = map (posted_of (places_still t.decls i)) t.constraints;
  aim = aim_of (places_still t.decls i) t.solve.goal;
}
