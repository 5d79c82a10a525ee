-- What was declared so far stands for the declarations that were read, whatever more variables and
-- arrays come.
use Rattle.std.proofs.Common.{◌≡◌, ℕ, suc, ◌+◌, cond, List, [], ◌∷◌, ◌++◌, map, length, refl, sym, ap, subst, ◌∙◌, flat_map, append_assoc, arith}
use Rattle.std.specs.List.{AllByRecursion}
use Rattle.std.proofs.lemmas.List.{map-append, append-nil, length-map}
use Rattle.std.proofs.lemmas.Grind.{flat_map-append}
use Rattle.fz_store.specs.of_meaning.Located.{Decl}
use Rattle.fz_store.specs.of_meaning.Meaning as meaning
use Rattle.fz_store.specs.of_meaning.Meaning.{declared_points, numbered_from, variable_of}
use Rattle.fz_store.specs.of_meaning.Meaning.Declared.{Parameter, ScalarVariable, ArrayOfVariables}
use Rattle.fz_store.specs.of_meaning.Names.{is_scalar_variable, declared_of, variable_declared}
use Rattle.fz_store.specs.of_meaning.Laws.{scalar_variables}
use Rattle.fz_store.proofs.of_meaning.Lists.{all_append}
use Rattle.fz_store.proofs.of_meaning.KnownNames.{next_number, scalars_more}
use Rattle.fz_store.proofs.of_meaning.Names.{numbered_decl}
use Rattle.fz_store.proofs.of_meaning.Scope.{variables_are}
use Rattle.fz_store.specs.declared.parts.Array as the_array
use Rattle.fz_store.specs.declared.parts.DeclaredPoint.{DeclaredPoint}
use Rattle.fz_store.specs.declared.parts.Variable.{Variable}
use Rattle.fz_store.specs.Parts.{variable_view, declared_point}
use Rattle.fz_store.specs.Layout.{IsPlaced}
use Rattle.fz_data.specs.Stands.{Entry, entry_view, entry_place, is_kept, declared_pair, Stands}

-- ---- numbers

how_many_known : (all ds : List Decl)
    → length (flat_map variable_of (map (declared_of all) ds)) ≡ next_number ds
how_many_known all ds = ap length (variables_are all ds) ∙ length-map (scalar_variables ds) variable_declared

-- one more declaration has the number of the scalar variables before it
numbered_push : (n : ℕ) (qs : List meaning.Declared) (q : meaning.Declared)
    → numbered_from n (qs ++ q ∷ [])
    ≡ numbered_from n qs ++ (n + length (flat_map variable_of qs), q) ∷ []
numbered_push n [] (Parameter x p) = let same : n ≡ n + 0 = omega arith in ap (λ m. (m, Parameter x p) ∷ []) same
numbered_push n [] (ScalarVariable x e) = let same : n ≡ n + 0 = omega arith in ap (λ m. (m, ScalarVariable x e) ∷ []) same
numbered_push n [] (ArrayOfVariables x k d ts) = let same : n ≡ n + 0 = omega arith in ap (λ m. (m, ArrayOfVariables x k d ts) ∷ []) same
numbered_push n (Parameter x p ∷ qs) q = ap (λ ds. (n, Parameter x p) ∷ ds) (numbered_push n qs q)
numbered_push n (ArrayOfVariables x k d ts ∷ qs) q = ap (λ ds. (n, ArrayOfVariables x k d ts) ∷ ds) (numbered_push n qs q)
numbered_push n (ScalarVariable x e ∷ qs) q =
    let same : suc n + length (flat_map variable_of qs) ≡ n + suc (length (flat_map variable_of qs)) = omega arith in
    ap (λ ds. (n, ScalarVariable x e) ∷ ds) (numbered_push (suc n) qs q ∙ ap (λ m. numbered_from (suc n) qs ++ (m, q) ∷ []) same)

-- ---- what stands

-- nothing is declared
pub stands_none : (all : List Decl) → Stands all [] [] [] [] []
stands_none all = record {
  declared = λ ws ys. refl;
  places = λ ws ys. refl;
  kept = λ ys. tt;
  variables = refl;
  points = λ ws ys. refl;
  placed = λ ws ys. tt;
}

-- what one more declaration adds: an entry e, variables nv, arrays nx and points np
pub record Adds (all known : List Decl) (d : Decl) (e : Entry) (vs nv : List Variable) (xs nx : List the_array.Array) (np : List DeclaredPoint) : Type 0 where
  pub declared : (ws : List Variable) (ys : List the_array.Array)
      → entry_view (vs ++ (nv ++ ws)) (xs ++ (nx ++ ys)) e ≡ declared_of all d
  pub places : (ws : List Variable) (ys : List the_array.Array)
      → entry_place (vs ++ (nv ++ ws)) (xs ++ (nx ++ ys)) e ≡ declared_pair all d
  pub kept : (ys : List the_array.Array) → is_kept (xs ++ (nx ++ ys)) e
  pub variables : map variable_view nv
      ≡ map variable_declared (cond (is_scalar_variable d) (d ∷ []) [])
  pub points : (ws : List Variable) (ys : List the_array.Array)
      → map (declared_point (vs ++ (nv ++ ws)) (xs ++ (nx ++ ys))) np
      ≡ declared_points (numbered_decl all known d)
  pub placed : (ws : List Variable) (ys : List the_array.Array)
      → AllByRecursion (IsPlaced (vs ++ (nv ++ ws)) (xs ++ (nx ++ ys))) np

module _ (all known : List Decl) (d : Decl) (es : List Entry) (e : Entry) (vs nv : List Variable) (xs nx : List the_array.Array) (ps np : List DeclaredPoint) where
  one_more : {A B : Type 0} (f : A → B) (zs : List A) (z : A) (qs : List B) (q : B) → map f zs ≡ qs
      → f z ≡ q → map f (zs ++ z ∷ []) ≡ qs ++ q ∷ []
  one_more f zs z qs q a b = map-append f zs (z ∷ []) ∙ (λ i. a i ++ b i ∷ [])

  flat_end : {A B : Type 0} (f : A → List B) (zs : List A) (z : A)
      → flat_map f (zs ++ z ∷ []) ≡ flat_map f zs ++ f z
  flat_end f zs z = flat_map-append f zs (z ∷ []) ∙ ap (λ r. flat_map f zs ++ r) (append-nil (f z))

  numbered_end : numbered_from 0 (map (declared_of all) (known ++ d ∷ []))
      ≡ numbered_from 0 (map (declared_of all) known) ++ numbered_decl all known d ∷ []
  numbered_end =
      ap (numbered_from 0) (map-append (declared_of all) known (d ∷ [])) ∙ numbered_push 0 (map (declared_of all) known) (declared_of all d)
      ∙ ap (λ n. numbered_from 0 (map (declared_of all) known) ++ (n, declared_of all d) ∷ []) (plain (length (flat_map variable_of (map (declared_of all) known))) ∙ how_many_known all known)
    where
      plain : (n : ℕ) → 0 + n ≡ n
      plain n = omega arith

  pub stands_more : Stands all known es vs xs ps → Adds all known d e vs nv xs nx np
      → Stands all (known ++ d ∷ []) (es ++ e ∷ []) (vs ++ nv) (xs ++ nx) (ps ++ np)
  stands_more s a = record {
    declared = λ ws ys. (λ i. map (entry_view (append_assoc vs nv ws i) (append_assoc xs nx ys i)) (es ++ e ∷ []))
        ∙ one_more (entry_view (vs ++ (nv ++ ws)) (xs ++ (nx ++ ys))) es e (map (declared_of all) known) (declared_of all d) (s.declared (nv ++ ws) (nx ++ ys)) (a.declared ws ys)
        ∙ sym (map-append (declared_of all) known (d ∷ []));
    places = λ ws ys. (λ i. map (entry_place (append_assoc vs nv ws i) (append_assoc xs nx ys i)) (es ++ e ∷ []))
        ∙ one_more (entry_place (vs ++ (nv ++ ws)) (xs ++ (nx ++ ys))) es e (map (declared_pair all) known) (declared_pair all d) (s.places (nv ++ ws) (nx ++ ys)) (a.places ws ys)
        ∙ sym (map-append (declared_pair all) known (d ∷ []));
    kept = λ ys. subst (λ zs. AllByRecursion (is_kept zs) (es ++ e ∷ [])) (sym (append_assoc xs nx ys)) (all_append (is_kept (xs ++ (nx ++ ys))) es (e ∷ []) (s.kept (nx ++ ys)) (a.kept ys, tt));
    variables = map-append variable_view vs nv ∙ (λ i. s.variables i ++ a.variables i) ∙ sym (map-append variable_declared (scalar_variables known) (cond (is_scalar_variable d) (d ∷ []) [])) ∙ ap (map variable_declared) (sym (scalars_more known d));
    points = λ ws ys. (λ i. map (declared_point (append_assoc vs nv ws i) (append_assoc xs nx ys i)) (ps ++ np))
        ∙ map-append (declared_point (vs ++ (nv ++ ws)) (xs ++ (nx ++ ys))) ps np ∙ (λ i. s.points (nv ++ ws) (nx ++ ys) i ++ a.points ws ys i)
        ∙ sym (ap (flat_map declared_points) numbered_end ∙ flat_end declared_points (numbered_from 0 (map (declared_of all) known)) (numbered_decl all known d));
    placed = λ ws ys. subst (λ zs. AllByRecursion (IsPlaced ((vs ++ nv) ++ ws) zs) (ps ++ np)) (sym (append_assoc xs nx ys))
        (subst (λ us. AllByRecursion (IsPlaced us (xs ++ (nx ++ ys))) (ps ++ np)) (sym (append_assoc vs nv ws))
        (all_append (IsPlaced (vs ++ (nv ++ ws)) (xs ++ (nx ++ ys))) ps np (s.placed (nv ++ ws) (nx ++ ys)) (a.placed ws ys)));
  }
