-- In declarations without a fault: which declaration a name has, its number, and what the model
-- finds by it.
use Rattle.std.proofs.Common.{◌≡◌, ℕ, suc, true, false, cond, List, [], ◌∷◌, ◌++◌, map, Some, None, refl, sym, ap, subst, ◌∙◌, find, append_assoc, option_map, bytes_eq, arith}
use Rattle.std.specs.Prelude.{⊤}
use Rattle.std.specs.Option.{option_or}
use Rattle.std.proofs.lemmas.Grind.{common_steps}
use Rattle.fz_meaning.specs.Located.{Decl, LocatedTree}
use Rattle.fz_meaning.specs.Meaning.{Declared, numbered, numbered_from, name_of, place_named, place_if_named, find_name, first_some}
use Rattle.fz_meaning.specs.Names.{HasNoFault, declaration, named_as, is_scalar_variable, number_of, place_of_declared, declared_of, model_of, decls_fault, fault_at_decl, kinds}
use Rattle.fz_meaning.proofs.KnownNames.{declares, is_new, number_here, next_number, next_number_more}
use Rattle.fz_meaning.proofs.ScanSteps.{first_none, second_none, declarations_clean}

-- ---- distinct names

-- each is declared once
abbrev pub AreNew : List Decl → List Decl → Type 0
AreNew before [] = ⊤
AreNew before (d ∷ ds) = (declares before d.name.text ≡ false) × AreNew (before ++ d ∷ []) ds

pub are_new : (before ds : List Decl) → decls_fault before ds ≡ None → AreNew before ds
are_new before [] e = tt
are_new before (d ∷ ds) e =
    (is_new before d (first_none (fault_at_decl (kinds before) d) (decls_fault (before ++ d ∷ []) ds) e), are_new (before ++ d ∷ []) ds (second_none (fault_at_decl (kinds before) d) (decls_fault (before ++ d ∷ []) ds) e))

-- the declarations of a tree without faults
pub sound_names : (t : LocatedTree) → HasNoFault t → AreNew [] t.decls
sound_names t sound = are_new [] t.decls (declarations_clean t sound)

-- ---- the numbered declarations of a model

-- a declaration with the number of scalar variables before it
abbrev pub numbered_decl : List Decl → List Decl → Decl → (ℕ × Declared)
numbered_decl all before d = (next_number before, declared_of all d)

abbrev pub numbered_after : List Decl → List Decl → List Decl → List (ℕ × Declared)
numbered_after all before [] = []
numbered_after all before (d ∷ ds) = numbered_decl all before d ∷ numbered_after all (before ++ d ∷ []) ds

numbered_next : (n : ℕ) (all : List Decl) (d : Decl) (qs : List Declared)
    → numbered_from n (declared_of all d ∷ qs)
    ≡ (n, declared_of all d) ∷ numbered_from (cond (is_scalar_variable d) (suc n) n) qs
numbered_next n all d qs = grind (arith, common_steps)

numbered_by : (all before ds : List Decl)
    → numbered_from (next_number before) (map (declared_of all) ds) ≡ numbered_after all before ds
numbered_by all before [] = refl
numbered_by all before (d ∷ ds) =
    numbered_next (next_number before) all d (map (declared_of all) ds)
    ∙ ap (λ n. numbered_decl all before d ∷ numbered_from n (map (declared_of all) ds)) (sym (next_number_more before d))
    ∙ ap (λ qs. numbered_decl all before d ∷ qs) (numbered_by all (before ++ d ∷ []) ds)

-- each declaration of a model has the number of scalar variables before it
pub numbered_is : (t : LocatedTree) → numbered (model_of t) ≡ numbered_after t.decls [] t.decls
numbered_is t = numbered_by t.decls [] t.decls

-- ---- what the model finds by a name

pub declared_name : (all : List Decl) (d : Decl) → name_of (declared_of all d) ≡ d.name.text
declared_name all d = grind (arith, common_steps)

-- what the declared name stands for in the model is what the declaration stands for
pub place_named_is : (n : ℕ) (all : List Decl) (d : Decl)
    → (is_scalar_variable d ≡ true → number_of all d.name.text ≡ n)
    → place_named n (declared_of all d) ≡ place_of_declared all d
place_named_is n all d h = grind (arith, common_steps)

find_numbered : (all before ds : List Decl) → before ++ ds ≡ all → AreNew before ds → (x : List ℕ)
    → first_some (place_if_named x) (numbered_after all before ds)
    ≡ option_map (place_of_declared all) (find (named_as x) ds)
find_numbered all before [] e new x = refl
find_numbered all before (d ∷ ds) e new x =
    let place : place_named (next_number before) (declared_of all d) ≡ place_of_declared all d =
    place_named_is (next_number before) all d (λ is. subst (λ zs. number_of zs d.name.text ≡ next_number before) e (number_here before d ds new.0 is)) in
    let later : first_some (place_if_named x) (numbered_after all (before ++ d ∷ []) ds) ≡ option_map (place_of_declared all) (find (named_as x) ds) =
    find_numbered all (before ++ d ∷ []) ds (append_assoc before (d ∷ []) ds ∙ e) new.1 x in
    (λ i. option_or (cond (bytes_eq (declared_name all d i) x) (Some (place i)) None) (later i))
    ∙ elim (named_as x d) as (λ b. option_or (cond b (Some (place_of_declared all d)) None) (option_map (place_of_declared all) (find (named_as x) ds)) ≡ option_map (place_of_declared all) (cond b (Some d) (find (named_as x) ds))) [ true ↦ refl | false ↦ refl ]

-- By a name the model finds what its declaration stands for.
pub find_declared : (t : LocatedTree) → AreNew [] t.decls → (x : List ℕ)
    → find_name (model_of t) x ≡ option_map (place_of_declared t.decls) (declaration t.decls x)
find_declared t new x = ap (first_some (place_if_named x)) (numbered_is t) ∙ find_numbered t.decls [] t.decls refl new x
