-- What a look-up among the names finds.
use Rattle.std.proofs.Common.{◌≡◌, ℕ, List, [], ◌∷◌, map, Option, Some, None, option_map, slice_get, refl, sym, ap, ◌∙◌, subst, cond, Bool, true, false, ◌||◌, nat_eq}
use Rattle.std.specs.List.{list_any, starts_with}
use Rattle.std.specs.Option.{option_map_or, option_or}
use Rattle.std.specs.Str.{bytes_eq}
use Rattle.std.specs.Map.{lookup}
use Rattle.std.specs.Cmp.{both_ways}
use Rattle.std.proofs.lemmas.Slice.Eq.{bytes_eq-Decides}
use Rattle.std.proofs.lemmas.Option.{slice_get-map, same_Some}
use Rattle.fz_meaning.specs.Meaning as meaning
use Rattle.fz_meaning.specs.Meaning.{begins_name, find_name, first_some, name_of, place_if_named, numbered, variables_of}
use Rattle.fz_meaning.specs.declared.kind.Kind.TheVariants.{Int as IntKind}
use Rattle.fz_meaning.specs.declared.term.Term.{Term}
use Rattle.fz_meaning.specs.declared.term.Term.TheVariants.{Var, Fixed}
use Rattle.fz_meaning.proofs.ScanSteps.{first_map}
use Rattle.fz_store.specs.declared.model.Model.TheInside.{Inside}
use Rattle.fz_store.specs.declared.parts.Variable.{Variable}
use Rattle.fz_store.specs.declared.parts.Array.{Array}
use Rattle.fz_store.specs.declared.names.Kept.{Kept}
use Rattle.fz_store.specs.Names.{citation_stands}
use Rattle.fz_store.specs.Naming.{Declared, has_text}
use Rattle.fz_store.specs.Naming.{Declared as declarations}
use Rattle.fz_store.specs.Parts.{variable_view, no_variable, kind_of_term, array_view, no_array, elements_of}
use Rattle.fz_store.specs.Declarations.{declared_place}
use Rattle.fz_store.specs.Layout.{model_view, named_place, IsArrayNamed, IsKeptAs, IsLaidOut}
use Rattle.fz_store.specs.Shown.{kind_among}
use Rattle.fz_store.proofs.Loops.{found_entry}

-- the index of the first pair that has the name
abbrev pub by_name : List ℕ → (List ℕ × meaning.Place) → Option meaning.Place
by_name x (n, p) = cond (bytes_eq n x) (Some p) None

place_by_name : (x : List ℕ) (d : ℕ × meaning.Declared)
    → place_if_named x d ≡ by_name x (named_place d)
place_by_name x (n, d) = refl

pub first_some-same : {A B : Type 0} (f g : A → Option B) → ((x : A) → f x ≡ g x) → (xs : List A)
    → first_some f xs ≡ first_some g xs
first_some-same f g same [] = refl
first_some-same f g same (x ∷ xs) = λ i. option_or (same x i) (first_some-same f g same xs i)

find_by_name : (m : meaning.Model) (x : List ℕ)
    → find_name m x ≡ first_some (by_name x) (map named_place (numbered m))
find_by_name m x = first_some-same (place_if_named x) (λ d. by_name x (named_place d)) (place_by_name x) (numbered m) ∙ sym (first_map (by_name x) named_place (numbered m))

bytes_eq-turn : (xs ys : List ℕ) → bytes_eq xs ys ≡ bytes_eq ys xs
bytes_eq-turn xs ys =
    both_ways (bytes_eq xs ys) (bytes_eq ys xs) (λ e. (bytes_eq-Decides ys xs).1 (sym ((bytes_eq-Decides xs ys).0 e))) (λ e. (bytes_eq-Decides xs ys).1 (sym ((bytes_eq-Decides ys xs).0 e)))

-- an entry as its name and what the name stands for
abbrev entry_place : List Variable → List Array → (List ℕ × Declared) → (List ℕ × meaning.Place)
entry_place vs xs p = (p.0, declared_place vs xs p.1)

pub or_else : {A B : Type 0} (f : A → B) (b : Bool) (x : A) (o : Option A)
    → option_or (cond b (Some (f x)) None) (option_map f o) ≡ option_map f (cond b (Some x) o)
or_else f true x o = refl
or_else f false x o = refl

-- the first entry that has the name
pub first_entry : (vs : List Variable) (xs : List Array) (x : List ℕ)
    (es : List (List ℕ × Declared)) → first_some (by_name x) (map (entry_place vs xs) es)
    ≡ option_map (declared_place vs xs) (lookup (has_text x) es)
first_entry vs xs x [] = refl
first_entry vs xs x (e ∷ es) =
    (λ i. option_or (cond (bytes_eq-turn e.0 x i) (Some (declared_place vs xs e.1)) None) (first_entry vs xs x es i)) ∙ or_else (declared_place vs xs) (has_text x e.0) e.1 (lookup (has_text x) es)

pub find_is_lookup : (m : Inside) (laid : IsLaidOut m) (x : List ℕ)
    → find_name (model_view m) x ≡ option_map (declared_place m.variables.items m.arrays.items)
    (lookup (has_text x) m.names)
find_is_lookup m laid x =
    find_by_name (model_view m) x ∙ ap (first_some (by_name x)) laid.places ∙ first_entry m.variables.items m.arrays.items x m.names

kind_at_place : (o : Option Variable) → option_map_or (λ (v : meaning.Variable). v.kind)
    (option_map variable_view o) IntKind ≡ (option_map_or variable_view o no_variable).kind
kind_at_place None = refl
kind_at_place (Some v) = refl

same_kinds : (vs : List Variable) (t : Term)
    → kind_among (map variable_view vs) t ≡ kind_of_term vs t
same_kinds vs (Var n) = ap (λ o. option_map_or (λ (v : meaning.Variable). v.kind) o IntKind) (slice_get-map variable_view vs n) ∙ kind_at_place (slice_get vs n)
same_kinds vs (Fixed v) = refl

module _ (m : Inside) (laid : IsLaidOut m) (now : meaning.Model) (view_is : model_view m ≡ now) (x : List ℕ) where
  pub found_none : None ≡ lookup (has_text x) m.names → None ≡ find_name now x
  found_none e = ap (option_map (declared_place m.variables.items m.arrays.items)) e ∙ sym (find_is_lookup m laid x) ∙ ap (λ w. find_name w x) view_is

  found_some : (d : Declared) → Some d ≡ lookup (has_text x) m.names
      → Some (declared_place m.variables.items m.arrays.items d) ≡ find_name now x
  found_some d e = ap (option_map (declared_place m.variables.items m.arrays.items)) e ∙ sym (find_is_lookup m laid x) ∙ ap (λ w. find_name w x) view_is

  pub found_scalar : (d : Declared) (t : Term) → Some d ≡ lookup (has_text x) m.names
      → d ≡ declarations.Scalar t → Some (meaning.Place.Scalar (kind_among (variables_of now) t) t)
      ≡ find_name now x
  found_scalar d t e is =
      ap (λ vs. Some (meaning.Place.Scalar (kind_among vs t) t)) (ap variables_of (sym view_is) ∙ laid.variables) ∙ ap (λ k. Some (meaning.Place.Scalar k t)) (same_kinds m.variables.items t)
      ∙ ap (λ w. Some (declared_place m.variables.items m.arrays.items w)) (sym is) ∙ found_some d e

  module _ (d : Declared) (i : ℕ) (e : Some d ≡ lookup (has_text x) m.names) (is : d ≡ declarations.Array i) where
    named : IsArrayNamed m.arrays.items i x
    named = subst (IsKeptAs m.arrays.items x) is (found_entry (IsKeptAs m.arrays.items) x m.names d laid.kept e)

    pub stands : slice_get m.arrays.items i ≡ None → ⊥
    stands none = let no : ◌≡◌ {A = Option (List ℕ)} None (Some x) = ap (option_map (λ (a : Array). a.name.now)) (sym none) ∙ named in cc

    pub found_array : (a : Array) → slice_get m.arrays.items i ≡ Some a
        → Some (meaning.Place.Array x a.kind (elements_of a)) ≡ find_name now x
    found_array a at =
        let same : a.name.now ≡ x = same_Some _ _ (ap (option_map (λ (b : Array). b.name.now)) (sym at) ∙ named) in
        ap (λ y. Some (meaning.Place.Array y a.kind (elements_of a))) (sym same) ∙ ap (λ o. Some (option_map_or array_view o no_array)) (sym at)
        ∙ ap (λ w. Some (declared_place m.variables.items m.arrays.items w)) (sym is) ∙ found_some d e

-- ---- fronts of names

any_mapped : {A B : Type 0} (p : B → Bool) (f : A → B) (xs : List A)
    → list_any p (map f xs) ≡ list_any (λ x. p (f x)) xs
any_mapped p f [] = refl
any_mapped p f (x ∷ xs) = ap (λ b. p (f x) || b) (any_mapped p f xs)

pub begins_any : (front : List ℕ) (ts : List Term) (ks : List Kept)
    → list_any (λ k. starts_with nat_eq k.bytes.now front) ks
    ≡ list_any (λ n. starts_with nat_eq n.0 front) (map (citation_stands ts) ks)
begins_any front ts ks = sym (any_mapped (λ n. starts_with nat_eq n.0 front) (citation_stands ts) ks)

abbrev pub begins_place : List ℕ → (List ℕ × meaning.Place) → Bool
begins_place front p = starts_with nat_eq p.0 front

begins_of : (front : List ℕ) (d : ℕ × meaning.Declared)
    → begins_place front (named_place d) ≡ starts_with nat_eq (name_of d.1) front
begins_of front (n, d) = refl

any-same : {A : Type 0} (p q : A → Bool) → ((x : A) → p x ≡ q x) → (xs : List A)
    → list_any p xs ≡ list_any q xs
any-same p q same [] = refl
any-same p q same (x ∷ xs) = λ i. same x i || any-same p q same xs i

pub begins : (m : Inside) → IsLaidOut m → (now : meaning.Model) → model_view m ≡ now
    → (front : List ℕ)
    → list_any (λ n. starts_with nat_eq n.0 front) m.names ≡ begins_name now front
begins m laid now view_is front =
    sym (any_mapped (begins_place front) (entry_place m.variables.items m.arrays.items) m.names)
    ∙ ap (list_any (begins_place front)) (sym laid.places)
    ∙ any_mapped (begins_place front) named_place (numbered (model_view m))
    ∙ any-same (λ d. begins_place front (named_place d)) (λ d. starts_with nat_eq (name_of d.1) front) (begins_of front) (numbered (model_view m))
    ∙ ap (λ w. begins_name w front) view_is
