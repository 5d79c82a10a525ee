-- Each value that a constraint's scalars have is of the kind that its row asks for, and so is the
-- one that it leaves to its result: the scalars have the kinds that they are read with.
use Rattle.std.proofs.Common.{◌≡◌, ℕ, zero, suc, ◌<◌, true, false, cond, List, [], ◌∷◌, flat_map, length, Option, Some, None, IfSome, option_map, slice_get, refl, sym, ap, ◌∙◌}
use Rattle.std.specs.List.{AllByRecursion, list_all}
use Rattle.std.specs.Option.{option_map_or}
use Rattle.fz_builtins.specs.of_meaning.of_base.declared.value.Value.{Value}
use Rattle.fz_builtins.specs.of_meaning.declared.kind.Kind.{Kind}
use Rattle.fz_builtins.specs.of_meaning.declared.term.Term.{Term}
use Rattle.fz_builtins.specs.of_meaning.declared.term.Term.TheVariants.{Var, Fixed}
use Rattle.fz_builtins.specs.of_meaning.Relations.{kind_of, same_kind}
use Rattle.fz_builtins.specs.of_meaning.Builtins.{Row, Shape}
use Rattle.fz_builtins.specs.of_meaning.Results.{Result, result_of}
use Rattle.fz_builtins.specs.of_meaning.Results.Result.{NoResult, Places, UnitTerm}
use Rattle.fz_builtins.specs.of_meaning.Meaning.{Argument, FitVariables, IsPartial, Model, Partial, Posted, Variable, has_shape, have_shapes, row_of, terms_in, value_at, variables_of}
use Rattle.fz_builtins.specs.of_meaning.States.{terms_at_argument}
use Rattle.fz_builtins.specs.of_meaning.Steps.{IsResult, kind_at, open_terms, give}
use Rattle.fz_builtins.proofs.of_meaning.Lists.{all_append, all_map, at_place}
use Rattle.fz_builtins.proofs.of_meaning.Steps.{is_open, only_open_none}
use Rattle.fz_builtins.proofs.of_meaning.Values.{no, and_first, and_second, and_both}
use Rattle.fz_builtins.specs.of_meaning.declared.known.Known.{Known}
use Rattle.fz_builtins.specs.of_meaning.Known.{known_row}
use Rattle.fz_builtins.specs.of_store.Kinds.{ArgumentFits, PostedFits, TermFits}
use Rattle.fz_model.proofs.ConstraintStates.{row_fits}
use Rattle.fz_model.proofs.Valued.{same_as_itself, terms_of_kind}
use Rattle.fz_model.specs.Forced.{Fills}
use Rattle.fz_model.specs.KindsFit.{each_fits, kind_fits, kind_in}
use Rattle.fz_model.proofs.Fits.{kind_back}
use Rattle.fz_builtins.proofs.of_meaning.Partials.{has_place}
use Rattle.fz_model.proofs.Held.{holds_read}

module _ (m : Model) where
  -- where a variable is, its kind is the one that is asked for
  kind_there : (ss : List Shape) (xs : List Argument) (i j n : ℕ) → have_shapes ss xs ≡ true
      → AllByRecursion (ArgumentFits m) xs → slice_get (terms_at_argument xs i) j ≡ Some (Var n)
      → (s : Shape) × (slice_get ss i ≡ Some s) × (kind_at m n ≡ Some (kind_in s))
  kind_there ss [] i j n h fits at = cc
  kind_there [] (x ∷ xs) i j n h fits at = no h
  kind_there (s ∷ ss) (x ∷ xs) zero j n h fits at =
      (s, refl, at_place (TermFits m (kind_in s)) (terms_in x) j (Var n) (terms_of_kind m s x (and_first (has_shape s x) _ h) fits.0) at)
  kind_there (s ∷ ss) (x ∷ xs) (suc i) j n h fits at = kind_there ss xs i j n (and_second (has_shape s x) _ h) fits.1 at

-- ---- and so have their values

kind_of_value : (xs : List Variable) (K : Partial) (n : ℕ) (k : Kind) → FitVariables xs K
    → option_map (λ x. x.kind) (slice_get xs n) ≡ Some k
    → option_map_or (λ v. same_kind (kind_of v) k) (value_at K n) true ≡ true
kind_of_value [] K n k h e = cc
kind_of_value (x ∷ xs) [] n k h e = absurd h
kind_of_value (x ∷ xs) (None ∷ K) zero k h e = refl
kind_of_value (x ∷ xs) (Some v ∷ K) zero k h e = let same : x.kind ≡ k = cc in ap (λ j. same_kind j k) (h.0 ∙ same) ∙ same_as_itself k
kind_of_value (x ∷ xs) (o ∷ K) (suc n) k h e = kind_of_value xs K n k h.1 e

module _ (m : Model) (K : Partial) (partial : IsPartial m K) where
  value_fits : (k : Kind) (t : Term) → TermFits m k t → kind_fits K k t ≡ true
  value_fits k (Var n) e = kind_of_value (variables_of m) K n k partial e
  value_fits k (Fixed v) e = ap (λ j. same_kind j k) e ∙ same_as_itself k

  values_fit : (k : Kind) (ts : List Term) → AllByRecursion (TermFits m k) ts
      → list_all (kind_fits K k) ts ≡ true
  values_fit k [] h = refl
  values_fit k (t ∷ ts) h = and_both (kind_fits K k t) _ (value_fits k t h.0) (values_fit k ts h.1)

  all_fit : (ss : List Shape) (xs : List Argument) → have_shapes ss xs ≡ true
      → AllByRecursion (ArgumentFits m) xs → each_fits K ss xs ≡ true
  all_fit [] xs h fits = refl
  all_fit (s ∷ ss) [] h fits = refl
  all_fit (s ∷ ss) (x ∷ xs) h fits =
      and_both (list_all (kind_fits K (kind_in s)) (terms_in x)) _ (values_fit (kind_in s) (terms_in x) (terms_of_kind m s x (and_first (has_shape s x) _ h) fits.0)) (all_fit ss xs (and_second (has_shape s x) _ h) fits.1)

  -- the values of a constraint with a row
  pub known_fits : (p : Posted) (o : Option Known) → PostedFits m p
      → option_map known_row o ≡ row_of p
      → IfSome o (λ k. each_fits K (known_row k).shapes p.arguments ≡ true)
  known_fits p None fits known = tt
  known_fits p (Some k) fits known = all_fit (known_row k).shapes p.arguments (row_fits p (known_row k) (sym known)) fits

  -- ---- the value that a result gets

  -- where a variable is said to be open, it is there
  open_stands : (ts : List Term) (n : ℕ) → open_terms K ts ≡ Var n ∷ []
      → (j : ℕ) × (slice_get ts j ≡ Some (Var n))
  open_stands [] n e = cc
  open_stands (t ∷ ts) n e =
      elim (is_open K t) as (λ b. cond b (t ∷ open_terms K ts) (open_terms K ts) ≡ Var n ∷ [] → (j : ℕ) × (slice_get (t ∷ ts) j ≡ Some (Var n))) [
        | true ↦ λ e. let here : t ≡ Var n = cc in (0, ap Some here)
        | false ↦ λ e. let (j, at) = open_stands ts n e in (suc j, at)
      ] e

  abbrev HasKind : Term → Type 0
  HasKind t = (k : Kind) × TermFits m k t

  have_kinds : (ss : List Shape) (xs : List Argument) → have_shapes ss xs ≡ true
      → AllByRecursion (ArgumentFits m) xs → AllByRecursion HasKind (flat_map terms_in xs)
  have_kinds ss [] h fits = tt
  have_kinds [] (x ∷ xs) h fits = no h
  have_kinds (s ∷ ss) (x ∷ xs) h fits =
      all_append HasKind (terms_in x) (flat_map terms_in xs) (all_map (TermFits m (kind_in s)) HasKind (λ t fit. (kind_in s, fit)) (terms_in x) (terms_of_kind m s x (and_first (has_shape s x) _ h) fits.0))
      (have_kinds ss xs (and_second (has_shape s x) _ h) fits.1)

  result_stands : (xs : List Argument) (n : ℕ) (o : Result) → IsResult K xs n o
      → (i : ℕ) × (j : ℕ) × (slice_get (terms_at_argument xs i) j ≡ Some (Var n))
  result_stands xs n NoResult is = absurd is
  result_stands xs n (Places is) (i, among, q, at) = (i, 0, ap (λ o. slice_get (option_map_or terms_in o []) 0) at)
  result_stands xs n UnitTerm (i, at, u, at0, unit) = (1, i, at)

  module _ (p : Posted) (r : Row) (row : row_of p ≡ Some r) (fits : PostedFits m p) (n : ℕ) where
    -- the only open scalar is one of the variables
    pub has_number : open_terms K (flat_map terms_in p.arguments) ≡ Var n ∷ [] → n < length K
    has_number only =
        let (j, at) = open_stands (flat_map terms_in p.arguments) n only in
        let (k, kind) = at_place HasKind (flat_map terms_in p.arguments) j (Var n) (have_kinds r.shapes p.arguments (row_fits p r row) fits) at in
        has_place m K n k partial kind

    -- what a result gets has its kind
    pub filled_kind : (v : Value) → Fills K p.arguments r n v → kind_at m n ≡ Some (kind_of v)
    filled_kind v f =
        let shaped : have_shapes r.shapes p.arguments ≡ true = row_fits p r row in
        let (i, j, at) = result_stands p.arguments n (result_of r) f.result in
        let (s, shape, kind) = kind_there m r.shapes p.arguments i j n shaped fits at in
        let is : kind_of v ≡ kind_in s =
        kind_back K n (only_open_none K n (flat_map terms_in p.arguments) f.only_open) (has_number f.only_open) v r.shapes p.arguments i j s shaped (holds_read (give K n v) p.arguments r shaped f.holds) at shape in
        kind ∙ ap Some (sym is)
