-- The values with which a row holds, where the only open scalar of its constraint is at a spot.
use Rattle.std.proofs.Common.{◌≡◌, ℕ, zero, suc, ◌<◌, Bool, true, false, cond, List, [], ◌∷◌, length, flat_map, is_none, Option, Some, None, IsSomeAnd, IsTrue, slice_get, slice_set, Contains, refl, sym, ap, subst, ◌∙◌}
use Rattle.std.specs.Option.{option_map_or}
use Rattle.fz_builtins.specs.of_meaning.of_base.declared.value.Value.{Value}
use Rattle.fz_builtins.specs.of_meaning.declared.kind.Kind.{Kind}
use Rattle.fz_builtins.specs.of_meaning.declared.term.Term.{Term}
use Rattle.fz_builtins.specs.of_meaning.declared.term.Term.TheVariants.{Var}
use Rattle.fz_builtins.specs.of_meaning.Relations.{kind_of}
use Rattle.fz_builtins.specs.of_meaning.Builtins.{Shape, Row}
use Rattle.fz_builtins.specs.of_meaning.Results.{Result, result_of}
use Rattle.fz_builtins.specs.of_meaning.Builtins.Shape.{ScalarOf, ArrayOf}
use Rattle.fz_builtins.specs.of_meaning.Results.Result.{NoResult, Places, UnitTerm}
use Rattle.fz_builtins.specs.of_meaning.Meaning.{Argument, Partial, value_at, argument_values, has_shape, have_shapes, row_holds, terms_in}
use Rattle.fz_builtins.specs.of_meaning.States.{is_beyond, terms_at_argument}
use Rattle.fz_builtins.specs.of_meaning.Meaning.Place.{Scalar, Array}
use Rattle.fz_builtins.specs.of_meaning.Meaning.Argument.{One, ListOf}
use Rattle.fz_builtins.specs.of_meaning.Steps.{IsResult, open_terms, give}
use Rattle.fz_builtins.proofs.of_meaning.Values.{no, no', and_first, and_second}
use Rattle.fz_builtins.proofs.of_meaning.States.{intro}
use Rattle.fz_builtins.proofs.of_meaning.Steps.{is_open, some_of, only_open_none, variable_open}
use Rattle.fz_builtins.specs.of_kernel.Given.{given_values, are_read}
use Rattle.fz_builtins.proofs.of_kernel.Ready.{ready_values, wrong_kind}
use Rattle.fz_model.specs.declared.only.Spot.{Spot}
use Rattle.fz_model.specs.Forced.{IsOnlyValue, IsReady}
use Rattle.fz_model.specs.KindsFit.{kind_in}
use Rattle.fz_model.specs.Left.{IsLeft, IsOfKind, IsPlaceOf, holds_with}
use Rattle.fz_model.proofs.Fits.{reads, kind_back, changes, given_new, open_first, open_behind, argument_open}
use Rattle.fz_model.proofs.Opens.{alone}

-- ---- kinds and indices

-- there is a scalar where one is asked for
scalar_shape : (ss : List Shape) (xs : List Argument) (i : ℕ) (k : Kind) (t : Term)
    → have_shapes ss xs ≡ true → slice_get xs i ≡ Some (One (Scalar k t))
    → (j : Kind) × IsOfKind ss i j
scalar_shape [] [] i k t h at = cc
scalar_shape [] (x ∷ xs) i k t h at = no h
scalar_shape (s ∷ ss) [] i k t h at = no h
scalar_shape (s ∷ ss) (x ∷ xs) (suc i) k t h at = scalar_shape ss xs i k t (and_second (has_shape s x) _ h) at
scalar_shape (s ∷ ss) (x ∷ xs) zero k t h at =
    let same : x ≡ One (Scalar k t) = cc in
    here s (subst (λ y. has_shape s y ≡ true) same (and_first (has_shape s x) _ h))
  where
    here : (s : Shape) → has_shape s (One (Scalar k t)) ≡ true
        → (j : Kind) × (Some s ≡ Some (ScalarOf j))
    here (ScalarOf j) h = (j, refl)
    here (ArrayOf j) h = no h

-- where a scalar is asked for, the argument is a scalar by itself
by_itself : (ss : List Shape) (xs : List Argument) (i j : ℕ) (k : Kind) (t : Term)
    → have_shapes ss xs ≡ true → IsOfKind ss i k → slice_get (terms_at_argument xs i) j ≡ Some t
    → (q : Kind) × (slice_get xs i ≡ Some (One (Scalar q t)))
by_itself [] xs i j k t h is at = cc
by_itself (s ∷ ss) [] i j k t h is at = no h
by_itself (s ∷ ss) (x ∷ xs) (suc i) j k t h is at = by_itself ss xs i j k t (and_second (has_shape s x) _ h) is at
by_itself (s ∷ ss) (x ∷ xs) zero j k t h is at =
    let same : s ≡ ScalarOf k = cc in
    here x (subst (λ z. has_shape z x ≡ true) same (and_first (has_shape s x) _ h)) at
  where
    here : (x : Argument) → has_shape (ScalarOf k) x ≡ true → slice_get (terms_in x) j ≡ Some t
        → (q : Kind) × (Some x ≡ Some (One (Scalar q t)))
    here (One (Scalar q u)) h at = (q, ap (λ z. Some (One (Scalar q z))) (alone u t j at))
    here (One (Array name q ts)) h at = no h
    here (ListOf ps) h at = no h

-- ---- the only open scalar is at one index

module _ (K : Partial) (n : ℕ) (none : value_at K n ≡ None) (within : n < length K) (v : Value) where
  pub open_here : (t : Term) (ts : List Term) → t ≡ Var n → open_terms K (t ∷ ts) ≡ Var n ∷ []
      → open_terms K ts ≡ []
  open_here t ts is e =
      elim (is_open K t) as (λ b. is_open K t ≡ b → cond b (t ∷ open_terms K ts) (open_terms K ts) ≡ Var n ∷ [] → open_terms K ts ≡ []) [
        | true ↦ λ _ e. cc
        | false ↦ λ closed e. no' (sym (ap is_none none) ∙ ap (is_open K) (sym is) ∙ closed)
      ] refl e

  -- the first is closed where the open one comes later
  pub first_closed : (t : Term) (ts : List Term) (j : ℕ) → slice_get ts j ≡ Some (Var n)
      → open_terms K (t ∷ ts) ≡ Var n ∷ [] → (is_open K t ≡ false) × (open_terms K ts ≡ Var n ∷ [])
  first_closed t ts j at e =
      elim (is_open K t) as (λ b. cond b (t ∷ open_terms K ts) (open_terms K ts) ≡ Var n ∷ [] → (b ≡ false) × (open_terms K ts ≡ Var n ∷ [])) [
        | true ↦ λ e. let rest : open_terms K ts ≡ [] = cc in absurd (variable_open K n none v v ts j at rest)
        | false ↦ λ e. (refl, e)
      ] e

  same_place : (ts : List Term) (i j : ℕ) → slice_get ts i ≡ Some (Var n)
      → slice_get ts j ≡ Some (Var n) → open_terms K ts ≡ Var n ∷ [] → i ≡ j
  same_place [] i j at at' e = cc
  same_place (t ∷ ts) zero zero at at' e = refl
  same_place (t ∷ ts) zero (suc j) at at' e = let is : t ≡ Var n = cc in absurd (variable_open K n none v v ts j at' (open_here t ts is e))
  same_place (t ∷ ts) (suc i) zero at at' e = let is : t ≡ Var n = cc in absurd (variable_open K n none v v ts i at (open_here t ts is e))
  same_place (t ∷ ts) (suc i) (suc j) at at' e = ap suc (same_place ts i j at at' (first_closed t ts i at e).1)

  pub same_spot : (xs : List Argument) (i j k l : ℕ) → slice_get (terms_at_argument xs i) j
      ≡ Some (Var n) → slice_get (terms_at_argument xs k) l ≡ Some (Var n)
      → open_terms K (flat_map terms_in xs) ≡ Var n ∷ [] → (i ≡ k) × (j ≡ l)
  same_spot [] i j k l at at' e = cc
  same_spot (x ∷ xs) zero j zero l at at' e = (refl, same_place (terms_in x) j l at at' (open_first K n none within v x xs j at e).0)
  same_spot (x ∷ xs) zero j (suc k) l at at' e = absurd (argument_open K n none within v xs k l at' (open_first K n none within v x xs j at e).1)
  same_spot (x ∷ xs) (suc i) j zero l at at' e = absurd (argument_open K n none within v xs i j at (open_first K n none within v x xs l at' e).1)
  same_spot (x ∷ xs) (suc i) j (suc k) l at at' e = let same = same_spot xs i j k l at at' (open_behind K n none within v x xs i j at e).1 in (ap suc same.0, same.1)

-- ---- an answer

-- what holds is read
pub holds_read : (L : Partial) (xs : List Argument) (r : Row) → have_shapes r.shapes xs ≡ true
    → IsSomeAnd (argument_values L xs) (λ vs. IsTrue (row_holds r vs))
    → are_read L r.shapes xs ≡ true
holds_read L xs r shaped g =
    let (vs, are, passed) = some_of (λ vs. IsTrue (row_holds r vs)) (argument_values L xs) g in
    elim (are_read L r.shapes xs) as (λ b. are_read L r.shapes xs ≡ b → b ≡ true) [
      | true ↦ λ _. refl
      | false ↦ λ e. no (sym (wrong_kind L r.shapes r.holds xs vs shaped e are) ∙ passed)
    ] refl

module _ (K : Partial) (xs : List Argument) (r : Row) (s : Spot) (h : IsReady K xs r s) where
  pub none : value_at K s.variable ≡ None
  none = only_open_none K s.variable (flat_map terms_in xs) h.only_open

  holds_given : (w : Value) → IsSomeAnd (argument_values (give K s.variable w) xs)
      (λ vs. IsTrue (row_holds r vs))
      → row_holds r (given_values (give K s.variable w) r.shapes xs) ≡ true
  holds_given w g =
      let (vs, are, passed) = some_of (λ vs. IsTrue (row_holds r vs)) (argument_values (give K s.variable w) xs) g in
      let read : Some vs ≡ Some (given_values (give K s.variable w) r.shapes xs) = sym are ∙ ready_values (give K s.variable w) r.shapes xs h.shaped (holds_read (give K s.variable w) xs r h.shaped g) in
      let same : vs ≡ given_values (give K s.variable w) r.shapes xs = cc in
      subst (λ us. row_holds r us ≡ true) same passed

  -- ---- where sums leave 128 bits

  pub too_large : (o : Option Value) → is_beyond K xs r ≡ true → o ≡ None
      → IsOnlyValue K xs r s.variable o
  too_large (Some v) large is = cc
  too_large None large is = λ within w f. no (sym f.numbers_fit ∙ large)

  -- ---- where they don't
  --
  -- Where they don't, and a value of the kind asked for passes the test exactly where the row holds
  -- with it.

  module _ (z : Shape) (shape : slice_get r.shapes s.argument ≡ Some z) (test : Value → Bool)
      (test_is : s.variable < length K → (w : Value) → kind_of w ≡ kind_in z
      → row_holds r (given_values (give K s.variable w) r.shapes xs) ≡ test w)
      (result : IsResult K xs s.variable (result_of r)) (sums : is_beyond K xs r ≡ false) where
    holds_kind : s.variable < length K → (w : Value) → IsSomeAnd
        (argument_values (give K s.variable w) xs) (λ vs. IsTrue (row_holds r vs))
        → kind_of w ≡ kind_in z
    holds_kind within w g = kind_back K s.variable none within w r.shapes xs s.argument s.place z h.shaped (holds_read (give K s.variable w) xs r h.shaped g) h.stands shape

    given_holds : s.variable < length K → (w : Value) → kind_of w ≡ kind_in z
        → row_holds r (given_values (give K s.variable w) r.shapes xs) ≡ true
        → IsSomeAnd (argument_values (give K s.variable w) xs) (λ vs. IsTrue (row_holds r vs))
    given_holds within w is passed =
        intro (λ vs. IsTrue (row_holds r vs)) (argument_values (give K s.variable w) xs) (given_values (give K s.variable w) r.shapes xs)
        (ready_values (give K s.variable w) r.shapes xs h.shaped (reads K s.variable none within w r.shapes xs s.argument s.place z h.shaped h.only_open h.stands shape is h.kinds)) passed

    pub is_left : (o : Option Value) → IsLeft (kind_in z) test o → IsOnlyValue K xs r s.variable o
    is_left (Some v) left = (
      h.only_open,
      λ within. record {
        only_open = h.only_open;
        numbers_fit = sums;
        result = result;
        within_limits = left.1;
        holds = given_holds within v left.0 (test_is within v left.0 ∙ left.2);
      },
    )
    is_left None left = λ within w f.
        let is : kind_of w ≡ kind_in z = holds_kind within w f.holds in
        left w is f.within_limits (sym (test_is within w is) ∙ holds_given w f.holds)

  -- ---- where the variable, by itself, is an argument that may be filled

  module _ (k : Kind) (shape : IsOfKind r.shapes s.argument k) where
    scalar_test : s.variable < length K → (w : Value) → kind_of w ≡ k
        → row_holds r (given_values (give K s.variable w) r.shapes xs)
        ≡ holds_with r K xs s.argument w
    scalar_test within w is =
        let (q, at) = by_itself r.shapes xs s.argument s.place k (Var s.variable) h.shaped shape h.stands in
        ap (row_holds r) (changes K s.variable none within w r.shapes xs s.argument s.place (ScalarOf k) h.shaped h.only_open h.stands shape
        ∙ ap (slice_set (given_values K r.shapes xs) s.argument) (given_new K s.variable none within w k xs s.argument q at is))

    result_of_place : (o : Result) → IsPlaceOf o s.argument → IsResult K xs s.variable o
    result_of_place NoResult place = absurd place
    result_of_place (Places is) place =
        let (q, at) = by_itself r.shapes xs s.argument s.place k (Var s.variable) h.shaped shape h.stands in
        (s.argument, place, q, at)
    result_of_place UnitTerm place = absurd place

    pub scalar_left : IsPlaceOf (result_of r) s.argument → is_beyond K xs r ≡ false → (o : Option Value)
        → IsLeft k (holds_with r K xs s.argument) o → IsOnlyValue K xs r s.variable o
    scalar_left place sums = is_left (ScalarOf k) shape (holds_with r K xs s.argument) scalar_test (result_of_place (result_of r) place) sums

  -- ---- where it is none

  not_placed : (within : s.variable < length K) (v : Value) (o : Result)
      → (IsPlaceOf o s.argument → (k : Kind) → IsOfKind r.shapes s.argument k → ⊥)
      → (o ≡ UnitTerm → ⊥) → IsResult K xs s.variable o → ⊥
  not_placed within v NoResult place unit is = is
  not_placed within v UnitTerm place unit is = unit refl
  not_placed within v (Places ks) place unit (i, among, q, at) =
      let terms : slice_get (terms_at_argument xs i) 0 ≡ Some (Var s.variable) = ap (λ o. slice_get (option_map_or terms_in o []) 0) at in
      let same : i ≡ s.argument = (same_spot K s.variable none within v xs i 0 s.argument s.place terms h.stands h.only_open).0 in
      let (k, is) = scalar_shape r.shapes xs i q (Var s.variable) h.shaped at in
      place (subst (Contains ks) same among) k (subst (λ j. IsOfKind r.shapes j k) same is)

  pub nothing_placed : (IsPlaceOf (result_of r) s.argument → (k : Kind) → IsOfKind r.shapes s.argument k
      → ⊥) → (result_of r ≡ UnitTerm → ⊥) → IsOnlyValue K xs r s.variable None
  nothing_placed place unit = λ within w f. not_placed within w (result_of r) place unit f.result
