-- An element of a sum: where its coefficient is 1 or -1, and how what is given changes with its
-- value.
use Rattle.std.proofs.Common.{◌≡◌, ℕ, zero, suc, ◌<◌, ℤ, pos, negsuc, true, false, List, [], ◌∷◌, length, map, flat_map, Option, Some, None, option_map, slice_get, slice_set, refl, sym, ap, subst, ◌∙◌, ◌⊎◌, inl, inr, ◌||◌}
use Rattle.std.specs.List.{list_any}
use Rattle.fz_builtins.specs.of_meaning.of_base.declared.value.Value.{Value}
use Rattle.fz_builtins.specs.of_meaning.of_base.declared.value.Value.TheVariants.{Int, Bool as Truth, Set}
use Rattle.fz_builtins.specs.of_meaning.declared.kind.Kind.TheVariants.{Int as IntKind}
use Rattle.fz_builtins.specs.of_meaning.declared.term.Term.{Term}
use Rattle.fz_builtins.specs.of_meaning.declared.term.Term.TheVariants.{Var}
use Rattle.fz_builtins.specs.of_meaning.Relations.{kind_of}
use Rattle.fz_builtins.specs.of_meaning.Builtins.{Row, row_at}
use Rattle.fz_builtins.specs.of_meaning.Results.{result_of}
use Rattle.fz_builtins.specs.of_meaning.Builtins.Shape.{ScalarOf, ArrayOf}
use Rattle.fz_builtins.specs.of_meaning.Builtins.ArgValue.{ManyValues}
use Rattle.fz_builtins.specs.of_meaning.Results.Result.{UnitTerm}
use Rattle.fz_builtins.specs.of_meaning.Meaning.{Argument, Partial, value, value_at, row_holds, terms_in}
use Rattle.fz_builtins.specs.of_meaning.States.{is_beyond, terms_at_argument}
use Rattle.fz_builtins.specs.of_meaning.Steps.{IsResult, open_terms, give}
use Rattle.fz_builtins.proofs.of_meaning.States.{intro}
use Rattle.fz_builtins.proofs.of_meaning.Steps.{is_open, term_keeps, some_of, as_number_of}
use Rattle.fz_builtins.specs.of_meaning.declared.builtin.Builtin.TheVariants.{IntLinEq}
use Rattle.fz_builtins.specs.of_kernel.Given.{slots_at, int_in, ints_of, ints_at, given, given_values, read_leaves}
use Rattle.fz_builtins.proofs.of_kernel.Sums.{slots_terms}
use Rattle.fz_model.specs.Left.{HasUnit, IsLeft, IsReadAsNone, IsUnit, holds_with_element, products_leave}
use Rattle.fz_builtins.specs.of_meaning.declared.row.Wide.TheVariants.{Products}
use Rattle.fz_builtins.specs.Outcomes.{reads_beyond}
use Rattle.fz_model.specs.declared.only.Spot.{Spot}
use Rattle.fz_model.specs.Forced.{IsOnlyValue, IsReady}
use Rattle.fz_model.proofs.Fits.{changes, new_value, open_first, open_behind, values_stay}
use Rattle.fz_model.proofs.Held.{first_closed, is_left, none, open_here, same_spot, too_large}

-- ---- the elements of an array of numbers

int_found : (K : Partial) (ts : List Term) (j : ℕ) (u : Term) → slice_get ts j ≡ Some u
    → slice_get (ints_of K (map Some ts)) j ≡ Some (int_in (value K u))
int_found K [] j u e = cc
int_found K (t ∷ ts) zero u e = let same : t ≡ u = cc in ap (λ z. Some (int_in (value K z))) same
int_found K (t ∷ ts) (suc j) u e = int_found K ts j u e

term_of_int : (K : Partial) (ts : List Term) (j : ℕ) (a : ℤ)
    → slice_get (ints_of K (map Some ts)) j ≡ Some a
    → (u : Term) × (slice_get ts j ≡ Some u) × (int_in (value K u) ≡ a)
term_of_int K [] j a e = cc
term_of_int K (t ∷ ts) zero a e = let same : int_in (value K t) ≡ a = cc in (t, refl, same)
term_of_int K (t ∷ ts) (suc j) a e = term_of_int K ts j a e

zero_is_not : (a : ℤ) → pos 0 ≡ a → IsUnit a → ⊥
zero_is_not a e (inl u) = let bad : pos 0 ≡ pos 1 = e ∙ u in cc
zero_is_not a e (inr u) = let bad : pos 0 ≡ negsuc 0 = e ∙ u in cc

-- what is read as 1 or -1 has that value
unit_is : (o : Option Value) (a : ℤ) → int_in o ≡ a → IsUnit a
    → (o ≡ Some (Int (pos 1))) ⊎ (o ≡ Some (Int (negsuc 0)))
unit_is None a e u = absurd (zero_is_not a e u)
unit_is (Some (Truth b)) a e u = absurd (zero_is_not a e u)
unit_is (Some (Set s)) a e u = absurd (zero_is_not a e u)
unit_is (Some (Int n)) a e (inl u) = inl (ap (λ z. Some (Int z)) (e ∙ u))
unit_is (Some (Int n)) a e (inr u) = inr (ap (λ z. Some (Int z)) (e ∙ u))

unit_of : (o : Option Value) → (o ≡ Some (Int (pos 1))) ⊎ (o ≡ Some (Int (negsuc 0)))
    → (a : ℤ) × (o ≡ Some (Int a)) × IsUnit a
unit_of o (inl e) = (pos 1, e, inl refl)
unit_of o (inr e) = (negsuc 0, e, inr refl)

-- ---- the elements, with one more value

module _ (K : Partial) (n : ℕ) (unset : value_at K n ≡ None) (within : n < length K) (w : Value) where
  ints_change : (a : ℤ) → w ≡ Int a → (ts : List Term) (j : ℕ) → slice_get ts j ≡ Some (Var n)
      → open_terms K ts ≡ Var n ∷ []
      → map Int (ints_of (give K n w) (map Some ts)) ≡ slice_set (map Int (ints_of K (map Some ts))) j w
  ints_change a is [] j at e = cc
  ints_change a is (t ∷ ts) zero at e =
      let here : t ≡ Var n = cc in
      let head : Int (int_in (value (give K n w) t)) ≡ w =
      ap (λ z. Int (int_in (value (give K n w) z))) here ∙ ap (λ o. Int (int_in o)) (new_value K n unset within w) ∙ ap (λ z. Int (int_in (Some z))) is ∙ sym is in
      let tail = ap (map Int) (values_stay K n unset within w int_in ts (open_here K n unset within w t ts here e)) in
      λ i. head i ∷ tail i
  ints_change a is (t ∷ ts) (suc j) at e =
      let parts : (is_open K t ≡ false) × (open_terms K ts ≡ Var n ∷ []) = first_closed K n unset within w t ts j at e in
      let head : Int (int_in (value (give K n w) t)) ≡ Int (int_in (value K t)) = ap (λ o. Int (int_in o)) (term_keeps K n unset w t parts.0) in
      let tail = ints_change a is ts j at parts.1 in
      λ i. head i ∷ tail i

  open_there : (xs : List Argument) (i j : ℕ) → slice_get (terms_at_argument xs i) j ≡ Some (Var n)
      → open_terms K (flat_map terms_in xs) ≡ Var n ∷ []
      → open_terms K (terms_at_argument xs i) ≡ Var n ∷ []
  open_there [] i j at e = cc
  open_there (x ∷ xs) zero j at e = (open_first K n unset within w x xs j at e).0
  open_there (x ∷ xs) (suc i) j at e = open_there xs i j at (open_behind K n unset within w x xs i j at e).1

-- ---- a row whose first two arguments are arrays of numbers

module _ (K : Partial) (xs : List Argument) (r : Row) (s : Spot) (h : IsReady K xs r s) (shapes : r.shapes ≡ ArrayOf IntKind ∷ ArrayOf IntKind ∷ ScalarOf IntKind ∷ []) where
  first_slots : slots_at xs 0 ≡ map Some (terms_at_argument xs 0)
  first_slots = slots_terms r.shapes xs 0 IntKind h.shaped (ap (λ ss. slice_get ss 0) shapes)

  second_slots : slots_at xs 1 ≡ map Some (terms_at_argument xs 1)
  second_slots = slots_terms r.shapes xs 1 IntKind h.shaped (ap (λ ss. slice_get ss 1) shapes)

  -- where it is a result, it is in the second array, with such a coefficient
  pub elsewhere : s.variable < length K → Value → IsResult K xs s.variable UnitTerm
      → (s.argument ≡ 1) × HasUnit K xs s.place
  elsewhere within v (i, at, u, at0, unit) =
      let same : (1 ≡ s.argument) × (i ≡ s.place) = same_spot K s.variable (none K xs r s h) within v xs 1 i s.argument s.place at h.stands h.only_open in
      let (a, is, one) = unit_of (value K u) unit in
      let found : slice_get (ints_at K xs 0) i ≡ Some a =
      ap (λ ss. slice_get (ints_of K ss) i) first_slots ∙ int_found K (terms_at_argument xs 0) i u at0 ∙ ap (λ o. Some (int_in o)) is in
      (sym same.0, subst (HasUnit K xs) same.1 (intro IsUnit (slice_get (ints_at K xs 0) i) a found one))

  module _ (second : s.argument ≡ 1) where
    stands_second : slice_get (terms_at_argument xs 1) s.place ≡ Some (Var s.variable)
    stands_second = subst (λ i. slice_get (terms_at_argument xs i) s.place ≡ Some (Var s.variable)) second h.stands

    fills_element : HasUnit K xs s.place → IsResult K xs s.variable UnitTerm
    fills_element unit =
        let (a, found, one) = some_of IsUnit (slice_get (ints_at K xs 0) s.place) unit in
        let (u, at, is) = term_of_int K (terms_at_argument xs 0) s.place a (ap (λ ss. slice_get (ints_of K ss) s.place) (sym first_slots) ∙ found) in
        (s.place, stands_second, u, at, unit_is (value K u) a is one)

    pub read_as_none : IsReadAsNone K xs s.place
    read_as_none =
        ap (λ ss. slice_get (ints_of K ss) s.place) second_slots ∙ int_found K (terms_at_argument xs 1) s.place (Var s.variable) stands_second ∙ ap (λ o. Some (int_in o)) (none K xs r s h)

    given_element : s.variable < length K → (w : Value) → kind_of w ≡ IntKind
        → given (give K s.variable w) xs 1 (ArrayOf IntKind)
        ≡ ManyValues (slice_set (map Int (ints_at K xs 1)) s.place w)
    given_element within w is =
        let (a, w_is) = as_number_of w is in
        ap (λ ss. ManyValues (map Int (ints_of (give K s.variable w) ss))) second_slots
        ∙ ap ManyValues (ints_change K s.variable (none K xs r s h) within w a w_is (terms_at_argument xs 1) s.place stands_second
        (open_there K s.variable (none K xs r s h) within w xs 1 s.place stands_second h.only_open))
        ∙ ap (λ ss. ManyValues (slice_set (map Int (ints_of K ss)) s.place w)) (sym second_slots)

    element_test : s.variable < length K → (w : Value) → kind_of w ≡ IntKind
        → row_holds r (given_values (give K s.variable w) r.shapes xs)
        ≡ holds_with_element r K xs s.place w
    element_test within w is =
        ap (row_holds r)
        (changes K s.variable (none K xs r s h) within w r.shapes xs 1 s.place (ArrayOf IntKind) h.shaped h.only_open stands_second (ap (λ ss. slice_get ss 1) shapes)
        ∙ ap (slice_set (given_values K r.shapes xs) 1) (given_element within w is))

    pub element_left : r ≡ row_at IntLinEq → result_of r ≡ UnitTerm → r.wide ≡ Products 0 1 ∷ []
        → reads_beyond r K xs ≡ is_beyond K xs r → HasUnit K xs s.place → (o : Option ℤ)
        → (products_leave K xs ≡ false → IsLeft IntKind (holds_with_element (row_at IntLinEq) K xs s.place) (option_map Int o)) → (products_leave K xs ≡ true → o ≡ None)
        → IsOnlyValue K xs r s.variable (option_map Int o)
    element_left row result sums same unit o left too =
        elim (products_leave K xs) as (λ b. products_leave K xs ≡ b → IsOnlyValue K xs r s.variable (option_map Int o)) [
          | true ↦ λ e. too_large K xs r s h (option_map Int o) (sym same ∙ ap (list_any (read_leaves K xs)) sums ∙ ap (λ b. b || false) e) (ap (option_map Int) (too e))
          | false ↦ λ e.
              is_left K xs r s h (ArrayOf IntKind) (ap (slice_get r.shapes) second ∙ ap (λ ss. slice_get ss 1) shapes) (holds_with_element r K xs s.place) element_test
              (subst (IsResult K xs s.variable) (sym result) (fills_element unit)) (sym same ∙ ap (list_any (read_leaves K xs)) sums ∙ ap (λ b. b || false) e) (option_map Int o)
              (subst (λ q. IsLeft IntKind (holds_with_element q K xs s.place) (option_map Int o)) (sym row) (left e))
        ] refl
