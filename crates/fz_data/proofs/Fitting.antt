-- The row that a constraint fits, from the kinds and lengths that the code tests.
use Rattle.std.proofs.Common.{◌≡◌, ◌≢◌, ◌<◌, ◌+◌, min, get_or, drop, ℕ, zero, suc, Bool, true, false, ◌&&◌, List, [], ◌∷◌, map, flat_map, length, Option, Some, None, slice_get, refl, sym, ap, ◌∙◌, ◌==◌, arith}
use Rattle.std.specs.Option.{option_map_or}
use Rattle.std.specs.List.{list_all}
use Rattle.std.proofs.lemmas.Bool.{false≢true, and_parts, and_right}
use Rattle.std.proofs.lemmas.List.{at_drop_more, at_drop_all, length-map}
use Rattle.std.proofs.lemmas.List.Folds.{list_all-map}
use Rattle.fz_store.specs.of_meaning.Builtins.{Row, Shape as Kinds}
use Rattle.fz_store.specs.of_meaning.Builtins.Shape.{ScalarOf, ArrayOf}
use Rattle.fz_store.specs.of_meaning.Relations.{same_kind}
use Rattle.fz_store.specs.of_meaning.Meaning as meaning
use Rattle.fz_store.specs.of_meaning.declared.kind.Kind.{Kind}
use Rattle.fz_store.specs.of_meaning.declared.kind.Kind.TheVariants.{Int as IntKind}
use Rattle.fz_store.specs.of_meaning.declared.row.Shape.{Shape}
use Rattle.fz_store.specs.of_meaning.declared.row.Matrix.{Matrix}
use Rattle.fz_store.specs.of_meaning.declared.row.Matrix.TheVariants.{Absent, RowsLike, RowsBy}
use Rattle.fz_store.specs.of_meaning.Known.{shape_of}
use Rattle.fz_store.specs.declared.parts.Variable.{Variable}
use Rattle.fz_store.specs.declared.parts.Array.{Array}
use Rattle.fz_store.specs.declared.store.Slot.{Slot}
use Rattle.fz_store.specs.declared.store.Slot.TheVariants as slots
use Rattle.fz_store.specs.declared.store.Argument.{Argument}
use Rattle.fz_store.specs.declared.store.Argument.TheVariants as arguments
use Rattle.fz_store.specs.declared.store.Store.{Store}
use Rattle.fz_store.specs.Slots.{slot_term, segment}
use Rattle.fz_store.specs.Parts.{argument_view, place_view, array_view, no_array}
use Rattle.fz_data.specs.Fitting.{is_of_kind, is_scalar_of, is_array_slot, is_array_of, slot_length, length_of, length_at, are_equally_long, number_of, number_at, stands_in_rows, have_lengths}

list_all-same : {A : Type 0} (f g : A → Bool) → ((x : A) → f x ≡ g x) → (xs : List A)
    → list_all f xs ≡ list_all g xs
list_all-same f g same [] = refl
list_all-same f g same (x ∷ xs) = λ i. same x i && list_all-same f g same xs i

counted : (o : Option Array) → option_map_or (λ (a : Array). length a.elements.slots.items) o 0
    ≡ length (meaning.terms_at (option_map_or array_view o no_array))
counted None = refl
counted (Some a) = sym (length-map a.elements.slots.items (slot_term a.elements.constants.items))

module _ (vs : List Variable) (xs : List Array) (st : Store) where
  abbrev view : Slot → meaning.Place
  view = place_view vs xs st.constants.items

  -- ---- kinds

  array_is_no_term : (k : Kind) (o : Option Array)
      → meaning.is_term_of k (option_map_or array_view o no_array) ≡ false
  array_is_no_term k None = refl
  array_is_no_term k (Some a) = refl

  term_of : (k : Kind) (s : Slot)
      → is_of_kind vs st.constants.items k s ≡ meaning.is_term_of k (view s)
  term_of k (slots.Array i) = sym (array_is_no_term k (slice_get xs i))
  term_of k _ = refl

  scalar_by_term : (k : Kind) (p : meaning.Place)
      → meaning.is_term_of k p ≡ meaning.has_shape (ScalarOf k) (meaning.Argument.One p)
  scalar_by_term k (meaning.Place.Scalar l t) = refl
  scalar_by_term k (meaning.Place.Array x l ts) = refl

  pub scalar_of : (k : Kind) (a : Argument) → is_scalar_of vs st.constants.items k a
      ≡ meaning.has_shape (ScalarOf k) (argument_view vs xs st a)
  scalar_of k (arguments.One s) = term_of k s ∙ scalar_by_term k (view s)
  scalar_of k (arguments.List g) = refl

  has_kind : (k : Kind) (o : Option Array) → same_kind (option_map_or
      (λ (x : Array). x.kind) o IntKind) k
      ≡ meaning.has_shape (ArrayOf k) (meaning.Argument.One (option_map_or array_view o no_array))
  has_kind k None = refl
  has_kind k (Some a) = refl

  array_slot : (k : Kind) (s : Slot)
      → is_array_slot xs k s ≡ meaning.has_shape (ArrayOf k) (meaning.Argument.One (view s))
  array_slot k (slots.Array i) = has_kind k (slice_get xs i)
  array_slot k _ = refl

  pub array_of : (k : Kind) (a : Argument) → is_array_of vs xs st.constants.items st.slots.items k a
      ≡ meaning.has_shape (ArrayOf k) (argument_view vs xs st a)
  array_of k (arguments.One s) = array_slot k s
  array_of k (arguments.List g) = list_all-same (is_of_kind vs st.constants.items k) (λ s. meaning.is_term_of k (view s)) (term_of k) (segment st.slots.items g) ∙ sym (list_all-map (meaning.is_term_of k) view (segment st.slots.items g))

  -- ---- lengths

  -- a list of scalars has as many as it has indices
  scalars_counted : (k : Kind) (ss : List Slot) → list_all (meaning.is_term_of k) (map view ss)
      ≡ true → length ss ≡ length (flat_map meaning.terms_at (map view ss))
  scalars_counted k [] h = refl
  scalars_counted k (slots.Array i ∷ ss) h = absurd (false≢true (ap (λ b. b && list_all (meaning.is_term_of k) (map view ss)) (sym (array_is_no_term k (slice_get xs i))) ∙ h))
  scalars_counted k (s ∷ ss) h = ap suc (scalars_counted k ss (and_parts (meaning.is_term_of k (view s)) _ h).1)

  slot_counted : (s : Slot) → slot_length xs s ≡ length (meaning.terms_at (view s))
  slot_counted (slots.Array i) = counted (slice_get xs i)
  slot_counted _ = refl

  -- an argument that has a shape has the length that is counted
  length_is : (s : Kinds) (a : Argument) → meaning.has_shape s (argument_view vs xs st a) ≡ true
      → length_of xs st.slots.items a ≡ length (meaning.terms_in (argument_view vs xs st a))
  length_is s (arguments.One o) h = slot_counted o
  length_is (ArrayOf k) (arguments.List g) h = scalars_counted k (segment st.slots.items g) h
  length_is (ScalarOf k) (arguments.List g) h = absurd (false≢true h)

  length_there : (ss : List Kinds) (as' : List Argument) (i : ℕ)
      → meaning.have_shapes ss (map (argument_view vs xs st) as') ≡ true
      → length_at xs st.slots.items as' i ≡ meaning.length_at (map (argument_view vs xs st) as') i
  length_there ss [] i h = refl
  length_there [] (a ∷ as') i h = absurd (false≢true h)
  length_there (s ∷ ss) (a ∷ as') zero h = length_is s a (and_parts (meaning.has_shape s (argument_view vs xs st a)) _ h).0
  length_there (s ∷ ss) (a ∷ as') (suc i) h = length_there ss as' i (and_parts (meaning.has_shape s (argument_view vs xs st a)) _ h).1

  equally_long_are : (ss : List Kinds) (is : List ℕ) (as' : List Argument)
      → meaning.have_shapes ss (map (argument_view vs xs st) as') ≡ true
      → are_equally_long xs st.slots.items is as' ≡ meaning.equally_long is (map (argument_view vs xs st) as')
  equally_long_are ss [] as' h = refl
  equally_long_are ss (i ∷ is) as' h = λ k. list_all (λ j. length_there ss as' j h k == length_there ss as' i h k) is

  -- ---- fixed numbers, and arrays that were matrices

  array_is_no_number : (o : Option Array)
      → None ≡ meaning.fixed_number (meaning.Argument.One (option_map_or array_view o no_array))
  array_is_no_number None = refl
  array_is_no_number (Some a) = refl

  number_is : (a : Argument)
      → number_of st.constants.items a ≡ meaning.fixed_number (argument_view vs xs st a)
  number_is (arguments.One (slots.Array i)) = array_is_no_number (slice_get xs i)
  number_is _ = refl

  number_there : (as' : List Argument) (i : ℕ) → number_at st.constants.items as' i
      ≡ meaning.fixed_number_at (map (argument_view vs xs st) as') i
  number_there [] i = refl
  number_there (a ∷ as') zero = number_is a
  number_there (a ∷ as') (suc i) = number_there as' i

  whole_rows_are : (ss : List Kinds) (m : Matrix) (as' : List Argument)
      → meaning.have_shapes ss (map (argument_view vs xs st) as') ≡ true
      → stands_in_rows xs st m as' ≡ meaning.has_whole_rows m (map (argument_view vs xs st) as')
  whole_rows_are ss Absent as' h = refl
  whole_rows_are ss (RowsLike x t) as' h = λ k. meaning.are_whole_rows (length_there ss as' x h k) (length_there ss as' t h k)
  whole_rows_are ss (RowsBy q s d) as' h = λ k. meaning.are_rows_of (number_there as' q k) (number_there as' s k) (length_there ss as' d h k)

  -- ---- what has the row's shapes fits it by its lengths

  module _ (r : Row) (as' : List Argument)
      (shaped : meaning.have_shapes r.shapes (map (argument_view vs xs st) as') ≡ true) where
    pub fits_by_lengths : have_lengths xs st r as'
        ≡ meaning.fits r (map (argument_view vs xs st) as')
    fits_by_lengths =
        (λ k. equally_long_are r.shapes r.together as' shaped k && whole_rows_are r.shapes r.matrix as' shaped k)
        ∙ sym (ap (λ b. b && (meaning.equally_long r.together (map (argument_view vs xs st) as') && meaning.has_whole_rows r.matrix (map (argument_view vs xs st) as'))) shaped)

  -- ---- the shapes of several arguments

  -- the arguments have the shapes
  abbrev pub fit : List Shape → List Argument → Bool
  fit ss as' = meaning.have_shapes (map shape_of ss) (map (argument_view vs xs st) as')

  pub fit_not_long : (ss : List Shape) (as' : List Argument) → length ss ≢ length as'
      → false ≡ fit ss as'
  fit_not_long [] [] h = absurd (h refl)
  fit_not_long (s ∷ ss) (a ∷ as') h =
      sym (and_right (meaning.has_shape (shape_of s) (argument_view vs xs st a)) false refl) ∙ ap (λ b. meaning.has_shape (shape_of s) (argument_view vs xs st a) && b) (fit_not_long ss as' (λ e. h (ap suc e)))
  fit_not_long _ _ h = refl

  module _ (ss : List Shape) (as' : List Argument) (k : ℕ) where
    module _ (s : Shape) (a : Argument) (lt : k < length ss) (lt' : k < length as') (at : s ≡ get_or ss k s) (at' : a ≡ get_or as' k a)
        (left : fit ss as' ≡ fit (drop k ss) (drop k as')) (b : Bool) (is : b ≡ meaning.has_shape (shape_of s) (argument_view vs xs st a)) where
      fit_next : fit ss as' ≡ (meaning.has_shape (shape_of s) (argument_view vs xs st a)
          && fit (drop (k + 1) ss) (drop (k + 1) as'))
      fit_next =
          left ∙ at_drop_more (λ zs. fit zs (drop k as')) ss k s lt ∙ at_drop_more (λ zs. fit (get_or ss k s ∷ drop (k + 1) ss) zs) as' k a lt'
          ∙ ap (λ z. fit (z ∷ drop (k + 1) ss) (get_or as' k a ∷ drop (k + 1) as')) (sym at) ∙ ap (λ z. fit (s ∷ drop (k + 1) ss) (z ∷ drop (k + 1) as')) (sym at')

      pub fit_not : b ≡ false → false ≡ fit ss as'
      fit_not e = sym (fit_next ∙ ap (λ c. c && fit (drop (k + 1) ss) (drop (k + 1) as')) (sym is ∙ e))

      pub fit_more : b ≡ true → fit ss as' ≡ fit (drop (k + 1) ss) (drop (k + 1) as')
      fit_more e = fit_next ∙ ap (λ c. c && fit (drop (k + 1) ss) (drop (k + 1) as')) (sym is ∙ e)

    pub fit_all : length ss ≡ length as' → k ≡ min (length ss) (length as')
        → fit ss as' ≡ fit (drop k ss) (drop k as') → true ≡ fit ss as'
    fit_all n e left =
        sym (left ∙ at_drop_all (λ zs. fit zs (drop k as')) ss k (omega arith) ∙ at_drop_all (λ zs. fit [] zs) as' k (omega arith))
