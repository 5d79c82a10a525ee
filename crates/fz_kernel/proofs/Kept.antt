-- Slots and arguments, as a store has them and as they are defined.
use Rattle.std.proofs.Common.{◌≡◌, ℕ, Bool, true, ◌&&◌, List, [], ◌∷◌, map, flat_map, Option, Some, None, slice_get, option_map, refl, sym, ap, ◌∙◌}
use Rattle.std.proofs.Math.Bool.{and-true}
use Rattle.std.specs.List.{list_all}
use Rattle.std.specs.Option.{option_map_or}
use Rattle.std.proofs.lemmas.Bool.{false≢true}
use Rattle.std.proofs.lemmas.Option.{slice_get-map}
use Rattle.std.proofs.lemmas.List.Folds.{list_all-map, list_all-append}
use Rattle.fz_store.specs.of_meaning.of_base.declared.value.Value.{Value}
use Rattle.fz_store.specs.of_meaning.Meaning as meaning
use Rattle.fz_store.specs.of_meaning.Meaning.{Partial, terms_at}
use Rattle.fz_store.specs.of_meaning.Meaning.Argument.{One}
use Rattle.fz_store.specs.declared.parts.Variable.{Variable}
use Rattle.fz_store.specs.declared.parts.Array.{Array}
use Rattle.fz_store.specs.declared.Slot.{Slot}
use Rattle.fz_store.specs.declared.Slot.TheVariants as slots
use Rattle.fz_store.specs.declared.Argument.{Argument}
use Rattle.fz_store.specs.declared.Argument.TheVariants as arguments
use Rattle.fz_store.specs.declared.Store.{Store}
use Rattle.fz_store.specs.Slots.{is_scalar, segment, slot_term}
use Rattle.fz_store.specs.Parts.{argument_view, place_view, array_view, no_array}
use Rattle.fz_kernel.specs.Arguments.{argument_is_given, array_slots, has_value_at, reading_in, reading_of, slot_is_given}
use Rattle.fz_kernel.specs.Given.{slot_of, slots_in, has_value, is_given, are_given}
use Rattle.fz_kernel.specs.Views.{slot_read}

-- ---- an element by its index

mapped_at : {A B : Type 0} (f : A → B) (xs : List A) (i : ℕ) (x : A) → slice_get xs i ≡ Some x
    → slice_get (map f xs) i ≡ Some (f x)
mapped_at f xs i x e = slice_get-map f xs i ∙ ap (option_map f) e

pub slot_found : {A B C : Type 0} (f : B → C) (g : A → B) (ss : List A) (i : ℕ) (s : A) (b : C)
    → slice_get ss i ≡ Some s → b ≡ f (g s) → slice_get (map f (map g ss)) i ≡ Some b
slot_found f g ss i s b e is = mapped_at f (map g ss) i (g s) (mapped_at g ss i s e) ∙ ap Some (sym is)

-- ---- what is asked of each element

list_all-same : {A : Type 0} (f g : A → Bool) → ((x : A) → f x ≡ g x) → (xs : List A)
    → list_all f xs ≡ list_all g xs
list_all-same f g same [] = refl
list_all-same f g same (x ∷ xs) = λ i. same x i && list_all-same f g same xs i

map-same : {A B : Type 0} (f g : A → B) → ((x : A) → f x ≡ g x) → (ys : List A)
    → map f ys ≡ map g ys
map-same f g same [] = refl
map-same f g same (y ∷ ys) = λ i. same y i ∷ map-same f g same ys i

pub map-map : {A B C : Type 0} (f : B → C) (g : A → B) (ys : List A)
    → map f (map g ys) ≡ map (λ y. f (g y)) ys
map-map f g [] = refl
map-map f g (y ∷ ys) = ap (λ zs. f (g y) ∷ zs) (map-map f g ys)

-- ---- slots that are no array

-- they are read as the scalars that they are
pub flat_read : (cs : List Value) (ss : List Slot) → list_all is_scalar ss ≡ true
    → map (slot_read cs) ss ≡ map Some (map (slot_term cs) ss)
flat_read cs [] h = refl
flat_read cs (slots.Variable n ∷ ss) h = ap (λ ts. slot_read cs (slots.Variable n) ∷ ts) (flat_read cs ss h)
flat_read cs (slots.Number i ∷ ss) h = ap (λ ts. slot_read cs (slots.Number i) ∷ ts) (flat_read cs ss h)
flat_read cs (slots.Truth b ∷ ss) h = ap (λ ts. slot_read cs (slots.Truth b) ∷ ts) (flat_read cs ss h)
flat_read cs (slots.Constant k ∷ ss) h = ap (λ ts. slot_read cs (slots.Constant k) ∷ ts) (flat_read cs ss h)
flat_read cs (slots.Array i ∷ ss) h = absurd (false≢true h)

module _ (K : Partial) where
  -- and only variables can be without a value
  has_value_read : (cs : List Value) (s : Slot) → has_value_at K s ≡ has_value K (slot_term cs s)
  has_value_read cs (slots.Variable n) = refl
  has_value_read cs (slots.Number i) = refl
  has_value_read cs (slots.Truth b) = refl
  has_value_read cs (slots.Constant k) = refl
  has_value_read cs (slots.Array i) = refl

  have_values_read : (cs : List Value) (ss : List Slot)
      → list_all (has_value_at K) ss ≡ list_all (has_value K) (map (slot_term cs) ss)
  have_values_read cs ss = list_all-same (has_value_at K) (λ s. has_value K (slot_term cs s)) (has_value_read cs) ss ∙ sym (list_all-map (has_value K) (slot_term cs) ss)

-- ---- arguments

module _ (K : Partial) (vs : List Variable) (xs : List Array) (st : Store) where
  abbrev view : Slot → meaning.Place
  view = place_view vs xs st.constants.items

  no_slot : (o : Option Array) → slot_of (option_map_or array_view o no_array) ≡ None
  no_slot None = refl
  no_slot (Some a) = refl

  same_slot : (s : Slot) → slot_read st.constants.items s ≡ slot_of (view s)
  same_slot (slots.Variable n) = refl
  same_slot (slots.Number i) = refl
  same_slot (slots.Truth b) = refl
  same_slot (slots.Constant k) = refl
  same_slot (slots.Array i) = sym (no_slot (slice_get xs i))

  same_slots : (ss : List Slot) → map (slot_read st.constants.items) ss ≡ map slot_of (map view ss)
  same_slots ss = map-same (slot_read st.constants.items) (λ s. slot_of (view s)) same_slot ss ∙ sym (map-map slot_of view ss)

  its_elements : (o : Option Array) → option_map_or (λ (x : Array). map
      (slot_read x.elements.constants.items) x.elements.slots.items) o []
      ≡ slots_in (One (option_map_or array_view o no_array))
  its_elements None = refl
  its_elements (Some a) = flat_read a.elements.constants.items a.elements.slots.items a.elements.flat

  same_elements : (s : Slot) → array_slots xs s ≡ slots_in (One (view s))
  same_elements (slots.Variable n) = refl
  same_elements (slots.Number i) = refl
  same_elements (slots.Truth b) = refl
  same_elements (slots.Constant k) = refl
  same_elements (slots.Array i) = its_elements (slice_get xs i)

  -- what an argument is read by
  same_reading : (a : Argument) → reading_of (argument_view vs xs st a) ≡ reading_in xs st a
  same_reading (arguments.One s) = λ i. (sym (same_slot s) i, sym (same_elements s) i)
  same_reading (arguments.List g) = λ i. (None, sym (same_slots (segment st.slots.items g)) i)

  pub same_readings : (as' : List Argument)
      → map reading_of (map (argument_view vs xs st) as') ≡ map (reading_in xs st) as'
  same_readings as' = map-map reading_of (argument_view vs xs st) as' ∙ map-same (λ a. reading_of (argument_view vs xs st a)) (reading_in xs st) same_reading as'

  -- whether its scalars have values
  its_values : (o : Option Array) → option_map_or (λ (x : Array). list_all
      (has_value_at K) x.elements.slots.items) o true
      ≡ list_all (has_value K) (terms_at (option_map_or array_view o no_array))
  its_values None = refl
  its_values (Some a) = have_values_read K a.elements.constants.items a.elements.slots.items

  same_place : (s : Slot) → slot_is_given K xs s ≡ list_all (has_value K) (terms_at (view s))
  same_place (slots.Variable n) = sym (and-true (has_value_at K (slots.Variable n)))
  same_place (slots.Number i) = refl
  same_place (slots.Truth b) = refl
  same_place (slots.Constant k) = refl
  same_place (slots.Array i) = its_values (slice_get xs i)

  all_in_flat : (ps : List meaning.Place) → list_all (has_value K) (flat_map terms_at ps)
      ≡ list_all (λ p. list_all (has_value K) (terms_at p)) ps
  all_in_flat [] = refl
  all_in_flat (p ∷ ps) = list_all-append (has_value K) (terms_at p) (flat_map terms_at ps) ∙ ap (λ b. list_all (has_value K) (terms_at p) && b) (all_in_flat ps)

  same_argument : (a : Argument)
      → argument_is_given K xs st a ≡ is_given K (argument_view vs xs st a)
  same_argument (arguments.One s) = same_place s
  same_argument (arguments.List g) =
      let ss = segment st.slots.items g in
      list_all-same (slot_is_given K xs) (λ s. list_all (has_value K) (terms_at (view s))) same_place ss
      ∙ sym (list_all-map (λ p. list_all (has_value K) (terms_at p)) view ss) ∙ sym (all_in_flat (map view ss))

  pub same_arguments : (as' : List Argument)
      → list_all (argument_is_given K xs st) as' ≡ are_given K (map (argument_view vs xs st) as')
  same_arguments as' =
      list_all-same (argument_is_given K xs st) (λ a. is_given K (argument_view vs xs st a)) same_argument as'
      ∙ sym (list_all-map (is_given K) (argument_view vs xs st) as')
