-- A constraint's arguments with one more value: where the only open scalar gets a value of its
-- kind, the arguments can be read as the row asks, and what is given of them changes at that
-- scalar's argument alone.
use Rattle.std.proofs.Common.{◌≡◌, ℕ, zero, suc, ◌<◌, Bool, true, false, cond, List, [], ◌∷◌, length, map, flat_map, Option, Some, None, slice_get, slice_set, option_and_then, is_none, refl, sym, ap, subst, ◌∙◌}
use Rattle.std.specs.List.{list_all}
use Rattle.std.specs.Option.{option_map_or}
use Rattle.fz_builtins.specs.of_meaning.of_base.declared.value.Value.{Value}
use Rattle.fz_builtins.specs.of_meaning.of_base.declared.value.Value.TheVariants.{Int, Bool as Truth, Set}
use Rattle.fz_builtins.specs.of_meaning.declared.kind.Kind.{Kind}
use Rattle.fz_builtins.specs.of_meaning.declared.kind.Kind.TheVariants.{Int as IntKind, Bool as BoolKind, Set as SetKind}
use Rattle.fz_builtins.specs.of_meaning.declared.term.Term.{Term}
use Rattle.fz_builtins.specs.of_meaning.declared.term.Term.TheVariants.{Var}
use Rattle.fz_builtins.specs.of_meaning.Relations.{kind_of, same_kind}
use Rattle.fz_builtins.specs.of_meaning.Builtins.{Shape, ArgValue}
use Rattle.fz_builtins.specs.of_meaning.Builtins.Shape.{ScalarOf, ArrayOf}
use Rattle.fz_builtins.specs.of_meaning.Builtins.ArgValue.{OneValue, ManyValues}
use Rattle.fz_builtins.specs.of_meaning.Meaning.{Argument, Partial, value, value_at, terms_in, has_shape, have_shapes}
use Rattle.fz_builtins.specs.of_meaning.States.{terms_at_argument}
use Rattle.fz_builtins.specs.of_meaning.Meaning.Place.{Scalar, Array}
use Rattle.fz_builtins.specs.of_meaning.Meaning.Argument.{One, ListOf}
use Rattle.fz_builtins.specs.of_meaning.Steps.{open_terms, give}
use Rattle.fz_builtins.proofs.of_meaning.Values.{no, no', and_first, and_second, and_both}
use Rattle.fz_builtins.proofs.of_meaning.Scope.{same_kind_is}
use Rattle.fz_builtins.proofs.of_meaning.Steps.{is_open, term_keeps, filter-none, filter-append, append-nil, append_one, append_one_left, variable_open}
use Rattle.fz_builtins.specs.of_kernel.Given.{slot_in, slots_in, slot_at, value_of, int_in, bool_in, set_in, given, given_values, is_read, argument_is_read, are_read}
use Rattle.fz_builtins.proofs.of_kernel.Ready.{slots_are_terms, given_first, given_next, given_later}
use Rattle.fz_model.proofs.Valued.{same_as_itself, shaped}
use Rattle.fz_model.specs.KindsFit.{kind_in, kind_fits, each_fits}
use Rattle.fz_model.proofs.Gaps.{value_at_new}

-- a value is of the kind, where there is one
abbrev of_kind : Kind → Value → Bool
of_kind k w = same_kind (kind_of w) k

closed_has : (k : Kind) (o : Option Value) → is_none o ≡ false
    → option_map_or (of_kind k) o true ≡ true → option_map_or (of_kind k) o false ≡ true
closed_has k None closed fits = no' closed
closed_has k (Some w) closed fits = fits

element_passes : (p : Option Term → Bool) (ts : List Term) (j : ℕ) (t : Term)
    → list_all p (map Some ts) ≡ true → slice_get ts j ≡ Some t → p (Some t) ≡ true
element_passes p [] j t h at = cc
element_passes p (u ∷ ts) zero t h at = let same : u ≡ t = cc in subst (λ z. p (Some z) ≡ true) same (and_first (p (Some u)) _ h)
element_passes p (u ∷ ts) (suc j) t h at = element_passes p ts j t (and_second (p (Some u)) _ h) at

unroll : (L : Partial) (s : Shape) (ss : List Shape) (x : Argument) (xs : List Argument)
    → given_values L (s ∷ ss) (x ∷ xs) ≡ given L (x ∷ []) 0 s ∷ given_values L ss xs
unroll L s ss x xs = let one = given_first L x xs s in let more = given_later L x xs 0 ss in λ i. one i ∷ more i

-- what a scalar's value is read as
abbrev read_one : Kind → Option Value → ArgValue
read_one IntKind o = OneValue (Int (int_in o))
read_one BoolKind o = OneValue (Truth (bool_in o))
read_one SetKind o = OneValue (Set (set_in o))

module _ (K : Partial) (n : ℕ) (none : value_at K n ≡ None) (within : n < length K) (v : Value) where
  pub new_value : value (give K n v) (Var n) ≡ Some v
  new_value = value_at_new K n v within

  -- ---- a value of the kind can be read

  read_closed : (k : Kind) (t : Term) → is_open K t ≡ false → kind_fits K k t ≡ true
      → is_read (give K n v) k (Some t) ≡ true
  read_closed k t closed fits = ap (λ o. option_map_or (of_kind k) o false) (term_keeps K n none v t closed) ∙ closed_has k (value K t) closed fits

  read_new : (k : Kind) → kind_of v ≡ k → is_read (give K n v) k (Some (Var n)) ≡ true
  read_new k e = ap (λ o. option_map_or (of_kind k) o false) new_value ∙ ap (λ j. same_kind j k) e ∙ same_as_itself k

  all_closed : (k : Kind) (ts : List Term) → open_terms K ts ≡ []
      → list_all (kind_fits K k) ts ≡ true → list_all (is_read (give K n v) k) (map Some ts) ≡ true
  all_closed k [] e h = refl
  all_closed k (t ∷ ts) e h =
      let parts : (is_open K t ≡ false) × (open_terms K ts ≡ []) = filter-none (is_open K) t ts e in
      and_both (is_read (give K n v) k (Some t)) _ (read_closed k t parts.0 (and_first (kind_fits K k t) _ h)) (all_closed k ts parts.1 (and_second (kind_fits K k t) _ h))

  all_open : (k : Kind) (ts : List Term) → open_terms K ts ≡ Var n ∷ [] → kind_of v ≡ k
      → list_all (kind_fits K k) ts ≡ true → list_all (is_read (give K n v) k) (map Some ts) ≡ true
  all_open k [] e is h = cc
  all_open k (t ∷ ts) e is h =
      elim (is_open K t) as (λ b. is_open K t ≡ b → cond b (t ∷ open_terms K ts) (open_terms K ts) ≡ Var n ∷ [] → list_all (is_read (give K n v) k) (map Some (t ∷ ts)) ≡ true) [
        | true ↦ λ _ e.
            let here : t ≡ Var n = cc in
            let rest : open_terms K ts ≡ [] = cc in
            and_both (is_read (give K n v) k (Some t)) _ (subst (λ z. is_read (give K n v) k (Some z) ≡ true) (sym here) (read_new k is)) (all_closed k ts rest (and_second (kind_fits K k t) _ h))
        | false ↦ λ closed e.
            and_both (is_read (give K n v) k (Some t)) _ (read_closed k t closed (and_first (kind_fits K k t) _ h)) (all_open k ts e is (and_second (kind_fits K k t) _ h))
      ] refl e

  pub argument_open : (xs : List Argument) (i j : ℕ) → slice_get (terms_at_argument xs i) j
      ≡ Some (Var n) → open_terms K (flat_map terms_in xs) ≡ [] → ⊥
  argument_open [] i j at e = cc
  argument_open (x ∷ xs) zero j at e = variable_open K n none v v (terms_in x) j at (append-nil _ _ (sym (filter-append (is_open K) (terms_in x) (flat_map terms_in xs)) ∙ e)).0
  argument_open (x ∷ xs) (suc i) j at e = argument_open xs i j at (append-nil _ _ (sym (filter-append (is_open K) (terms_in x) (flat_map terms_in xs)) ∙ e)).1

  -- the only open scalar is in the first argument, or in a later one
  pub open_first : (x : Argument) (xs : List Argument) (j : ℕ)
      → slice_get (terms_in x) j ≡ Some (Var n)
      → open_terms K (flat_map terms_in (x ∷ xs)) ≡ Var n ∷ []
      → (open_terms K (terms_in x) ≡ Var n ∷ []) × (open_terms K (flat_map terms_in xs) ≡ [])
  open_first x xs j at only =
      append_one_left (open_terms K (terms_in x)) (open_terms K (flat_map terms_in xs)) (Var n) (sym (filter-append (is_open K) (terms_in x) (flat_map terms_in xs)) ∙ only) (variable_open K n none v v (terms_in x) j at)

  pub open_behind : (x : Argument) (xs : List Argument) (i j : ℕ)
      → slice_get (terms_at_argument xs i) j ≡ Some (Var n)
      → open_terms K (flat_map terms_in (x ∷ xs)) ≡ Var n ∷ []
      → (open_terms K (terms_in x) ≡ []) × (open_terms K (flat_map terms_in xs) ≡ Var n ∷ [])
  open_behind x xs i j at only =
      append_one (open_terms K (terms_in x)) (open_terms K (flat_map terms_in xs)) (Var n) (sym (filter-append (is_open K) (terms_in x) (flat_map terms_in xs)) ∙ only) (argument_open xs i j at)

  closed_parts : (x : Argument) (xs : List Argument) → open_terms K (flat_map terms_in (x ∷ xs))
      ≡ [] → (open_terms K (terms_in x) ≡ []) × (open_terms K (flat_map terms_in xs) ≡ [])
  closed_parts x xs e = append-nil _ _ (sym (filter-append (is_open K) (terms_in x) (flat_map terms_in xs)) ∙ e)

  closed_read : (ss : List Shape) (xs : List Argument) → have_shapes ss xs ≡ true
      → open_terms K (flat_map terms_in xs) ≡ [] → each_fits K ss xs ≡ true
      → are_read (give K n v) ss xs ≡ true
  closed_read [] [] h e f = refl
  closed_read [] (x ∷ xs) h e f = no h
  closed_read (s ∷ ss) [] h e f = no h
  closed_read (s ∷ ss) (x ∷ xs) h e f =
      let parts : (open_terms K (terms_in x) ≡ []) × (open_terms K (flat_map terms_in xs) ≡ []) = closed_parts x xs e in
      and_both (argument_is_read (give K n v) s x) _
      (shaped (give K n v) s x (and_first (has_shape s x) _ h) ∙ all_closed (kind_in s) (terms_in x) parts.0 (and_first (list_all (kind_fits K (kind_in s)) (terms_in x)) _ f))
      (closed_read ss xs (and_second (has_shape s x) _ h) parts.1 (and_second (list_all (kind_fits K (kind_in s)) (terms_in x)) _ f))

  -- with a value of its kind every scalar can be read
  pub reads : (ss : List Shape) (xs : List Argument) (i j : ℕ) (s : Shape)
      → have_shapes ss xs ≡ true → open_terms K (flat_map terms_in xs) ≡ Var n ∷ []
      → slice_get (terms_at_argument xs i) j ≡ Some (Var n) → slice_get ss i ≡ Some s → kind_of v ≡ kind_in s → each_fits K ss xs ≡ true → are_read (give K n v) ss xs ≡ true
  reads [] xs i j s h only at shape is f = cc
  reads (s ∷ ss) [] i j z h only at shape is f = no h
  reads (s ∷ ss) (x ∷ xs) zero j z h only at shape is f =
      let parts : (open_terms K (terms_in x) ≡ Var n ∷ []) × (open_terms K (flat_map terms_in xs) ≡ []) = open_first x xs j at only in
      let same : s ≡ z = cc in
      and_both (argument_is_read (give K n v) s x) _
      (shaped (give K n v) s x (and_first (has_shape s x) _ h)
      ∙ all_open (kind_in s) (terms_in x) parts.0 (is ∙ ap kind_in (sym same)) (and_first (list_all (kind_fits K (kind_in s)) (terms_in x)) _ f))
      (closed_read ss xs (and_second (has_shape s x) _ h) parts.1 (and_second (list_all (kind_fits K (kind_in s)) (terms_in x)) _ f))
  reads (s ∷ ss) (x ∷ xs) (suc i) j z h only at shape is f =
      let parts : (open_terms K (terms_in x) ≡ []) × (open_terms K (flat_map terms_in xs) ≡ Var n ∷ []) = open_behind x xs i j at only in
      and_both (argument_is_read (give K n v) s x) _
      (shaped (give K n v) s x (and_first (has_shape s x) _ h) ∙ all_closed (kind_in s) (terms_in x) parts.0 (and_first (list_all (kind_fits K (kind_in s)) (terms_in x)) _ f))
      (reads ss xs i j z (and_second (has_shape s x) _ h) parts.1 at shape is (and_second (list_all (kind_fits K (kind_in s)) (terms_in x)) _ f))

  -- ---- and only then

  pub kind_back : (ss : List Shape) (xs : List Argument) (i j : ℕ) (s : Shape)
      → have_shapes ss xs ≡ true → are_read (give K n v) ss xs ≡ true
      → slice_get (terms_at_argument xs i) j ≡ Some (Var n)
      → slice_get ss i ≡ Some s → kind_of v ≡ kind_in s
  kind_back [] xs i j z h r at shape = cc
  kind_back (s ∷ ss) [] i j z h r at shape = no h
  kind_back (s ∷ ss) (x ∷ xs) zero j z h r at shape =
      let same : s ≡ z = cc in
      let read : is_read (give K n v) (kind_in s) (Some (Var n)) ≡ true =
      element_passes (is_read (give K n v) (kind_in s)) (terms_in x) j (Var n) (sym (shaped (give K n v) s x (and_first (has_shape s x) _ h)) ∙ and_first (argument_is_read (give K n v) s x) _ r) at in
      same_kind_is (kind_of v) (kind_in s) (ap (λ o. option_map_or (of_kind (kind_in s)) o false) (sym new_value) ∙ read) ∙ ap kind_in same
  kind_back (s ∷ ss) (x ∷ xs) (suc i) j z h r at shape = kind_back ss xs i j z (and_second (has_shape s x) _ h) (and_second (argument_is_read (give K n v) s x) _ r) at shape

  -- ---- what is given changes at one argument alone

  pub values_stay : {A : Type 0} (f : Option Value → A) (ts : List Term) → open_terms K ts ≡ []
      → map (λ s. f (value_of (give K n v) s)) (map Some ts)
      ≡ map (λ s. f (value_of K s)) (map Some ts)
  values_stay f [] e = refl
  values_stay f (t ∷ ts) e =
      let parts : (is_open K t ≡ false) × (open_terms K ts ≡ []) = filter-none (is_open K) t ts e in
      let keeps : value (give K n v) t ≡ value K t = term_keeps K n none v t parts.0 in
      let more = values_stay f ts parts.1 in
      λ i. f (keeps i) ∷ more i

  slots_stay : {A : Type 0} (f : Option Value → A) (k : Kind) (x : Argument)
      → has_shape (ArrayOf k) x ≡ true → open_terms K (terms_in x) ≡ []
      → map (λ s. f (value_of (give K n v) s)) (slots_in x) ≡ map (λ s. f (value_of K s)) (slots_in x)
  slots_stay f k x h e =
      ap (map (λ s. f (value_of (give K n v) s))) (slots_are_terms k x h) ∙ values_stay f (terms_in x) e ∙ ap (map (λ s. f (value_of K s))) (sym (slots_are_terms k x h))

  slot_stays : (k : Kind) (x : Argument) → has_shape (ScalarOf k) x ≡ true
      → open_terms K (terms_in x) ≡ [] → value_of (give K n v) (slot_in x) ≡ value_of K (slot_in x)
  slot_stays k (One (Scalar j t)) h e = term_keeps K n none v t (filter-none (is_open K) t [] e).0
  slot_stays k (One (Array name j ts)) h e = no h
  slot_stays k (ListOf ps) h e = no h

  given_stays : (s : Shape) (x : Argument) → has_shape s x ≡ true → open_terms K (terms_in x) ≡ []
      → given (give K n v) (x ∷ []) 0 s ≡ given K (x ∷ []) 0 s
  given_stays (ScalarOf IntKind) x h e = ap (λ o. OneValue (Int (int_in o))) (slot_stays IntKind x h e)
  given_stays (ScalarOf BoolKind) x h e = ap (λ o. OneValue (Truth (bool_in o))) (slot_stays BoolKind x h e)
  given_stays (ScalarOf SetKind) x h e = ap (λ o. OneValue (Set (set_in o))) (slot_stays SetKind x h e)
  given_stays (ArrayOf IntKind) x h e = ap (λ ns. ManyValues (map Int ns)) (slots_stay int_in IntKind x h e)
  given_stays (ArrayOf BoolKind) x h e = ap (λ ns. ManyValues (map Truth ns)) (slots_stay bool_in BoolKind x h e)
  given_stays (ArrayOf SetKind) x h e = ap (λ ns. ManyValues (map Set ns)) (slots_stay set_in SetKind x h e)

  all_stay : (ss : List Shape) (xs : List Argument) → have_shapes ss xs ≡ true
      → open_terms K (flat_map terms_in xs) ≡ []
      → given_values (give K n v) ss xs ≡ given_values K ss xs
  all_stay [] xs h e = refl
  all_stay (s ∷ ss) [] h e = no h
  all_stay (s ∷ ss) (x ∷ xs) h e =
      let parts : (open_terms K (terms_in x) ≡ []) × (open_terms K (flat_map terms_in xs) ≡ []) = closed_parts x xs e in
      let one = given_stays s x (and_first (has_shape s x) _ h) parts.0 in
      let more = all_stay ss xs (and_second (has_shape s x) _ h) parts.1 in
      unroll (give K n v) s ss x xs ∙ (λ i. one i ∷ more i) ∙ sym (unroll K s ss x xs)

  pub changes : (ss : List Shape) (xs : List Argument) (i j : ℕ) (s : Shape)
      → have_shapes ss xs ≡ true → open_terms K (flat_map terms_in xs) ≡ Var n ∷ []
      → slice_get (terms_at_argument xs i) j ≡ Some (Var n) → slice_get ss i ≡ Some s → given_values (give K n v) ss xs ≡ slice_set (given_values K ss xs) i (given (give K n v) xs i s)
  changes [] xs i j s h only at shape = cc
  changes (s ∷ ss) [] i j z h only at shape = no h
  changes (s ∷ ss) (x ∷ xs) zero j z h only at shape =
      let parts : (open_terms K (terms_in x) ≡ Var n ∷ []) × (open_terms K (flat_map terms_in xs) ≡ []) = open_first x xs j at only in
      let same : s ≡ z = cc in
      let here : given (give K n v) (x ∷ []) 0 s ≡ given (give K n v) (x ∷ xs) 0 z = sym (given_first (give K n v) x xs s) ∙ ap (given (give K n v) (x ∷ xs) 0) same in
      let more = all_stay ss xs (and_second (has_shape s x) _ h) parts.1 in
      unroll (give K n v) s ss x xs ∙ (λ i. here i ∷ more i) ∙ ap (λ zs. slice_set zs 0 (given (give K n v) (x ∷ xs) 0 z)) (sym (unroll K s ss x xs))
  changes (s ∷ ss) (x ∷ xs) (suc i) j z h only at shape =
      let parts : (open_terms K (terms_in x) ≡ []) × (open_terms K (flat_map terms_in xs) ≡ Var n ∷ []) = open_behind x xs i j at only in
      let one = given_stays s x (and_first (has_shape s x) _ h) parts.0 in
      let more = changes ss xs i j z (and_second (has_shape s x) _ h) parts.1 at shape ∙ ap (slice_set (given_values K ss xs) i) (sym (given_next (give K n v) x xs i z)) in
      unroll (give K n v) s ss x xs ∙ (λ k. one k ∷ more k) ∙ ap (λ zs. slice_set zs (suc i) (given (give K n v) (x ∷ xs) (suc i) z)) (sym (unroll K s ss x xs))

  -- a scalar that stands alone is given its value
  pub given_new : (k : Kind) (xs : List Argument) (i : ℕ) (j : Kind)
      → slice_get xs i ≡ Some (One (Scalar j (Var n))) → kind_of v ≡ k
      → given (give K n v) xs i (ScalarOf k) ≡ OneValue v
  given_new k xs i j at is = as_read k ∙ by_kind k v is (value_of (give K n v) (slot_at xs i)) (ap (λ o. value_of (give K n v) (option_and_then slot_in o)) at ∙ new_value)
    where
      as_read : (k : Kind) → given (give K n v) xs i (ScalarOf k)
          ≡ read_one k (value_of (give K n v) (slot_at xs i))
      as_read IntKind = refl
      as_read BoolKind = refl
      as_read SetKind = refl

      by_kind : (k : Kind) (w : Value) → kind_of w ≡ k → (o : Option Value) → o ≡ Some w
          → read_one k o ≡ OneValue w
      by_kind IntKind (Int a) is o e = ap (λ p. OneValue (Int (int_in p))) e
      by_kind IntKind (Truth b) is o e = cc
      by_kind IntKind (Set s) is o e = cc
      by_kind BoolKind (Int a) is o e = cc
      by_kind BoolKind (Truth b) is o e = ap (λ p. OneValue (Truth (bool_in p))) e
      by_kind BoolKind (Set s) is o e = cc
      by_kind SetKind (Int a) is o e = cc
      by_kind SetKind (Truth b) is o e = cc
      by_kind SetKind (Set s) is o e = ap (λ p. OneValue (Set (set_in p))) e
