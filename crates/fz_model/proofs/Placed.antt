-- From a stored constraint to what its row leaves, and from there to what its point forces.
use Rattle.std.proofs.Common.{◌≡◌, ℕ, true, false, List, [], ◌∷◌, map, Option, Some, None, IsSomeAnd, IfSome, IsFalse, IsTrue, slice_get, refl, sym, subst, ◌∙◌}
use Rattle.std.specs.List.{AllByRecursion, list_all}
use Rattle.std.specs.Option.{option_map_or}
use Rattle.fz_builtins.specs.of_meaning.of_base.declared.value.Value.{Value}
use Rattle.fz_builtins.specs.of_meaning.Relations.{kind_of}
use Rattle.fz_builtins.specs.of_meaning.declared.kind.Kind.{Kind}
use Rattle.fz_builtins.specs.of_meaning.Builtins.{Shape, Row}
use Rattle.fz_builtins.specs.of_meaning.Results.{result_of}
use Rattle.fz_builtins.specs.of_meaning.Builtins.Shape.{ScalarOf, ArrayOf}
use Rattle.fz_builtins.specs.of_meaning.Meaning as meaning
use Rattle.fz_builtins.specs.of_meaning.Meaning.{Model, Partial, Posted, IsPartial, argument_values, value_at, has_shape, have_shapes, is_term_of, row_holds, row_of, terms_in}
use Rattle.fz_builtins.specs.of_meaning.States.{is_beyond}
use Rattle.fz_builtins.specs.of_meaning.Meaning.Point.{ConstraintPoint}
use Rattle.fz_builtins.specs.of_meaning.Steps.{Gives, IsResult, kind_at, give}
use Rattle.fz_builtins.proofs.of_meaning.Values.{no, and_first, and_second}
use Rattle.fz_builtins.proofs.of_meaning.States.{intro}
use Rattle.fz_builtins.specs.of_store.declared.parts.Array.{Array}
use Rattle.fz_builtins.specs.of_store.declared.Slot.{Slot}
use Rattle.fz_builtins.specs.of_store.declared.Slot.TheVariants as slots
use Rattle.fz_builtins.specs.of_store.declared.Argument.{Argument}
use Rattle.fz_builtins.specs.of_store.declared.Argument.TheVariants as arguments
use Rattle.fz_builtins.specs.of_store.declared.point.ConstraintParts.{ConstraintParts}
use Rattle.fz_builtins.specs.of_store.Slots.{is_scalar, segment}
use Rattle.fz_builtins.specs.of_store.Kinds.{PostedFits}
use Rattle.fz_builtins.specs.of_store.Parts.{argument_view, place_view, array_view, no_array}
use Rattle.fz_model.specs.Forced.{Fills, IsForced, IsOnlyValue}
use Rattle.fz_model.specs.Openings.{IsFlat}
use Rattle.fz_builtins.proofs.of_meaning.Partials.{has_place}
use Rattle.fz_model.proofs.KindsFit.{filled_kind, has_number}

module _ (c : ConstraintParts) where
  abbrev view : Argument → meaning.Argument
  view = argument_view c.variables.now c.arrays.now c.store.now

  -- ---- no array is in a list of a constraint whose arguments are of the kinds asked for

  no_term : (k : Kind) (o : Option Array)
      → is_term_of k (option_map_or array_view o no_array) ≡ false
  no_term k None = refl
  no_term k (Some a) = refl

  flat_places : (k : Kind) (ss : List Slot) → list_all (is_term_of k)
      (map (place_view c.variables.now c.arrays.now c.store.now.constants.items) ss) ≡ true
      → list_all is_scalar ss ≡ true
  flat_places k [] h = refl
  flat_places k (slots.Variable n ∷ ss) h = flat_places k ss (and_second (is_term_of k (place_view c.variables.now c.arrays.now c.store.now.constants.items (slots.Variable n))) _ h)
  flat_places k (slots.Number i ∷ ss) h = flat_places k ss (and_second (is_term_of k (place_view c.variables.now c.arrays.now c.store.now.constants.items (slots.Number i))) _ h)
  flat_places k (slots.Truth b ∷ ss) h = flat_places k ss (and_second (is_term_of k (place_view c.variables.now c.arrays.now c.store.now.constants.items (slots.Truth b))) _ h)
  flat_places k (slots.Constant v ∷ ss) h = flat_places k ss (and_second (is_term_of k (place_view c.variables.now c.arrays.now c.store.now.constants.items (slots.Constant v))) _ h)
  flat_places k (slots.Array i ∷ ss) h = no (sym (no_term k (slice_get c.arrays.now i)) ∙ and_first (is_term_of k (option_map_or array_view (slice_get c.arrays.now i) no_array)) _ h)

  flat_argument : (s : Shape) (a : Argument) → has_shape s (view a) ≡ true → IsFlat c a
  flat_argument s (arguments.One p) h = tt
  flat_argument (ScalarOf k) (arguments.List g) h = no h
  flat_argument (ArrayOf k) (arguments.List g) h = flat_places k (segment c.store.now.slots.items g) h

  pub flat_arguments : (ss : List Shape) (as' : List Argument)
      → have_shapes ss (map view as') ≡ true → AllByRecursion (IsFlat c) as'
  flat_arguments ss [] h = tt
  flat_arguments [] (a ∷ as') h = no h
  flat_arguments (s ∷ ss) (a ∷ as') h = (flat_argument s a (and_first (has_shape s (view a)) _ h), flat_arguments ss as' (and_second (has_shape s (view a)) _ h))

-- ---- the point

module _ (m : Model) (K : Partial) (fits : IsPartial m K) (k : ℕ) (p : Posted) (r : Row) (row : row_of p ≡ Some r) (n : ℕ) (target : p.target ≡ Some n) where
  fills : (w : Value) → Gives m K (ConstraintPoint k p) n w → Fills K p.arguments r n w
  fills w g = record {
    only_open = g.only_open;
    numbers_fit = subst (λ o. IfSome o (λ q. IsFalse (is_beyond K p.arguments q))) row g.numbers_fit;
    result = subst (λ o. IsSomeAnd o (λ q. IsResult K p.arguments n (result_of q))) row g.target.1;
    within_limits = g.within_limits;
    holds = subst (λ o. IsSomeAnd o (λ q. IsSomeAnd (argument_values (give K n w) p.arguments) (λ vs. IsTrue (row_holds q vs)))) row g.then_holds;
  }

  gives : (w : Value) → Fills K p.arguments r n w → kind_at m n ≡ Some (kind_of w)
      → Gives m K (ConstraintPoint k p) n w
  gives w f kind = record {
    target = (target, intro (λ q. IsResult K p.arguments n (result_of q)) (row_of p) r row f.result);
    only_open = f.only_open;
    of_kind = kind;
    within_limits = f.within_limits;
    numbers_fit = subst (λ o. IfSome o (λ q. IsFalse (is_beyond K p.arguments q))) (sym row) f.numbers_fit;
    then_holds = intro (λ q. IsSomeAnd (argument_values (give K n w) p.arguments) (λ vs. IsTrue (row_holds q vs))) (row_of p) r row f.holds;
  }

  -- the variable that is given a value is the defined one
  at_target : (j : ℕ) (w : Value) → Gives m K (ConstraintPoint k p) j w
      → Gives m K (ConstraintPoint k p) n w
  at_target j w g = let some : Some j ≡ Some n = sym g.target.0 ∙ target in let same : j ≡ n = cc in subst (λ i. Gives m K (ConstraintPoint k p) i w) same g

  pub forces_nothing : IsOnlyValue K p.arguments r n None → IsForced m K (ConstraintPoint k p) None
  forces_nothing none = λ j w g.
      let here : Gives m K (ConstraintPoint k p) n w = at_target j w g in
      none (has_place m K n (kind_of w) fits here.of_kind) w (fills w here)

  pub forces_value : PostedFits m p → (v : Value) → IsOnlyValue K p.arguments r n (Some v)
      → IsForced m K (ConstraintPoint k p) (Some (n, v))
  forces_value kinds v only =
      let filled : Fills K p.arguments r n v = only.1 (has_number m K fits p r row kinds n only.0) in
      gives v filled (filled_kind m K fits p r row kinds n v filled)
