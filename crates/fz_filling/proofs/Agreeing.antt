-- What a point gives rests on the values of its own scalars alone.
use Rattle.std.proofs.Common.{◌≡◌, ◌||◌, ℕ, suc, zero, pos, negsuc, false, int_lt, cond, List, [], ◌∷◌, ◌++◌, length, Option, Some, None, refl, sym, ap, subst, subst₂, ◌∙◌, option_map, option_and_then, slice_get, is_none, flat_map, IsSomeAnd, IfSome, IsFalse, IsTrue, arith, ◌⊎◌}
use Rattle.std.specs.List.{AllByRecursion, list_any}
use Rattle.std.specs.Option.{option_map_or}
use Rattle.fz_index.specs.of_model.of_base.declared.value.Value.{Value}
use Rattle.fz_index.specs.of_model.of_base.declared.value.Value.TheVariants.{Int}
use Rattle.fz_index.specs.of_model.declared.State.TheVariants.{TooLarge, Unknown}
use Rattle.fz_store.specs.declared.Wide.{Wide}
use Rattle.fz_store.specs.declared.Wide.TheVariants.{Products, Power}
use Rattle.fz_index.specs.of_model.Builtins.{ArgValue, Row}
use Rattle.fz_index.specs.of_model.States.{is_beyond, is_unknown, judged, known_products, leaves, leaves_128, number_of_value, power_leaves, product_before, state_of_row, state_of_values, terms_at_argument}
use Rattle.fz_index.specs.of_model.Results.{Result, result_of}
use Rattle.fz_index.specs.of_model.Builtins.ArgValue.{OneValue, ManyValues}
use Rattle.fz_index.specs.of_model.Results.Result.{NoResult, Places, UnitTerm}
use Rattle.fz_index.specs.of_model.declared.Term.{Term}
use Rattle.fz_index.specs.of_model.declared.Term.TheVariants.{Var, Fixed}
use Rattle.fz_index.specs.of_model.Meaning.{Argument, Model, Point, Partial, value, values, value_at, terms_in, argument_value, argument_values, row_of, row_holds, HoldsUnder, inside, as_int}
use Rattle.fz_index.specs.of_model.Relations.{option_cons}
use Rattle.fz_index.specs.of_model.Meaning.Place.{Scalar, Array}
use Rattle.fz_index.specs.of_model.Meaning.Argument.{One, ListOf}
use Rattle.fz_index.specs.of_model.Meaning.Point.{DomainPoint, DefinitionPoint, ArrayPoint, ConstraintPoint}
use Rattle.fz_index.proofs.of_model.Lists.{all_left, all_right}
use Rattle.fz_index.proofs.of_model.Powers.{same_unknown}
use Rattle.fz_index.specs.of_model.Steps.{Gives, IsResult, IsTarget, NumbersFit, HasUnitCoefficient, terms_of, open_terms, give}

-- ---- values

-- the scalars have the same values under both, or none
abbrev pub Agree : Partial → Partial → List Term → Type 0
Agree K L ts = AllByRecursion (λ t. value K t ≡ value L t) ts

pub agree_back : (K L : Partial) (ts : List Term) → Agree K L ts → Agree L K ts
agree_back K L [] h = tt
agree_back K L (t ∷ ts) h = (sym h.0, agree_back K L ts h.1)

module _ (K L : Partial) where
  pub values_agree : (ts : List Term) → Agree K L ts → values K ts ≡ values L ts
  values_agree [] h = refl
  values_agree (t ∷ ts) h = λ i. option_cons (h.0 i) (values_agree ts h.1 i)

  pub open_agree : (ts : List Term) → Agree K L ts → open_terms K ts ≡ open_terms L ts
  open_agree [] h = refl
  open_agree (t ∷ ts) h = λ i. cond (is_none (h.0 i)) (t ∷ open_agree ts h.1 i) (open_agree ts h.1 i)

  agrees_at : (ts : List Term) (i : ℕ) (t : Term) → Agree K L ts → slice_get ts i ≡ Some t
      → value K t ≡ value L t
  agrees_at [] i t h e = cc
  agrees_at (u ∷ ts) zero t h e = let same : u ≡ t = cc in subst (λ z. value K z ≡ value L z) same h.0
  agrees_at (u ∷ ts) (suc i) t h e = agrees_at ts i t h.1 e

  left_part : (xs ys : List Term) → Agree K L (xs ++ ys) → Agree K L xs
  left_part xs ys h = all_left (λ t. value K t ≡ value L t) xs ys h

  right_part : (xs ys : List Term) → Agree K L (xs ++ ys) → Agree K L ys
  right_part xs ys h = all_right (λ t. value K t ≡ value L t) xs ys h

  argument_agrees : (x : Argument) → Agree K L (terms_in x)
      → argument_value K x ≡ argument_value L x
  argument_agrees (One (Scalar k t)) h = ap (option_map OneValue) h.0
  argument_agrees (One (Array name k ts)) h = ap (option_map ManyValues) (values_agree ts h)
  argument_agrees (ListOf ps) h = ap (option_map ManyValues) (values_agree (terms_in (ListOf ps)) h)

  arguments_agree : (xs : List Argument) → Agree K L (flat_map terms_in xs)
      → argument_values K xs ≡ argument_values L xs
  arguments_agree [] h = refl
  arguments_agree (x ∷ xs) h = λ i. option_cons (argument_agrees x (left_part (terms_in x) (flat_map terms_in xs) h) i) (arguments_agree xs (right_part (terms_in x) (flat_map terms_in xs) h) i)

  products_agree : (as' bs : List Term) → Agree K L as' → Agree K L bs
      → known_products K as' bs ≡ known_products L as' bs
  products_agree [] bs g h = refl
  products_agree (a ∷ as') [] g h = refl
  products_agree (a ∷ as') (b ∷ bs) g h = λ i. product_before (option_and_then as_int (g.0 i)) (option_and_then as_int (h.0 i)) (products_agree as' bs g.1 h.1 i)

  argument_at_agrees : (xs : List Argument) (i : ℕ) → Agree K L (flat_map terms_in xs)
      → Agree K L (terms_at_argument xs i)
  argument_at_agrees [] i h = tt
  argument_at_agrees (x ∷ xs) zero h = left_part (terms_in x) (flat_map terms_in xs) h
  argument_at_agrees (x ∷ xs) (suc i) h = argument_at_agrees xs i (right_part (terms_in x) (flat_map terms_in xs) h)

  slot_agrees : (xs : List Argument) (i : ℕ) → Agree K L (flat_map terms_in xs)
      → option_and_then (argument_value K) (slice_get xs i)
      ≡ option_and_then (argument_value L) (slice_get xs i)
  slot_agrees [] i h = refl
  slot_agrees (x ∷ xs) zero h = argument_agrees x (left_part (terms_in x) (flat_map terms_in xs) h)
  slot_agrees (x ∷ xs) (suc i) h = slot_agrees xs i (right_part (terms_in x) (flat_map terms_in xs) h)

  unknown_agree : (xs : List Argument) (ws : List Wide) → Agree K L (flat_map terms_in xs)
      → list_any (is_unknown K xs) ws ≡ list_any (is_unknown L xs) ws
  unknown_agree xs ws h = same_unknown K L xs ws (λ j. slot_agrees xs j h)

  number_agrees : (xs : List Argument) (w : Wide) → Agree K L (flat_map terms_in xs)
      → leaves K xs w ≡ leaves L xs w
  number_agrees xs (Products i j) h = ap leaves_128 (products_agree (terms_at_argument xs i) (terms_at_argument xs j) (argument_at_agrees xs i h) (argument_at_agrees xs j h))
  number_agrees xs (Power i j) h =
      let base = ap (option_and_then number_of_value) (slot_agrees xs i h) in
      let exponent = ap (option_and_then number_of_value) (slot_agrees xs j h) in
      λ t. option_map_or (λ b. int_lt b (pos 0)) (exponent t) false || power_leaves (base t) (exponent t)

  numbers_agree : (xs : List Argument) (ws : List Wide) → Agree K L (flat_map terms_in xs)
      → list_any (leaves K xs) ws ≡ list_any (leaves L xs) ws
  numbers_agree xs [] h = refl
  numbers_agree xs (w ∷ ws) h = λ t. number_agrees xs w h t || numbers_agree xs ws h t

  -- a constraint has the same state
  pub row_state_agrees : (xs : List Argument) (o : Option Row) → Agree K L (flat_map terms_in xs)
      → state_of_row K xs o ≡ state_of_row L xs o
  row_state_agrees xs None h = refl
  row_state_agrees xs (Some r) h = ap (state_of_values K xs r) (arguments_agree xs h) ∙ by_values (argument_values L xs)
    where
      by_values : (o : Option (List ArgValue)) → state_of_values K xs r o ≡ state_of_values L xs r o
      by_values None = refl
      by_values (Some vs) =
          λ t. cond (numbers_agree xs r.wide h t) (cond (unknown_agree xs r.wide h t) Unknown TooLarge) (judged (row_holds r vs))

  -- ---- the parts of a step

  unit_agrees : (xs : List Argument) (n : ℕ) → Agree K L (flat_map terms_in xs)
      → HasUnitCoefficient K xs n → HasUnitCoefficient L xs n
  unit_agrees xs n h (i, stands, u, beside, is_unit) =
      (i, stands, u, beside, subst (λ o. (o ≡ Some (Int (pos 1))) ⊎ (o ≡ Some (Int (negsuc 0)))) (agrees_at (terms_at_argument xs 0) i u (argument_at_agrees xs 0 h) beside) is_unit)

  result_agrees : (xs : List Argument) (n : ℕ) (r : Result) → Agree K L (flat_map terms_in xs)
      → IsResult K xs n r → IsResult L xs n r
  result_agrees xs n NoResult h is = is
  result_agrees xs n (Places ks) h is = is
  result_agrees xs n UnitTerm h is = unit_agrees xs n h is

  target_agrees : (p : Point) (n : ℕ) → Agree K L (terms_of p) → IsTarget K p n → IsTarget L p n
  target_agrees (DomainPoint x k) n h t = t
  target_agrees (DefinitionPoint x k e) n h t = t
  target_agrees (ArrayPoint name d ts) n h t = t
  target_agrees (ConstraintPoint k p) n h (named, is) = (named, by_row (row_of p) is)
    where
      by_row : (o : Option Row) → IsSomeAnd o (λ r. IsResult K p.arguments n (result_of r))
          → IsSomeAnd o (λ r. IsResult L p.arguments n (result_of r))
      by_row None is = is
      by_row (Some r) is = result_agrees p.arguments n (result_of r) h is

  fit_agrees : (p : Point) → Agree K L (terms_of p) → NumbersFit K p → NumbersFit L p
  fit_agrees (DomainPoint x k) h s = tt
  fit_agrees (DefinitionPoint x k e) h s = tt
  fit_agrees (ArrayPoint name d ts) h s = tt
  fit_agrees (ConstraintPoint k p) h s = by_row (row_of p) s
    where
      by_row : (o : Option Row) → IfSome o (λ r. IsFalse (is_beyond K p.arguments r))
          → IfSome o (λ r. IsFalse (is_beyond L p.arguments r))
      by_row None fit = fit
      by_row (Some r) fit = sym (numbers_agree p.arguments r.wide h) ∙ fit

  holds_agrees : (p : Point) → Agree K L (terms_of p) → HoldsUnder K p → HoldsUnder L p
  holds_agrees (DomainPoint x k) h q = subst (λ o. IsSomeAnd o (λ v. IsTrue (inside x.domain v))) h.0 q
  holds_agrees (DefinitionPoint x k e) h q = subst₂ (λ o r. IsSomeAnd o (λ v. IsSomeAnd r (λ w. v ≡ w))) h.0 h.1.0 q
  holds_agrees (ArrayPoint name d ts) h q = subst (λ o. IsSomeAnd o (λ vs. AllByRecursion (λ v. IsTrue (inside d v)) vs)) (values_agree ts h) q
  holds_agrees (ConstraintPoint k p) h q = subst (λ o. IsSomeAnd (row_of p) (λ r. IsSomeAnd o (λ vs. IsTrue (row_holds r vs)))) (arguments_agree p.arguments h) q

-- ---- one more value

given_at : (K L : Partial) (n k : ℕ) (v : Value) → length K ≡ length L → value_at K k ≡ value_at L k
    → value_at (give K n v) k ≡ value_at (give L n v) k
given_at [] [] n k v as_many e = refl
given_at [] (p ∷ L) n k v as_many e = absurd (omega arith)
given_at (o ∷ K) [] n k v as_many e = absurd (omega arith)
given_at (o ∷ K) (p ∷ L) zero zero v as_many e = refl
given_at (o ∷ K) (p ∷ L) zero (suc k) v as_many e = e
given_at (o ∷ K) (p ∷ L) (suc n) zero v as_many e = e
given_at (o ∷ K) (p ∷ L) (suc n) (suc k) v as_many e = given_at K L n k v (omega arith) e

given_agree : (K L : Partial) (n : ℕ) (v : Value) → length K ≡ length L → (ts : List Term)
    → Agree K L ts → Agree (give K n v) (give L n v) ts
given_agree K L n v as_many [] h = tt
given_agree K L n v as_many (Var k ∷ ts) h = (given_at K L n k v as_many h.0, given_agree K L n v as_many ts h.1)
given_agree K L n v as_many (Fixed w ∷ ts) h = (refl, given_agree K L n v as_many ts h.1)

-- What a point gives it gives wherever its scalars have the same values.
pub gives_agree : (m : Model) (K L : Partial) (p : Point) (n : ℕ) (v : Value) → length K ≡ length L
    → Agree K L (terms_of p) → Gives m K p n v → Gives m L p n v
gives_agree m K L p n v as_many h g = record {
  target = target_agrees K L p n h g.target;
  only_open = sym (open_agree K L (terms_of p) h) ∙ g.only_open;
  of_kind = g.of_kind;
  within_limits = g.within_limits;
  numbers_fit = fit_agrees K L p h g.numbers_fit;
  then_holds = holds_agrees (give K n v) (give L n v) p (given_agree K L n v as_many (terms_of p) h) g.then_holds;
}
