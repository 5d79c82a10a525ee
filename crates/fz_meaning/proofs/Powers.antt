-- Where a constraint is unknown by the values of its arguments: the exponent of its power is
-- negative.
use Rattle.std.proofs.Common.{◌≡◌, ◌↔◌, ◌⊎◌, inl, inr, ℕ, zero, suc, Bool, true, false, cond, ◌&&◌, ◌||◌, List, [], ◌∷◌, ◌++◌, map, filter, flat_map, Option, Some, None, refl, sym, ap, subst, ◌∙◌, slice_get, int_lt, pos, is_none, IsSomeAnd, Contains, option_map, option_and_then, arith, length}
use Rattle.std.specs.Prelude.{IsSome}
use Rattle.std.specs.List.{AllByRecursion, list_all, list_any}
use Rattle.std.specs.Option.{option_map_or}
use Rattle.fz_base.specs.declared.value.Value.{Value}
use Rattle.fz_meaning.specs.declared.builtin.Builtin.{Builtin}
use Rattle.fz_meaning.specs.declared.builtin.Builtin.TheVariants.{IntPow}
use Rattle.fz_meaning.specs.declared.known.Form.{Form}
use Rattle.fz_meaning.specs.declared.known.Form.TheVariants.{Base, Reified, Implied}
use Rattle.fz_meaning.specs.declared.known.Known.{Known}
use Rattle.fz_meaning.specs.declared.row.Wide.{Wide}
use Rattle.fz_meaning.specs.declared.row.Wide.TheVariants.{Products, Power}
use Rattle.fz_meaning.specs.declared.state.State.TheVariants.{Fails, Unknown, TooLarge}
use Rattle.fz_meaning.specs.declared.kind.Kind.{Kind}
use Rattle.fz_meaning.specs.declared.term.Term.{Term}
use Rattle.fz_meaning.specs.declared.term.Term.TheVariants.{Var}
use Rattle.fz_meaning.specs.Builtins.ArgValue.{OneValue}
use Rattle.fz_meaning.specs.Builtins.{I, Row, ArgValue, base_rows, builtins, implied, is_named, reified, row_at, rows, rows_with_forms}
use Rattle.fz_meaning.specs.Known.{form_at, known_row}
use Rattle.fz_meaning.specs.Laws.{IsUnknownFor}
use Rattle.fz_meaning.specs.Meaning.{Argument, Partial, Posted, argument_value, argument_values, fits, has_shape, have_shapes, row_holds, row_of, table_name, terms_in, value, value_at}
use Rattle.fz_meaning.specs.Meaning.Argument.{One, ListOf}
use Rattle.fz_meaning.specs.Meaning.Place.{Scalar, Array}
use Rattle.fz_meaning.specs.Results.{result_of}
use Rattle.fz_meaning.specs.States.{is_beyond, is_unknown, judged, leaves, number_at_argument, number_of_value, power_leaves, state_of_row, state_of_values}
use Rattle.fz_meaning.specs.Steps.{IsResult}
use Rattle.fz_meaning.proofs.Determined.{at_found}
use Rattle.fz_meaning.proofs.Lists.{all_append}
use Rattle.fz_meaning.proofs.Steps.{append_one, filter-append, filter-none, is_open}
use Rattle.fz_meaning.proofs.Values.{and_first, and_second, no, no'}

-- ---- the state

behind : (p q : Bool) → q ≡ true → (p || q) ≡ true
behind true q h = refl
behind false q h = h

-- what isn't known can't be computed
unknown_leaves : (K : Partial) (xs : List Argument) (ws : List Wide)
    → list_any (is_unknown K xs) ws ≡ true → list_any (leaves K xs) ws ≡ true
unknown_leaves K xs [] h = h
unknown_leaves K xs (Products i j ∷ ws) h =
    behind (leaves K xs (Products i j)) (list_any (leaves K xs) ws) (unknown_leaves K xs ws h)
unknown_leaves K xs (Power i j ∷ ws) h =
    let too : Bool = power_leaves (number_at_argument K xs i) (number_at_argument K xs j) in
    (elim (is_unknown K xs (Power i j)) as (λ b. (b || list_any (is_unknown K xs) ws) ≡ true → ((b || too) || list_any (leaves K xs) ws) ≡ true) [
      | true ↦ λ _. refl
      | false ↦ λ h. behind too (list_any (leaves K xs) ws) (unknown_leaves K xs ws h)
    ]) h

unknown_beyond : (b n holds : Bool) → cond b (cond n Unknown TooLarge) (judged holds) ≡ Unknown
    → n ≡ true
unknown_beyond true true holds e = refl
unknown_beyond true false holds e = cc
unknown_beyond false n true e = cc
unknown_beyond false n false e = cc

values_unknown : (K : Partial) (xs : List Argument) (r : Row) (o : Option (List ArgValue))
    → IsSome o → list_any (is_unknown K xs) r.wide ≡ true → state_of_values K xs r o ≡ Unknown
values_unknown K xs r None some h = no some
values_unknown K xs r (Some vs) some h =
    λ i. cond (unknown_leaves K xs r.wide h i) (cond (h i) Unknown TooLarge) (judged (row_holds r vs))

unknown_values : (K : Partial) (xs : List Argument) (r : Row) (o : Option (List ArgValue))
    → state_of_values K xs r o ≡ Unknown
    → IsSome o × (list_any (is_unknown K xs) r.wide ≡ true)
unknown_values K xs r None e = cc
unknown_values K xs r (Some vs) e = (refl, unknown_beyond (is_beyond K xs r) (list_any (is_unknown K xs) r.wide) (row_holds r vs) e)

pub unknown_row : (K : Partial) (xs : List Argument) (o : Option Row)
    → (state_of_row K xs o ≡ Unknown) ↔ ((o ≡ None) ⊎ IsSomeAnd o (IsUnknownFor K xs))
unknown_row K xs None = (λ _. inl refl, λ _. refl)
unknown_row K xs (Some r) = (
  λ e. inr (unknown_values K xs r (argument_values K xs) e),
  λ h. elim h [
    | inl e ↦ cc
    | inr u ↦ values_unknown K xs r (argument_values K xs) u.0 u.1
  ],
)

-- the row of a constraint that is unknown has a power that isn't known
pub unknown_by : (K : Partial) (xs : List Argument) (r : Row)
    → state_of_row K xs (Some r) ≡ Unknown → list_any (is_unknown K xs) r.wide ≡ true
unknown_by K xs r e = (unknown_values K xs r (argument_values K xs) e).1

fails_by : (b n holds : Bool) → cond b (cond n Unknown TooLarge) (judged holds) ≡ Fails
    → b ≡ false
fails_by true true holds e = cc
fails_by true false holds e = cc
fails_by false n holds e = refl

-- of a row that fails each number can be computed
pub fails_computed : (K : Partial) (xs : List Argument) (r : Row) (o : Option (List ArgValue))
    → state_of_values K xs r o ≡ Fails → is_beyond K xs r ≡ false
fails_computed K xs r None e = cc
fails_computed K xs r (Some vs) e =
    fails_by (is_beyond K xs r) (list_any (is_unknown K xs) r.wide) (row_holds r vs) e

-- of a row whose numbers can be computed
pub none_unknown : (K : Partial) (xs : List Argument) (r : Row) → is_beyond K xs r ≡ false
    → list_any (is_unknown K xs) r.wide ≡ false
none_unknown K xs r fit =
    (elim (list_any (is_unknown K xs) r.wide) as (λ b. list_any (is_unknown K xs) r.wide ≡ b → b ≡ false) [
      | true ↦ λ h. no' (sym (unknown_leaves K xs r.wide h) ∙ fit)
      | false ↦ λ _. refl
    ]) refl

-- ---- the rows

abbrev pub is_sum : Wide → Bool
is_sum (Products i j) = true
is_sum (Power i j) = false

-- the row has no power, or is the one that has
abbrev pub HasNoOtherPower : Row → Type 0
HasNoOtherPower r = (list_all is_sum r.wide ≡ true) ⊎ (r ≡ row_at IntPow)

base_power : (b : Builtin) → HasNoOtherPower (row_at b)
unfolding row_at
base_power IntPow = inr refl
base_power _ = inl refl

-- the row of another builtin, and its forms, have no power
builtin_sums : (b : Builtin) → (b ≡ IntPow → ⊥) → list_all is_sum (row_at b).wide ≡ true
unfolding row_at
builtin_sums IntPow other = absurd (other refl)
builtin_sums _ other = refl

pub known_sums : (k : Known) → (k.builtin ≡ IntPow → ⊥)
    → list_all is_sum (known_row k).wide ≡ true
known_sums k other = by_form k.form (builtin_sums k.builtin other)
  where
    by_form : (f : Form) → list_all is_sum (row_at k.builtin).wide ≡ true
        → list_all is_sum (form_at f (row_at k.builtin)).wide ≡ true
    by_form Base h = h
    by_form Reified h = h
    by_form Implied h = h

base_powers : (bs : List Builtin) → AllByRecursion HasNoOtherPower (map row_at bs)
base_powers [] = tt
base_powers (b ∷ bs) = (base_power b, base_powers bs)

form_powers : (form : Row → Row) → ((r : Row) → (form r).wide ≡ r.wide) → (rs : List Row)
    → list_all (λ r. list_all is_sum r.wide) rs ≡ true
    → AllByRecursion HasNoOtherPower (map form rs)
form_powers form same [] h = tt
form_powers form same (r ∷ rs) h = (
  inl (ap (list_all is_sum) (same r) ∙ and_first (list_all is_sum r.wide) _ h),
  form_powers form same rs (and_second (list_all is_sum r.wide) _ h),
)

forms_are_sums : list_all (λ r. list_all is_sum r.wide) rows_with_forms ≡ true
unfolding row_at builtins
forms_are_sums = refl

row_powers : AllByRecursion HasNoOtherPower rows
unfolding rows
row_powers =
    all_append HasNoOtherPower base_rows (map reified rows_with_forms ++ map implied rows_with_forms) (base_powers builtins)
    (all_append HasNoOtherPower (map reified rows_with_forms) (map implied rows_with_forms) (form_powers reified (λ _. refl) rows_with_forms forms_are_sums) (form_powers implied (λ _. refl) rows_with_forms forms_are_sums))

pub row_power : (p : Posted) (r : Row) → row_of p ≡ Some r → HasNoOtherPower r
row_power p r e = at_found HasNoOtherPower (λ r. is_named (table_name p.name (length p.arguments)) r && fits r p.arguments) rows r row_powers e

sums_known : (K : Partial) (xs : List Argument) (ws : List Wide) → list_all is_sum ws ≡ true
    → list_any (is_unknown K xs) ws ≡ false
sums_known K xs [] h = refl
sums_known K xs (Products i j ∷ ws) h = sums_known K xs ws h
sums_known K xs (Power i j ∷ ws) h = no h

-- a constraint whose row has no power isn't unknown
pub sums_are_known : (K : Partial) (xs : List Argument) (r : Row) → list_all is_sum r.wide ≡ true
    → state_of_row K xs (Some r) ≡ Unknown → ⊥
sums_are_known K xs r sums e =
    no' (sym (unknown_by K xs r e) ∙ sums_known K xs r.wide sums)

-- ---- the exponent under two assignments

-- where all arguments have values, with one assignment and with another
pub same_unknown : (K L : Partial) (xs : List Argument) (ws : List Wide)
    → ((j : ℕ) → option_and_then (argument_value K) (slice_get xs j)
    ≡ option_and_then (argument_value L) (slice_get xs j))
    → list_any (is_unknown K xs) ws ≡ list_any (is_unknown L xs) ws
same_unknown K L xs [] h = refl
same_unknown K L xs (Products i j ∷ ws) h = same_unknown K L xs ws h
same_unknown K L xs (Power i j ∷ ws) h =
    λ t. option_map_or (λ b. int_lt b (pos 0)) (option_and_then number_of_value (h j t)) false || same_unknown K L xs ws h t

-- an argument of the shape of a number is a scalar
scalar_of : (x : Argument) → has_shape I x ≡ true → (k : Kind) × (t : Term) × (x ≡ One (Scalar k t))
scalar_of (One (Scalar k t)) h = (k, t, refl)
scalar_of (One (Array name k ts)) h = no h
scalar_of (ListOf ps) h = no h

-- of three scalars of which the last one alone is open, the second has a value
second_closed : (K : Partial) (n : ℕ) (s t : Term) → value_at K n ≡ None
    → filter (is_open K) (s ∷ t ∷ Var n ∷ []) ≡ Var n ∷ [] → is_open K t ≡ false
second_closed K n s t none only =
    let last : filter (is_open K) (Var n ∷ []) ≡ [] → ⊥ = λ e. no' (sym (ap is_none none) ∙ (filter-none (is_open K) (Var n) [] e).0) in
    let split : filter (is_open K) (s ∷ t ∷ []) ++ filter (is_open K) (Var n ∷ []) ≡ Var n ∷ [] = sym (filter-append (is_open K) (s ∷ t ∷ []) (Var n ∷ [])) ∙ only in
    let before : filter (is_open K) (s ∷ t ∷ []) ≡ [] = (append_one (filter (is_open K) (s ∷ t ∷ [])) (filter (is_open K) (Var n ∷ [])) (Var n) split last).0 in
    (filter-none (is_open K) t [] (filter-none (is_open K) s (t ∷ []) before).1).0

has_value : (o : Option Value) → is_none o ≡ false → (v : Value) × (o ≡ Some v)
has_value None e = no' e
has_value (Some v) e = (v, refl)

pub only_place : (n i : ℕ) → Contains (n ∷ []) i → i ≡ n
only_place n i (zero, below, e) = sym e
only_place n i (suc k, below, e) = absurd (omega arith)

module _ (K L : Partial) (n : ℕ) (none : value_at K n ≡ None) (under : (t : Term) (v : Value) → value K t ≡ Some v → value L t ≡ Some v) where
  -- the scalar has the same value where it has one
  same_scalar : (k : Kind) (t : Term) → is_open K t ≡ false
      → argument_value K (One (Scalar k t)) ≡ argument_value L (One (Scalar k t))
  same_scalar k t closed =
      let (v, is) = has_value (value K t) closed in
      ap (option_map OneValue) (is ∙ sym (under t v is))

  -- the power's result is the only open scalar, so that its exponent has a value
  exponent_same : (xs : List Argument) → have_shapes (row_at IntPow).shapes xs ≡ true
      → IsResult K xs n (result_of (row_at IntPow))
      → filter (is_open K) (flat_map terms_in xs) ≡ Var n ∷ []
      → option_and_then (argument_value K) (slice_get xs 1)
      ≡ option_and_then (argument_value L) (slice_get xs 1)
  unfolding row_at result_of
  exponent_same (x ∷ y ∷ z ∷ []) shaped (i, among, m, at) only =
      let rest = and_second (has_shape I x) (have_shapes (I ∷ I ∷ []) (y ∷ z ∷ [])) shaped in
      let last = and_second (has_shape I y) (have_shapes (I ∷ []) (z ∷ [])) rest in
      let (j, s, x_is) = scalar_of x (and_first (has_shape I x) _ shaped) in
      let (k, t, y_is) = scalar_of y (and_first (has_shape I y) _ rest) in
      let third : Some z ≡ Some (One (Scalar m (Var n))) = subst (λ q. slice_get (x ∷ y ∷ z ∷ []) q ≡ Some (One (Scalar m (Var n)))) (only_place 2 i among) at in
      let z_is : z ≡ One (Scalar m (Var n)) = cc in
      let opened : filter (is_open K) (s ∷ t ∷ Var n ∷ []) ≡ Var n ∷ [] = (λ q. filter (is_open K) (flat_map terms_in (sym x_is q ∷ sym y_is q ∷ sym z_is q ∷ []))) ∙ only in
      let same = same_scalar k t (second_closed K n s t none opened) in
      ap (argument_value K) y_is ∙ same ∙ ap (argument_value L) (sym y_is)
  exponent_same [] shaped result only = no shaped
  exponent_same (x ∷ []) shaped result only = no (and_second (has_shape I x) false shaped)
  exponent_same (x ∷ y ∷ []) shaped result only =
      no (and_second (has_shape I y) false (and_second (has_shape I x) (has_shape I y && false) shaped))
  exponent_same (x ∷ y ∷ z ∷ w ∷ xs) shaped result only =
      no (and_second (has_shape I z) false (and_second (has_shape I y) (has_shape I z && false) (and_second (has_shape I x) (has_shape I y && (has_shape I z && false)) shaped)))

  known_power : (xs : List Argument) → have_shapes (row_at IntPow).shapes xs ≡ true
      → IsResult K xs n (result_of (row_at IntPow))
      → filter (is_open K) (flat_map terms_in xs) ≡ Var n ∷ []
      → list_any (is_unknown L xs) (row_at IntPow).wide ≡ list_any (is_unknown K xs) (row_at IntPow).wide
  unfolding row_at
  known_power xs shaped result only =
      λ i. option_map_or (λ b. int_lt b (pos 0)) (option_and_then number_of_value (sym (exponent_same xs shaped result only) i)) false || false

  -- A constraint that leaves a value to its result, its only open scalar, isn't unknown.
  pub power_known : (xs : List Argument) (r : Row) → HasNoOtherPower r → have_shapes r.shapes xs ≡ true
      → IsResult K xs n (result_of r) → filter (is_open K) (flat_map terms_in xs) ≡ Var n ∷ []
      → is_beyond K xs r ≡ false → state_of_row L xs (Some r) ≡ Unknown → ⊥
  power_known xs r (inl sums) shaped result only fit e = sums_are_known L xs r sums e
  power_known xs r (inr is) shaped result only fit e =
      let unknown : list_any (is_unknown L xs) r.wide ≡ true = unknown_by L xs r e in
      let same : list_any (is_unknown L xs) r.wide ≡ list_any (is_unknown K xs) r.wide =
      subst (λ q. have_shapes q.shapes xs ≡ true → IsResult K xs n (result_of q) → list_any (is_unknown L xs) q.wide ≡ list_any (is_unknown K xs) q.wide) (sym is) (λ s t. known_power xs s t only) shaped result in
      no' (sym unknown ∙ same ∙ none_unknown K xs r fit)
