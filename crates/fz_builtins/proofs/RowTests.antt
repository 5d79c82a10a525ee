-- A row's test at the arguments, each read as its kind asks, is whether it holds of the values
-- given.
use Rattle.std.proofs.Common.{◌≡◌, ℕ, zero, suc, ◌+◌, ℤ, Bool, true, false, cond, ◌||◌, List, [], ◌∷◌, Option, None, Some, IfNone, IfSome, Result as Answer, Ok, Err, IfOk, slice_get, slice_set, refl, sym, ap, ◌∙◌, arith, FitsSigned, to_z, of_z}
use Rattle.std.specs.Int.{w128}
use Rattle.std.proofs.lemmas.Int.{to_z-of_z}
use Rattle.std.proofs.Math.Bool.{or-false, and_comm}
use Rattle.std.specs.List.{list_any}
use Rattle.std.specs.Option.{option_map_or}
use Rattle.std.specs.FinSet as sets
use Rattle.fz_globals.specs.of_meaning.of_base.Sets.{NumberSet}
use Rattle.fz_globals.specs.of_meaning.of_base.declared.value.Value.{Value}
use Rattle.fz_globals.specs.of_meaning.of_base.declared.value.Value.TheVariants.{Int, Bool as Truth, Set}
use Rattle.fz_globals.specs.of_meaning.declared.kind.Kind.{Kind}
use Rattle.fz_globals.specs.of_meaning.declared.kind.Kind.TheVariants.{Int as IntKind, Bool as BoolKind, Set as SetKind}
use Rattle.fz_globals.specs.of_meaning.Relations.{◌=ℤ◌, ◌=ᴮ◌, ◌=ˢ◌}
use Rattle.fz_globals.proofs.of_meaning.Values.{same_int, int_itself, same_truth}
use Rattle.fz_builtins.specs.declared.outcome.Outcome.TheVariants as outcomes
use Rattle.fz_globals.specs.of_meaning.Builtins.{Row, Shape, Test, passes, read}
use Rattle.fz_globals.specs.of_meaning.Builtins.Shape.{ScalarOf, ArrayOf}
use Rattle.fz_globals.specs.of_meaning.Builtins.ArgValue.{OneValue}
use Rattle.fz_globals.specs.of_meaning.Meaning.{Argument, Partial, row_holds}
use Rattle.fz_globals.proofs.of_meaning.TableRows.{plain_ints, plain_bools, plain_sets}
use Rattle.fz_globals.specs.of_kernel.Given.{given, given_from, given_values, int_at, bool_at, set_at, ints_at, bools_at, sets_at}
use Rattle.fz_builtins.specs.Outcomes.{argument_at, outcome_beyond, reads_beyond, row_outcome, sum_outcome, test_from}
use Rattle.fz_globals.specs.of_meaning.Results.{Result}
use Rattle.fz_builtins.specs.declared.outcome.Outcome.{Outcome}
use Rattle.fz_builtins.specs.Said.{HasNone, HasNoneIfTold, HasResult, IsSaid, is_result, row_with, test_with}
use Rattle.fz_builtins.specs.declared.said.Said.{Said}

pub reads : (K : Partial) (xs : List Argument) (i : ℕ) (s : Shape)
    → read s (given K xs i s) ≡ Some (argument_at K xs i s)
reads K xs i (ScalarOf IntKind) = refl
reads K xs i (ScalarOf BoolKind) = refl
reads K xs i (ScalarOf SetKind) = refl
reads K xs i (ArrayOf IntKind) = plain_ints (ints_at K xs i)
reads K xs i (ArrayOf BoolKind) = plain_bools (bools_at K xs i)
reads K xs i (ArrayOf SetKind) = plain_sets (sets_at K xs i)

passes_at : (K : Partial) (xs : List Argument) (i : ℕ) (ss : List Shape) (t : Test ss)
    → test_from i K xs ss t ≡ passes ss t (given_from K xs i ss)
passes_at K xs i [] t = refl
passes_at K xs i (s ∷ ss) t = rw (reads K xs i s) (passes_at K xs (suc i) ss (t (argument_at K xs i s)))

pub outcome_is : (r : Row) (K : Partial) (xs : List Argument)
    → row_outcome r K xs ≡ cond (reads_beyond r K xs) (outcome_beyond r K xs)
    (outcomes.Truth (row_holds r (given_values K r.shapes xs)))
unfolding row_outcome
outcome_is r K xs = ap (λ b. cond (reads_beyond r K xs) (outcome_beyond r K xs) (outcomes.Truth b)) (passes_at K xs 0 r.shapes r.holds)

-- ---- with a value in the place of a scalar

module _ (K : Partial) (xs : List Argument) where
  pub with_is : (j : ℕ) (ss : List Shape) (t : Test ss) (i : ℕ) (k : Kind)
      → slice_get ss i ≡ Some (ScalarOf k) → (v : Value)
      → test_with j K xs ss t i v ≡ passes ss t (slice_set (given_from K xs j ss) i (OneValue v))
  with_is j [] t i k e v = cc
  with_is j (s ∷ ss) t zero k e v =
      λ p. option_map_or (λ x. passes_at K xs (suc j) ss (t x) p) (read s (OneValue v)) false
  with_is j (s ∷ ss) t (suc i) k e v =
      rw (reads K xs j s) (with_is (suc j) ss (t (argument_at K xs j s)) i k e v)

  abbrev pub scalar_at : ℕ → Kind → Value
  scalar_at i IntKind = Int (int_at K xs i)
  scalar_at i BoolKind = Truth (bool_at K xs i)
  scalar_at i SetKind = Set (set_at K xs i)

  -- the scalar itself is there
  itself : (j n i : ℕ) (ss : List Shape) (t : Test ss) (k : Kind) → n ≡ j + i
      → slice_get ss i ≡ Some (ScalarOf k)
      → test_with j K xs ss t i (scalar_at n k) ≡ test_from j K xs ss t
  itself j n i [] t k at e = cc
  itself j n zero (ScalarOf IntKind ∷ ss) t IntKind at e =
      let here : n ≡ j = omega arith in rw here refl
  itself j n zero (ScalarOf BoolKind ∷ ss) t BoolKind at e =
      let here : n ≡ j = omega arith in rw here refl
  itself j n zero (ScalarOf SetKind ∷ ss) t SetKind at e =
      let here : n ≡ j = omega arith in rw here refl
  itself j n zero (s ∷ ss) t k at e = cc
  itself j n (suc i) (s ∷ ss) t k at e =
      itself (suc j) n i ss (t (argument_at K xs j s)) k (omega arith) e

  -- a row with a result holds where the scalar there has the value
  pub holds_at : (r : Row) (i : ℕ) (k : Kind) → HasResult r false K xs i k → (holds : Bool)
      → holds ≡ row_with r K xs i (scalar_at i k) → outcomes.Truth holds ≡ row_outcome r K xs
  unfolding row_outcome
  holds_at r i k h holds e =
      ap outcomes.Truth (e ∙ itself 0 i i r.shapes r.holds k (omega arith) h.1)
      ∙ ap (λ b. cond b (outcome_beyond r K xs) (outcomes.Truth (test_from 0 K xs r.shapes r.holds)))
      (sym h.2)

-- ---- one test as the other

pub same_int_either_way : (x y : ℤ) → (x =ℤ y) ≡ (y =ℤ x)
same_int_either_way x y =
    same_truth (x =ℤ y) (y =ℤ x)
    (λ e. ap (λ z. y =ℤ z) (same_int x y e) ∙ int_itself y)
    (λ e. ap (λ z. x =ℤ z) (same_int y x e) ∙ int_itself x)

pub same_bool_either_way : (x y : Bool) → (x =ᴮ y) ≡ (y =ᴮ x)
same_bool_either_way true true = refl
same_bool_either_way true false = refl
same_bool_either_way false true = refl
same_bool_either_way false false = refl

pub same_set_either_way : (x y : NumberSet) → (x =ˢ y) ≡ (y =ˢ x)
same_set_either_way x y = and_comm (sets.is_subset x y) (sets.is_subset y x)

pub value_is : {A : Type 0} (same : A → A → Bool) {x y : A} → x ≡ y → (v : A)
    → same v y ≡ same v x
value_is same e v = ap (same v) (sym e)

-- a number as the code passes it
pub number_is : {x y : ℤ} → x ≡ y → FitsSigned w128 x → (v : ℤ)
    → (v =ℤ y) ≡ (v =ℤ to_z w128 (of_z w128 x))
number_is {x} e fits v = ap (λ n. v =ℤ n) (sym e ∙ sym (to_z-of_z w128 x fits))

pub index_is : (test : ℤ → Bool) (o : Option ℤ) → IfSome o (λ n. (v : ℤ) → test v ≡ (v =ℤ n))
    → IfNone o ((v : ℤ) → test v ≡ false) → (v : ℤ) → test v ≡ is_result ◌=ℤ◌ o v
index_is test None some none v = none v
index_is test (Some n) some none v = some v

pub ok_index_is : {E : Type 0} (test : ℤ → Bool) (r : Answer (Option ℤ) E)
    → IfOk r (λ o. IfSome o (λ n. (v : ℤ) → test v ≡ (v =ℤ n)))
    → IfOk r (λ o. IfNone o ((v : ℤ) → test v ≡ false))
    → IfOk r (λ o. (v : ℤ) → test v ≡ is_result ◌=ℤ◌ o v)
ok_index_is test (Ok o) some none = index_is test o some none
ok_index_is test (Err e) some none = tt

module _ {A : Type 0} (same : A → A → Bool) (either_way : (x y : A) → same x y ≡ same y x) where
  either : (o : Option A) (v : A)
      → option_map_or (λ x. same x v) o false ≡ is_result same o v
  either None v = refl
  either (Some x) v = either_way x v

  pub element_is : {o p : Option A} → o ≡ p → (v : A)
      → option_map_or (λ x. same x v) p false ≡ is_result same o v
  element_is {o} e v = ap (λ q. option_map_or (λ x. same x v) q false) (sym e) ∙ either o v

-- where a row has one sum, or two
pub one_sum : (leaves holds : Bool) → sum_outcome leaves holds ≡ sum_outcome (leaves || false) holds
one_sum leaves holds = ap (λ b. sum_outcome b holds) (sym (or-false leaves))

pub two_sums : (one other holds : Bool)
    → sum_outcome (one || other) holds ≡ sum_outcome (one || (other || false)) holds
two_sums one other holds = ap (λ b. sum_outcome (one || b) holds) (sym (or-false other))

-- a row that has no result
pub none_told : (o : Outcome) (r : Result) → HasNone r → HasNoneIfTold o r
none_told (outcomes.Truth b) r h = h
none_told outcomes.TooLarge r h = tt
none_told outcomes.Unknown r h = tt

-- whichever of two arguments is asked for, where it is said for either
pub said_at : {E : Type 0} (r : Row) (K : Partial) (xs : List Argument) (first : Bool)
    (o : Answer Said E) → IfOk o (λ s. (f : Bool) → IsSaid r f K xs s) → IfOk o (IsSaid r first K xs)
said_at r K xs first (Ok s) h = h first
said_at r K xs first (Err e) h = tt
