-- From what a row says to what is left to its result.
use Rattle.std.proofs.Common.{◌≡◌, ℕ, zero, suc, ℤ, Bool, true, false, nat_eq, List, [], ◌∷◌, Option, Some, None, refl, sym, ap, subst, ◌∙◌, ◌⊎◌, inl, inr, Contains, option_map, arith}
use Rattle.fz_builtins.specs.of_meaning.of_base.Sets.{NumberSet}
use Rattle.fz_builtins.specs.of_meaning.of_base.declared.value.Value.{Value}
use Rattle.fz_builtins.specs.of_meaning.of_base.declared.value.Value.TheVariants.{Int, Bool as Truth, Set}
use Rattle.fz_builtins.specs.of_meaning.declared.kind.Kind.{Kind}
use Rattle.fz_builtins.specs.of_meaning.declared.kind.Kind.TheVariants.{Int as IntKind, Bool as BoolKind, Set as SetKind}
use Rattle.fz_builtins.specs.of_meaning.Relations.{◌=ℤ◌, ◌=ᴮ◌, ◌=ˢ◌}
use Rattle.fz_builtins.specs.of_meaning.Builtins.{Row}
use Rattle.fz_builtins.specs.of_meaning.Results.{Result, result_of}
use Rattle.fz_builtins.specs.of_meaning.Results.Result.{NoResult, Places, UnitTerm}
use Rattle.fz_builtins.specs.of_meaning.Meaning.{Argument, Partial}
use Rattle.fz_builtins.proofs.of_meaning.Values.{no, bool_itself, set_itself}
use Rattle.fz_builtins.specs.Outcomes.{reads_beyond}
use Rattle.fz_builtins.specs.declared.outcome.Outcome.{Outcome}
use Rattle.fz_builtins.specs.declared.outcome.Outcome.TheVariants as outcome
use Rattle.fz_builtins.proofs.of_meaning.Powers.{only_place}
use Rattle.fz_builtins.specs.Said.{HasNone, HasResult, IsSaid, asked_place, is_result, row_with}
use Rattle.fz_builtins.specs.declared.said.Said.{Said}
use Rattle.fz_builtins.specs.declared.said.Said.TheVariants as said
use Rattle.fz_builtins.proofs.RowTests.{with_is}
use Rattle.fz_model.specs.Left.{IsLeft, IsLeftAt, IsLeftIfComputed, IsLeftNumber, IsLeftPlain, IsOfKind, IsPlaceOf, holds_with}
use Rattle.fz_model.proofs.Reified.{told_nothing}

-- ---- plain values as values

pub number_left : (test : Value → Bool) (o : Option ℤ) → IsLeftNumber (λ n. test (Int n)) o
    → IsLeft IntKind test (option_map Int o)
number_left test (Some n) h = (refl, h.0, h.1)
number_left test None h = none
  where
    none : IsLeft IntKind test None
    none (Int n) is fits passes = h n fits passes
    none (Truth b) is fits passes = cc
    none (Set s) is fits passes = cc

truth_left : (test : Value → Bool) (o : Option Bool) → IsLeftPlain (λ b. test (Truth b)) o
    → IsLeft BoolKind test (option_map Truth o)
truth_left test (Some b) h = (refl, tt, h)
truth_left test None h = none
  where
    none : IsLeft BoolKind test None
    none (Int n) is fits passes = cc
    none (Truth b) is fits passes = h b passes
    none (Set s) is fits passes = cc

set_left : (test : Value → Bool) (o : Option NumberSet) → IsLeftPlain (λ s. test (Set s)) o
    → IsLeft SetKind test (option_map Set o)
set_left test (Some s) h = (refl, tt, h)
set_left test None h = none
  where
    none : IsLeft SetKind test None
    none (Int n) is fits passes = cc
    none (Truth b) is fits passes = cc
    none (Set s) is fits passes = h s passes

-- ---- what passes one test passes the other

pub same_numbers : (test other : ℤ → Bool) (o : Option ℤ) → ((n : ℤ) → other n ≡ test n)
    → IsLeftNumber test o → IsLeftNumber other o
same_numbers test other (Some n) same h = (h.0, same n ∙ h.1)
same_numbers test other None same h = λ n fits passes. h n fits (sym (same n) ∙ passes)

-- the value that is told passes, and no other
the_result : {A : Type 0} (same : A → A → Bool) → ((x : A) → same x x ≡ true) → (test : A → Bool)
    (o : Option A) → ((x : A) → test x ≡ is_result same o x) → IsLeftPlain test o
the_result same itself test (Some x) is = is x ∙ itself x
the_result same itself test None is = λ x passes. no (sym (is x) ∙ passes)

-- ---- where the result is

either_place : (m n i : ℕ) → Contains (m ∷ n ∷ []) i → (i ≡ m) ⊎ (i ≡ n)
either_place m n i (zero, below, e) = inl (sym e)
either_place m n i (suc zero, below, e) = inr (sym e)
either_place m n i (suc (suc k), below, e) = absurd (omega arith)

placed : (o : Result) (i j : ℕ) → IsPlaceOf o i → asked_place (nat_eq i 0) o ≡ Some j → j ≡ i
placed NoResult i j place e = absurd place
placed UnitTerm i j place e = absurd place
placed (Places (n ∷ [])) i j place e =
    let same : n ≡ j = cc in sym same ∙ sym (only_place n i place)
placed (Places (zero ∷ suc zero ∷ [])) i j place e =
    elim (either_place 0 1 i place) [
      | inl first ↦ let is = rw first at e in let same : 0 ≡ j = cc in sym same ∙ sym first
      | inr second ↦ let is = rw second at e in let same : 1 ≡ j = cc in sym same ∙ sym second
    ]
placed (Places is) i j place e = cc

pub none_there : (o : Result) (i : ℕ) → HasNone o → IsPlaceOf o i → ⊥
none_there NoResult i none place = place
none_there (Places is) i none place = none
none_there UnitTerm i none place = place

module _ (r : Row) (K : Partial) (xs : List Argument) (i : ℕ) (place : IsPlaceOf (result_of r) i) where
  abbrev first : Bool
  first = nat_eq i 0

  -- what is left where each number can be computed
  pub computed : (o : Option Value) → reads_beyond r K xs ≡ false → IsLeftAt r K xs i o
      → IsLeftIfComputed r K xs i o
  computed o fits left = record { left = λ _. left; beyond = λ large. no (sym fits ∙ large) }

  -- a row with a result that tells no value of it has a number that can't be computed
  pub nothing_said : (o : Outcome) → IsSaid r first K xs (said.Whether o)
      → IsLeftIfComputed r K xs i None
  nothing_said (outcome.Truth holds) h = absurd (none_there (result_of r) i h.1 place)
  nothing_said outcome.TooLarge h = record { left = λ fits. no (sym fits ∙ told_nothing r K xs outcome.TooLarge (sym h.0) (λ t. t)); beyond = λ _. refl }
  nothing_said outcome.Unknown h = record { left = λ fits. no (sym fits ∙ told_nothing r K xs outcome.Unknown (sym h.0) (λ t. t)); beyond = λ _. refl }

  shape_there : (j : ℕ) (k : Kind) → HasResult r first K xs j k → IsOfKind r.shapes i k
  shape_there j k has = subst (λ n. IsOfKind r.shapes n k) (placed (result_of r) i j place has.0) has.1

  -- a value there, as it is put there and as it is read
  value_there : (j : ℕ) (k : Kind) → HasResult r first K xs j k → (v : Value)
      → holds_with r K xs i v ≡ row_with r K xs j v
  value_there j k has v =
      sym (with_is K xs 0 r.shapes r.holds i k (shape_there j k has) v)
      ∙ ap (λ n. row_with r K xs n v) (sym (placed (result_of r) i j place has.0))

  pub number_said : (j : ℕ) (o p : Option ℤ) → IsSaid r first K xs (said.Number j o)
      → IsLeftNumber (is_result ◌=ℤ◌ o) p → IsLeftIfComputed r K xs i (option_map Int p)
  number_said j o p h left = computed (option_map Int p) h.0.2 (record {
    kind = IntKind;
    shape = shape_there j IntKind h.0;
    left = number_left (holds_with r K xs i) p (same_numbers (is_result ◌=ℤ◌ o)
        (λ n. holds_with r K xs i (Int n)) p (λ n. value_there j IntKind h.0 (Int n) ∙ h.1 n) left);
  })

  pub truth_said : (j : ℕ) (o : Option Bool) → IsSaid r first K xs (said.Boolean j o)
      → IsLeftIfComputed r K xs i (option_map Truth o)
  truth_said j o h = computed (option_map Truth o) h.0.2 (record {
    kind = BoolKind;
    shape = shape_there j BoolKind h.0;
    left = truth_left (holds_with r K xs i) o (the_result ◌=ᴮ◌ bool_itself
        (λ b. holds_with r K xs i (Truth b)) o (λ b. value_there j BoolKind h.0 (Truth b) ∙ h.1 b));
  })

  pub set_said : (j : ℕ) (o : Option NumberSet) → HasResult r first K xs j SetKind
      → ((s : NumberSet) → row_with r K xs j (Set s) ≡ is_result ◌=ˢ◌ o s)
      → IsLeftIfComputed r K xs i (option_map Set o)
  set_said j o has is = computed (option_map Set o) has.2 (record {
    kind = SetKind;
    shape = shape_there j SetKind has;
    left = set_left (holds_with r K xs i) o (the_result ◌=ˢ◌ set_itself
        (λ s. holds_with r K xs i (Set s)) o (λ s. value_there j SetKind has (Set s) ∙ is s));
  })
