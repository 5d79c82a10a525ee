-- The Boolean that a reified form leaves: whether the base row holds.
use Rattle.std.proofs.Common.{◌≡◌, ℕ, suc, Bool, true, false, cond, List, [], ◌∷◌, ◌++◌, length, Some, refl, sym, ap, subst, ◌∙◌, slice_get, slice_set}
use Rattle.std.specs.Prelude.{⊤}
use Rattle.std.specs.List.{list_any}
use Rattle.fz_builtins.specs.of_meaning.of_base.declared.value.Value.{Value}
use Rattle.fz_builtins.specs.of_meaning.of_base.declared.value.Value.TheVariants.{Bool as Truth}
use Rattle.fz_builtins.specs.of_meaning.declared.kind.Kind.TheVariants.{Bool as BoolKind}
use Rattle.fz_builtins.specs.of_meaning.Relations.{◌=ᴮ◌}
use Rattle.fz_builtins.specs.of_meaning.Builtins.{Shape, Row, reified, with_bool, row_at}
use Rattle.fz_builtins.specs.of_meaning.Results.{result_of}
use Rattle.fz_builtins.specs.of_meaning.Builtins.Shape.{ScalarOf}
use Rattle.fz_builtins.specs.of_meaning.Builtins.ArgValue.{OneValue}
use Rattle.fz_builtins.specs.of_meaning.Meaning.{Argument, Partial, row_holds}
use Rattle.fz_builtins.proofs.of_meaning.Values.{bool_itself}
use Rattle.fz_builtins.specs.of_meaning.Known.{form_at, known_row}
use Rattle.fz_builtins.specs.of_meaning.declared.known.Form.TheVariants.{Reified as FormReified, Implied as FormImplied}
use Rattle.fz_builtins.specs.of_meaning.declared.known.Known.{Known}
use Rattle.fz_builtins.proofs.of_meaning.TableRows.{reified_holds}
use Rattle.fz_builtins.proofs.of_meaning.WithTruth.{reified_result}
use Rattle.fz_builtins.specs.of_kernel.Given.{given, given_from, given_values, read_unknown}
use Rattle.fz_builtins.specs.Outcomes.{outcome_beyond, reads_beyond, row_outcome}
use Rattle.fz_builtins.proofs.FormOutcomes.{all_read}
use Rattle.fz_builtins.proofs.RowTests.{outcome_is}
use Rattle.fz_builtins.specs.declared.outcome.Outcome.TheVariants.{Truth as TruthOutcome, TooLarge, Unknown}
use Rattle.fz_builtins.specs.declared.outcome.Outcome.{Outcome}
use Rattle.fz_builtins.proofs.of_meaning.Powers.{only_place}
use Rattle.fz_model.specs.Left.{IsLeftAt, IsPlaceOf, holds_with}

module _ (K : Partial) (xs : List Argument) where
  with_truth : (ss : List Shape) (j : ℕ) (v : Value) → slice_set (given_from K xs j (with_bool ss))
      (length ss) (OneValue v) ≡ given_from K xs j ss ++ OneValue v ∷ []
  with_truth [] j v = refl
  with_truth (s ∷ ss) j v = ap (λ vs. given K xs j s ∷ vs) (with_truth ss (suc j) v)

  reified_with : (r : Row) (t : Bool) → holds_with (reified r) K xs (length r.shapes) (Truth t)
      ≡ (t =ᴮ row_holds r (given_values K r.shapes xs))
  reified_with r t = ap (row_holds (reified r)) (with_truth r.shapes 0 (Truth t)) ∙ reified_holds r (given_values K r.shapes xs) t (all_read K xs 0 r.shapes)

  last_shape : (ss : List Shape) → slice_get (with_bool ss) (length ss) ≡ Some (ScalarOf BoolKind)
  last_shape [] = refl
  last_shape (s ∷ ss) = last_shape ss

  pub reified_row : (r : Row) (i : ℕ) (t : Bool) → i ≡ length r.shapes
      → t ≡ row_holds r (given_values K r.shapes xs)
      → IsLeftAt (reified r) K xs i (Some (Truth t))
  reified_row r i t here e = rw here (record {
    kind = BoolKind;
    shape = last_shape r.shapes;
    left = (refl, tt, reified_with r t ∙ ap (λ b. t =ᴮ b) (sym e) ∙ bool_itself t);
  })

-- ---- the outcome of a row

told : (leaves unknown holds t : Bool)
    → cond leaves (cond unknown Unknown TooLarge) (TruthOutcome holds) ≡ TruthOutcome t
    → (leaves ≡ false) × (t ≡ holds)
told true true holds t e = cc
told true false holds t e = cc
told false unknown holds t e = (refl, let same : holds ≡ t = cc in sym same)

abbrev pub IsTold : Outcome → Type 0
IsTold (TruthOutcome t) = ⊤
IsTold TooLarge = ⊥
IsTold Unknown = ⊥

beyond : (leaves : Bool) (o : Outcome) (holds : Bool) (p : Outcome)
    → cond leaves o (TruthOutcome holds) ≡ p → (IsTold p → ⊥) → leaves ≡ true
beyond true o holds p e not_told = refl
beyond false o holds p e not_told = absurd (not_told (subst IsTold e tt))

module _ (r : Row) (K : Partial) (xs : List Argument) where
  pub told_truth : (t : Bool) → row_outcome r K xs ≡ TruthOutcome t
      → (reads_beyond r K xs ≡ false) × (t ≡ row_holds r (given_values K r.shapes xs))
  told_truth t e = told (reads_beyond r K xs) (list_any (read_unknown K xs) r.wide) (row_holds r (given_values K r.shapes xs)) t (sym (outcome_is r K xs) ∙ e)

  -- an outcome that doesn't tell whether the row holds
  pub told_nothing : (o : Outcome) → row_outcome r K xs ≡ o → (IsTold o → ⊥)
      → reads_beyond r K xs ≡ true
  told_nothing o e not_told = beyond (reads_beyond r K xs) (outcome_beyond r K xs) (row_holds r (given_values K r.shapes xs)) o (sym (outcome_is r K xs) ∙ e) not_told

-- ---- a known row that is a reified form

pub reified_place : (known : Known) (i : ℕ) → known.form ≡ FormReified
    → IsPlaceOf (result_of (known_row known)) i → i ≡ length (row_at known.builtin).shapes
reified_place known i form place =
    let r : Row = row_at known.builtin in
    only_place (length r.shapes) i (subst (λ o. IsPlaceOf o i) (ap (λ f. result_of (form_at f r)) form ∙ reified_result r) place)

pub no_implied : (known : Known) (i : ℕ) → known.form ≡ FormImplied
    → IsPlaceOf (result_of (known_row known)) i → ⊥
unfolding result_of
no_implied known i implied place = subst (λ f. IsPlaceOf (result_of (form_at f (row_at known.builtin))) i) implied place
