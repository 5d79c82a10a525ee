-- The outcome of a reified form.
use Rattle.std.proofs.Common.{◌≡◌, ℕ, suc, ◌+◌, Bool, true, false, cond, not, ◌||◌, List, [], ◌∷◌, ◌++◌, length, refl, sym, ap, ◌∙◌, arith}
use Rattle.std.specs.Prelude.{IsSome}
use Rattle.std.specs.List.{list_any}
use Rattle.fz_globals.specs.of_meaning.of_base.declared.value.Value.TheVariants.{Bool as BoolValue}
use Rattle.fz_builtins.specs.of_meaning.Relations.{◌=ᴮ◌}
use Rattle.fz_builtins.specs.of_meaning.Builtins.{Shape, Row, implied, reified, with_bool, read}
use Rattle.fz_builtins.specs.of_meaning.declared.known.Form.{Form}
use Rattle.fz_builtins.specs.of_meaning.declared.known.Form.TheVariants.{Base, Reified, Implied}
use Rattle.fz_builtins.specs.of_meaning.Known.{HasTruth, form_at}
use Rattle.fz_builtins.specs.of_meaning.Builtins.ArgValue.{OneValue}
use Rattle.fz_builtins.specs.of_meaning.Meaning.{Argument, Partial, row_holds}
use Rattle.fz_builtins.proofs.of_meaning.TableRows.{AreRead, implied_holds, reified_holds}
use Rattle.fz_builtins.specs.of_kernel.Given.{given, given_from, given_values, bool_at, read_unknown}
use Rattle.fz_builtins.specs.declared.outcome.Outcome.TheVariants.{Truth, TooLarge, Unknown}
use Rattle.fz_builtins.specs.Outcomes.{compared, implied_by, outcome_beyond, reads_beyond, row_outcome}
use Rattle.fz_builtins.proofs.RowTests.{outcome_is, reads}

-- the values that are given are read as they are
given_read : (K : Partial) (xs : List Argument) (i : ℕ) (s : Shape)
    → IsSome (read s (given K xs i s))
given_read K xs i s = rw (reads K xs i s) refl

pub all_read : (K : Partial) (xs : List Argument) (i : ℕ) (ss : List Shape)
    → AreRead ss (given_from K xs i ss)
all_read K xs i [] = tt
all_read K xs i (s ∷ ss) = (given_read K xs i s, all_read K xs (suc i) ss)

-- with the control variable at the end
with_last : (K : Partial) (xs : List Argument) (i : ℕ) (ss : List Shape)
    → given_from K xs i (with_bool ss)
    ≡ given_from K xs i ss ++ OneValue (BoolValue (bool_at K xs (length ss + i))) ∷ []
with_last K xs i [] = let place : i ≡ length {A = Shape} [] + i = omega arith in ap (λ n. OneValue (BoolValue (bool_at K xs n)) ∷ []) place
with_last K xs i (s ∷ ss) =
    let place : length ss + suc i ≡ length (s ∷ ss) + i = omega arith in
    ap (λ vs. given K xs i s ∷ vs) (with_last K xs (suc i) ss ∙ ap (λ n. given_from K xs (suc i) ss ++ OneValue (BoolValue (bool_at K xs n)) ∷ []) place)

pub form_shapes : (f : Form) → HasTruth f → (r : Row) → (form_at f r).shapes ≡ with_bool r.shapes
form_shapes Base h r = absurd h
form_shapes Reified h r = refl
form_shapes Implied h r = refl

module _ (r : Row) (K : Partial) (xs : List Argument) where
  said : Bool
  said = bool_at K xs (length r.shapes)

  holds : Bool
  holds = row_holds r (given_values K r.shapes xs)

  last_given : given_values K (with_bool r.shapes) xs
      ≡ given_values K r.shapes xs ++ OneValue (BoolValue (bool_at K xs (length r.shapes))) ∷ []
  last_given =
      let place : length r.shapes + 0 ≡ length r.shapes = omega arith in
      with_last K xs 0 r.shapes ∙ ap (λ n. given_values K r.shapes xs ++ OneValue (BoolValue (bool_at K xs n)) ∷ []) place

  compared_told : (b n : Bool) → cond b (cond n Unknown TooLarge) (Truth (said =ᴮ holds))
      ≡ compared said (cond b (cond n Unknown TooLarge) (Truth holds))
  compared_told true true = refl
  compared_told true false = refl
  compared_told false n = refl

  implied_told : (b n : Bool) → cond b (cond n Unknown TooLarge) (Truth (not said || holds))
      ≡ implied_by said (cond b (cond n Unknown TooLarge) (Truth holds))
  implied_told true true = refl
  implied_told true false = refl
  implied_told false n = refl

  -- the outcome of a reified form is what it says of the outcome of its base row
  pub reified_outcome : row_outcome (reified r) K xs
      ≡ compared (bool_at K xs (length r.shapes)) (row_outcome r K xs)
  unfolding said holds
  reified_outcome =
      outcome_is (reified r) K xs
      ∙ ap (λ b. cond (reads_beyond r K xs) (outcome_beyond r K xs) (Truth b)) (ap (row_holds (reified r)) last_given ∙ reified_holds r (given_values K r.shapes xs) said (all_read K xs 0 r.shapes))
      ∙ compared_told (reads_beyond r K xs) (list_any (read_unknown K xs) r.wide) ∙ ap (compared said) (sym (outcome_is r K xs))

  pub implied_outcome : row_outcome (implied r) K xs
      ≡ implied_by (bool_at K xs (length r.shapes)) (row_outcome r K xs)
  unfolding said holds
  implied_outcome =
      outcome_is (implied r) K xs
      ∙ ap (λ b. cond (reads_beyond r K xs) (outcome_beyond r K xs) (Truth b)) (ap (row_holds (implied r)) last_given ∙ implied_holds r (given_values K r.shapes xs) said (all_read K xs 0 r.shapes))
      ∙ implied_told (reads_beyond r K xs) (list_any (read_unknown K xs) r.wide) ∙ ap (implied_by said) (sym (outcome_is r K xs))
