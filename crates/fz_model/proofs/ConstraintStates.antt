-- From readiness and outcome to the state of a constraint.
use Rattle.std.proofs.Common.{◌≡◌, Bool, true, false, ◌&&◌, ◌||◌, List, length, map, [], ◌∷◌, Option, Some, None, cond, refl, sym, ap, ◌∙◌}
use Rattle.std.specs.Prelude.{is_some, find}
use Rattle.std.specs.List.{list_all, list_any}
use Rattle.fz_builtins.specs.of_meaning.declared.state.State.{State}
use Rattle.fz_builtins.specs.of_meaning.declared.term.Term.{Term}
use Rattle.fz_builtins.specs.of_meaning.declared.state.State.TheVariants.{Holds, Fails, NoValue, TooLarge, Unknown}
use Rattle.fz_builtins.specs.of_meaning.Builtins.{Row, ArgValue, builtins, is_named, row_at, rows}
use Rattle.fz_builtins.specs.of_meaning.Meaning.{Argument, Partial, Posted, argument_values, fits, have_shapes, row_holds, row_of, table_name, values}
use Rattle.fz_builtins.specs.of_meaning.States.{is_beyond, is_unknown, judged, judged_by, state_of_row, state_of_values}
use Rattle.fz_builtins.proofs.of_meaning.Values.{no, no', and_first, and_second}
use Rattle.fz_builtins.specs.of_meaning.declared.known.Form.{Form}
use Rattle.fz_builtins.specs.of_meaning.declared.known.Form.TheVariants.{Base, Reified, Implied}
use Rattle.fz_builtins.specs.of_meaning.declared.known.Known.{Known}
use Rattle.fz_builtins.specs.of_meaning.Known.{form_at, known_row}
use Rattle.fz_builtins.proofs.of_meaning.FoundRows.{each_builtin}
use Rattle.fz_builtins.specs.of_kernel.Given.{are_read, are_given, has_value, given_values, read_unknown}
use Rattle.fz_builtins.proofs.of_kernel.Ready.{ready_values, values_given, values_some, wrong_kind}
use Rattle.fz_builtins.proofs.of_kernel.Sums.{are_ints, leave_are, numbers_with_bool, unknown_are}
use Rattle.fz_builtins.specs.declared.outcome.Outcome.TheVariants as outcome
use Rattle.fz_builtins.specs.Outcomes.{outcome_beyond, reads_beyond, row_outcome, told}
use Rattle.fz_builtins.proofs.RowTests.{outcome_is}

-- ---- a row computes with numbers

all_ints : list_all (λ b. list_all (are_ints (row_at b).shapes) (row_at b).wide) builtins ≡ true
unfolding row_at builtins
all_ints = refl

form_ints : (f : Form) (r : Row) → list_all (are_ints r.shapes) r.wide ≡ true
    → list_all (are_ints (form_at f r).shapes) (form_at f r).wide ≡ true
form_ints Base r h = h
form_ints Reified r h = numbers_with_bool r.shapes r.wide h
form_ints Implied r h = numbers_with_bool r.shapes r.wide h

known_ints : (k : Known) → list_all (are_ints (known_row k).shapes) (known_row k).wide ≡ true
known_ints k = form_ints k.form (row_at k.builtin) (each_builtin (λ b. list_all (are_ints (row_at b).shapes) (row_at b).wide) all_ints k.builtin)

-- ---- an array's elements

pub any_after : {A B : Type 0} (f : B → Bool) (g : A → B) (xs : List A)
    → list_any (λ x. f (g x)) xs ≡ list_any f (map g xs)
any_after f g [] = refl
any_after f g (x ∷ xs) = ap (λ b. f (g x) || b) (any_after f g xs)

abbrev all_there : {A : Type 0} → Option A → State
all_there o = judged_by (λ vs. true) o

by_values : {A : Type 0} (o : Option A) → cond (is_some o) Holds NoValue ≡ all_there o
by_values None = refl
by_values (Some vs) = refl

pub none_outside : (K : Partial) (ts : List Term) (outside all : Bool) → outside ≡ false
    → all ≡ list_all (has_value K) ts
    → cond all Holds NoValue ≡ cond outside Fails (all_there (values K ts))
none_outside K ts outside all none e =
    ap (λ b. cond b Holds NoValue) (e ∙ sym (values_some K ts)) ∙ by_values (values K ts) ∙ ap (λ b. cond b Fails (all_there (values K ts))) (sym none)

-- ---- the states

module _ (k : Known) (K : Partial) (xs : List Argument) (shaped : have_shapes (known_row k).shapes xs ≡ true) where
  pub missing : are_given K xs ≡ false → NoValue ≡ state_of_row K xs (Some (known_row k))
  missing none =
      elim (argument_values K xs) as (λ o. is_some o ≡ false → NoValue ≡ state_of_values K xs (known_row k) o) [
        | None ↦ λ _. refl
        | Some vs ↦ λ e. no' e
      ] (values_given K xs ∙ none)

  as_told : (leaves unknown holds : Bool)
      → told (cond leaves (cond unknown outcome.Unknown outcome.TooLarge) (outcome.Truth holds))
      ≡ cond leaves (cond unknown Unknown TooLarge) (judged holds)
  as_told true true holds = refl
  as_told true false holds = refl
  as_told false unknown holds = refl

  by_outcome : (vs : List ArgValue) (holds : Bool) → holds ≡ row_holds (known_row k) vs
      → told (cond (reads_beyond (known_row k) K xs) (outcome_beyond (known_row k) K xs) (outcome.Truth holds))
      ≡ state_of_values K xs (known_row k) (Some vs)
  by_outcome vs holds e =
      let r = known_row k in
      let leave : reads_beyond r K xs ≡ is_beyond K xs r = sym (leave_are K r.shapes xs shaped r.wide (known_ints k)) in
      let unknown : list_any (read_unknown K xs) r.wide ≡ list_any (is_unknown K xs) r.wide = sym (unknown_are K r.shapes xs shaped r.wide (known_ints k)) in
      as_told (reads_beyond r K xs) (list_any (read_unknown K xs) r.wide) holds
      ∙ (λ i. cond (leave i) (cond (unknown i) Unknown TooLarge) (judged (e i)))

  pub of_wrong_kind : are_read K (known_row k).shapes xs ≡ false → are_given K xs ≡ true
      → told (cond (reads_beyond (known_row k) K xs) (outcome_beyond (known_row k) K xs) (outcome.Truth false))
      ≡ state_of_row K xs (Some (known_row k))
  of_wrong_kind unread all =
      let says = told (cond (reads_beyond (known_row k) K xs) (outcome_beyond (known_row k) K xs) (outcome.Truth false)) in
      elim (argument_values K xs) as (λ o. argument_values K xs ≡ o → is_some o ≡ true → says ≡ state_of_values K xs (known_row k) o) [
        | None ↦ λ _ h. no h
        | Some vs ↦ λ are _. by_outcome vs false (sym (wrong_kind K (known_row k).shapes (known_row k).holds xs vs shaped unread are))
      ] refl (values_given K xs ∙ all)

  pub of_ready : are_read K (known_row k).shapes xs ≡ true
      → told (row_outcome (known_row k) K xs) ≡ state_of_row K xs (Some (known_row k))
  of_ready ready =
      let vs = given_values K (known_row k).shapes xs in
      ap told (outcome_is (known_row k) K xs) ∙ by_outcome vs (row_holds (known_row k) vs) refl
      ∙ ap (state_of_values K xs (known_row k)) (sym (ready_values K (known_row k).shapes xs shaped ready))

-- ---- a constraint has the shapes of its row

pub found_passes : {A : Type 0} (p : A → Bool) (ys : List A) (y : A) → find p ys ≡ Some y → p y ≡ true
found_passes p [] y e = cc
found_passes p (z ∷ ys) y e =
    elim (p z) as (λ b. p z ≡ b → cond b (Some z) (find p ys) ≡ Some y → p y ≡ true) [
      | true ↦ λ h e. let same : z ≡ y = cc in ap p (sym same) ∙ h
      | false ↦ λ _ e. found_passes p ys y e
    ] refl e

pub row_fits : (p : Posted) (r : Row) → row_of p ≡ Some r → have_shapes r.shapes p.arguments ≡ true
row_fits p r e =
    let both = found_passes (λ r. is_named (table_name p.name (length p.arguments)) r && fits r p.arguments) rows r e in
    and_first (have_shapes r.shapes p.arguments) _ (and_second (is_named (table_name p.name (length p.arguments)) r) (fits r p.arguments) both)

-- the state under the row that the constraint fits
pub same_state : (K L : Partial) (xs ys : List Argument) (r : Row) (o : Option Row) → K ≡ L
    → xs ≡ ys → o ≡ Some r → state_of_row K xs (Some r) ≡ state_of_row L ys o
same_state K L xs ys r o same also e = λ i. state_of_row (same i) (also i) (sym e i)
