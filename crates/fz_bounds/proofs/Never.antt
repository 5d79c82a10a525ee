-- A constraint whose row holds at no arguments inside the bounds holds under no assignment there.
use Rattle.std.proofs.Common.{◌≡◌, ℕ, suc, true, false, List, [], ◌∷◌, Option, None, Some, refl, sym, ap, subst, ◌∙◌, ◌⊎◌, inl, inr, IsSomeAnd, IsTrue, option_map}
use Rattle.std.specs.List.{list_all}
use Rattle.std.proofs.lemmas.Option.{same_Some}
use Rattle.fz_model.specs.Builtins.{ArgValue, Row, Shape, Test, passes}
use Rattle.fz_model.specs.Meaning.{Argument, Assignment, Partial, Posted, argument_values, have_shapes, row_holds, row_of, whole}
use Rattle.fz_model.specs.States.{HoldsIfKnown}
use Rattle.fz_model.specs.Meaning.Point.{ConstraintPoint}
use Rattle.fz_store.specs.declared.Known.{Known}
use Rattle.fz_model.specs.of_builtins.of_meaning.Known.{known_row}
use Rattle.fz_model.specs.Parts.{constraint_view}
use Rattle.fz_store.specs.declared.Builtin.TheVariants.{IntPow}
use Rattle.fz_model.specs.declared.State.TheVariants.{Unknown}
use Rattle.fz_model.specs.States.{state_of_row}
use Rattle.fz_model.proofs.Powers.{is_sum, known_sums, sums_are_known}
use Rattle.fz_model.proofs.Values.{no'}
use Rattle.fz_model.proofs.Steps.{some_of}
use Rattle.fz_model.specs.of_builtins.of_kernel.Given.{are_read, given_from, given_values}
use Rattle.fz_model.proofs.of_builtins.of_kernel.Ready.{ready_values, wrong_kind}
use Rattle.fz_model.specs.of_builtins.Outcomes.{argument_at, test_from}
use Rattle.fz_model.proofs.of_builtins.RowTests.{reads}
use Rattle.fz_model.proofs.ConstraintStates.{row_fits}
use Rattle.fz_bounds.specs.Bounds.{NeverHolds, Ranges}
use Rattle.fz_bounds.specs.Between.{AreBetween}
use Rattle.fz_bounds.specs.Decided.{Decides}
use Rattle.fz_bounds.specs.Within.{AreKnown, Foretells, given}
use Rattle.fz_bounds.specs.declared.bounded.BoundedConstraint.{BoundedConstraint}
use Rattle.fz_bounds.specs.declared.outlook.Outlook.{Outlook}
use Rattle.fz_bounds.specs.declared.outlook.Outlook.TheVariants.{Never}
use Rattle.fz_bounds.proofs.Between.{are_amid}

passes_at : (K : Partial) (xs : List Argument) (i : ℕ) (ss : List Shape) (t : Test ss)
    → test_from i K xs ss t ≡ passes ss t (given_from K xs i ss)
passes_at K xs i [] t = refl
passes_at K xs i (s ∷ ss) t =
    rw (reads K xs i s) (passes_at K xs (suc i) ss (t (argument_at K xs i s)))

-- where a row holds of the values of its arguments, these are of its kinds, and its test holds
holds_read : (r : Row) (K : Partial) (xs : List Argument) (vs : List ArgValue)
    → have_shapes r.shapes xs ≡ true → argument_values K xs ≡ Some vs → row_holds r vs ≡ true
    → (are_read K r.shapes xs ≡ true) × (test_from 0 K xs r.shapes r.holds ≡ true)
holds_read r K xs vs shaped are holds =
    (elim (are_read K r.shapes xs) as (λ b. are_read K r.shapes xs ≡ b → (b ≡ true) × (test_from 0 K xs r.shapes r.holds ≡ true)) [
      | false ↦ λ unread. no' (sym holds ∙ wrong_kind K r.shapes r.holds xs vs shaped unread are)
      | true ↦ λ read.
          let same : given_values K r.shapes xs ≡ vs = same_Some (given_values K r.shapes xs) vs (sym (ready_values K r.shapes xs shaped read) ∙ are) in
          (refl, passes_at K xs 0 r.shapes r.holds ∙ ap (row_holds r) same ∙ holds)
    ]) refl

-- the same of a constraint that holds, where it is of a row without a power
pub holds_at : (A : Assignment) (k : ℕ) (p : Posted) (r : Row) → row_of p ≡ Some r
    → list_all is_sum r.wide ≡ true → HoldsIfKnown (whole A) (ConstraintPoint k p)
    → (are_read (whole A) r.shapes p.arguments ≡ true)
    × (test_from 0 (whole A) p.arguments r.shapes r.holds ≡ true)
holds_at A k p r fits sums h =
    (elim (row_of p) as (λ o. row_of p ≡ o → (state_of_row (whole A) p.arguments o ≡ Unknown) ⊎ IsSomeAnd o (λ r. IsSomeAnd (argument_values (whole A) p.arguments) (λ vs. IsTrue (row_holds r vs))) → (are_read (whole A) r.shapes p.arguments ≡ true) × (test_from 0 (whole A) p.arguments r.shapes r.holds ≡ true)) [
      | None ↦ λ e _. let wrong : None ≡ Some r = sym e ∙ fits in cc
      | Some q ↦ λ e h. elim h [
        | inl unknown ↦
            let same : q ≡ r = same_Some q r (sym e ∙ fits) in
            absurd (sums_are_known (whole A) p.arguments r sums (subst (λ z. state_of_row (whole A) p.arguments (Some z) ≡ Unknown) same unknown))
        | inr holds ↦
            let same : q ≡ r = same_Some q r (sym e ∙ fits) in
            let (vs, are, is) = some_of (λ vs. IsTrue (row_holds q vs)) (argument_values (whole A) p.arguments) holds in
            holds_read r (whole A) p.arguments vs (row_fits p r fits) are (subst (λ z. row_holds z vs ≡ true) same is)
      ]
    ]) refl h

never_holds : (B : Ranges) (k : ℕ) (p : Posted) (r : Row) → row_of p ≡ Some r
    → list_all is_sum r.wide ≡ true → are_read B.lowest r.shapes p.arguments ≡ true
    → are_read B.highest r.shapes p.arguments ≡ true
    → ((K : Partial) → AreBetween B.lowest K B.highest p.arguments r.shapes
    → test_from 0 K p.arguments r.shapes r.holds ≡ false) → NeverHolds B (ConstraintPoint k p)
never_holds B k p r fits sums low high fails A inside h =
    let (read, test) = holds_at A k p r fits sums h in
    no' (sym test ∙ fails (whole A) (are_amid B (whole A) r.shapes p.arguments inside low read high))

-- the same by what is foretold of the row
pub row_never : (s : BoundedConstraint) (B : Ranges) (k : ℕ) (q : Option Known) (known : Known) (o : Outlook)
    → s.lowest.now ≡ B.lowest → s.highest.now ≡ B.highest
    → option_map known_row q ≡ row_of (constraint_view s.parts) → q ≡ Some known
    → (known.builtin ≡ IntPow → ⊥) → AreKnown s (known_row known).shapes → Foretells s (known_row known) o → o ≡ Never
    → NeverHolds B (ConstraintPoint k (constraint_view s.parts))
row_never s B k q known o e f told is other at foretold never =
    let r = known_row known in
    let C : Ranges = record { lowest = s.lowest.now; highest = s.highest.now } in
    let same : C ≡ B = λ i. record { lowest = e i; highest = f i } in
    subst (λ D. NeverHolds D (ConstraintPoint k (constraint_view s.parts))) same
    (never_holds C k (constraint_view s.parts) r (sym told ∙ ap (option_map known_row) is) (known_sums known other) at.low at.high (λ K h. subst (λ z. Decides z (test_from 0 K (given s) r.shapes r.holds)) never (foretold K h)))
