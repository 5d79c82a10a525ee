-- What bounds say of a row, and of the reified forms of it.
use Rattle.std.proofs.Common.{◌≡◌, ℕ, suc, ◌+◌, Bool, true, not, ◌||◌, List, [], ◌∷◌, length, sym, ap, subst, subst₂, ◌∙◌, arith}
use Rattle.fz_store.specs.declared.Builtin.{Builtin}
use Rattle.fz_model.specs.declared.Kind.TheVariants.{Bool as BoolKind}
use Rattle.fz_model.specs.Relations.{◌=ᴮ◌}
use Rattle.fz_model.specs.Builtins.{Row, Shape, Test, row_at, with_bool, with_truth}
use Rattle.fz_store.specs.declared.Form.TheVariants.{Reified, Implied}
use Rattle.fz_store.specs.declared.Known.{Known}
use Rattle.fz_model.specs.of_builtins.of_meaning.Known.{form_at, known_row}
use Rattle.fz_model.specs.Meaning.{Argument, Partial}
use Rattle.fz_model.specs.of_builtins.of_kernel.Given.{bool_at}
use Rattle.fz_model.specs.of_builtins.Outcomes.{argument_at, test_from}
use Rattle.fz_bounds.specs.Between.{AreBelow, at_most}
use Rattle.fz_bounds.specs.Decided.{Decides}
use Rattle.fz_bounds.specs.Within.{Foretells, IsBetween, TellsTruth, TruthLies, given}
use Rattle.fz_bounds.specs.declared.bounded.BoundedConstraint.{BoundedConstraint}
use Rattle.fz_bounds.specs.declared.outlook.Outlook.{Outlook}

-- ---- the Boolean after the arguments of the base row

form_test : (says : Bool → Bool → Bool) (K : Partial) (xs : List Argument) (i : ℕ)
    (ss : List Shape) (t : Test ss) → test_from i K xs (with_bool ss) (with_truth says ss t)
    ≡ says (bool_at K xs (length ss + i)) (test_from i K xs ss t)
form_test says K xs i [] t =
    let place : i ≡ length {A = Shape} [] + i = omega arith in
    ap (λ n. says (bool_at K xs n) t) place
form_test says K xs i (s ∷ ss) t =
    let place : length ss + suc i ≡ length (s ∷ ss) + i = omega arith in
    form_test says K xs (suc i) ss (t (argument_at K xs i s))
    ∙ ap (λ n. says (bool_at K xs n) (test_from (suc i) K xs ss (t (argument_at K xs i s)))) place

base_below : (K L : Partial) (xs : List Argument) (i : ℕ) (ss : List Shape)
    → AreBelow i K L xs (with_bool ss) → AreBelow i K L xs ss
base_below K L xs i [] h = tt
base_below K L xs i (s ∷ ss) h = (h.0, base_below K L xs (suc i) ss h.1)

last_below : (K L : Partial) (xs : List Argument) (i : ℕ) (ss : List Shape)
    → AreBelow i K L xs (with_bool ss)
    → at_most BoolKind (bool_at K xs (length ss + i)) (bool_at L xs (length ss + i)) ≡ true
last_below K L xs i [] h =
    let place : i ≡ length {A = Shape} [] + i = omega arith in
    subst (λ n. at_most BoolKind (bool_at K xs n) (bool_at L xs n) ≡ true) place h.0
last_below K L xs i (s ∷ ss) h =
    let place : length ss + suc i ≡ length (s ∷ ss) + i = omega arith in
    subst (λ n. at_most BoolKind (bool_at K xs n) (bool_at L xs n) ≡ true) place (last_below K L xs (suc i) ss h.1)

module _ (s : BoundedConstraint) (b : Builtin) where
  abbrev base : Row
  base = row_at b

  abbrev xs : List Argument
  xs = given s

  base_between : (K : Partial) → IsBetween s K (with_bool base.shapes) → IsBetween s K base.shapes
  base_between K h = record {
    low = base_below s.lowest.now K xs 0 base.shapes h.low;
    high = base_below K s.highest.now xs 0 base.shapes h.high;
  }

  same_place : length base.shapes + 0 ≡ length base.shapes
  same_place = omega arith

  control_lies : (K : Partial) → IsBetween s K (with_bool base.shapes)
      → TruthLies s (length base.shapes) K
  control_lies K h = record {
    low = subst (λ n. at_most BoolKind (bool_at s.lowest.now xs n) (bool_at K xs n) ≡ true) same_place (last_below s.lowest.now K xs 0 base.shapes h.low);
    high = subst (λ n. at_most BoolKind (bool_at K xs n) (bool_at s.highest.now xs n) ≡ true) same_place (last_below K s.highest.now xs 0 base.shapes h.high);
  }

  form_is : (says : Bool → Bool → Bool) (K : Partial)
      → test_from 0 K xs (with_bool base.shapes) (with_truth says base.shapes base.holds)
      ≡ says (bool_at K xs (length base.shapes)) (test_from 0 K xs base.shapes base.holds)
  form_is says K =
      form_test says K xs 0 base.shapes base.holds
      ∙ ap (λ n. says (bool_at K xs n) (test_from 0 K xs base.shapes base.holds)) same_place

  -- what is said of the Boolean and of the base row is said of the form
  form_told : (says : Bool → Bool → Bool) (truth holds outlook : Outlook)
      → TellsTruth s (length base.shapes) truth → Foretells s base holds
      → ((t h : Bool) → Decides truth t → Decides holds h → Decides outlook (says t h))
      → (K : Partial) → IsBetween s K (with_bool base.shapes) → Decides outlook
      (test_from 0 K xs (with_bool base.shapes) (with_truth says base.shapes base.holds))
  form_told says truth holds outlook told foretold both K h =
      subst (Decides outlook) (sym (form_is says K))
      (both (bool_at K xs (length base.shapes)) (test_from 0 K xs base.shapes base.holds) (told K (control_lies K h)) (foretold K (base_between K h)))

  pub reified_told : (k : Known) (truth holds o : Outlook) → k.builtin ≡ b → k.form ≡ Reified
      → TellsTruth s (length base.shapes) truth → Foretells s base holds
      → ((t h : Bool) → Decides truth t → Decides holds h → Decides o (t =ᴮ h))
      → Foretells s (known_row k) o
  reified_told k truth holds o e f told foretold both =
      subst₂ (λ c g. Foretells s (form_at g (row_at c)) o) (sym e) (sym f) (form_told ◌=ᴮ◌ truth holds o told foretold both)

  pub implied_told : (k : Known) (truth against holds o : Outlook) → k.builtin ≡ b
      → k.form ≡ Implied → TellsTruth s (length base.shapes) truth → Foretells s base holds
      → ((t : Bool) → Decides truth t → Decides against (not t))
      → ((t h : Bool) → Decides against t → Decides holds h → Decides o (t || h))
      → Foretells s (known_row k) o
  implied_told k truth against holds o e f told foretold opposite either =
      subst₂ (λ c g. Foretells s (form_at g (row_at c)) o) (sym e) (sym f)
      (form_told (λ t h. not t || h) truth holds o told foretold (λ t h d p. either (not t) h (opposite t d) p))
