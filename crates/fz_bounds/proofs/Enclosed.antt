-- A variable that gets bounds, or loses them.
use Rattle.std.proofs.Common.{◌≡◌, ℕ, zero, suc, ◌<◌, ℤ, pos, ◌≤ℤ◌, [], ◌∷◌, length, Option, Some, None, refl, sym, ap, subst, subst₂, ◌∙◌, inl, inr}
use Rattle.fz_model.specs.of_base.declared.value.Value.{Value}
use Rattle.fz_model.specs.of_base.declared.value.Value.TheVariants.{Int, Bool as Truth, Set}
use Rattle.fz_model.specs.declared.Kind.TheVariants.{Int as IntKind}
use Rattle.fz_model.specs.Meaning.{Assignment, Model, Partial, value_at, variables_of, whole}
use Rattle.fz_model.specs.Relations.{kind_of}
use Rattle.fz_model.specs.Partial.{without}
use Rattle.fz_model.specs.States.{IsKnownSolution}
use Rattle.fz_model.specs.Steps.{give, kind_at}
use Rattle.fz_model.proofs.Steps.{value_at_given, value_at_other}
use Rattle.fz_model.proofs.Under.{assigned}
use Rattle.fz_bounds.specs.Bounds.{IsInside, LiesBetween, Ranges, narrowed, number_as}
use Rattle.fz_bounds.specs.Decided.{LiesIn}
use Rattle.fz_bounds.specs.Opened.{AreMarks, IsAmid, IsInBoth, LeavesAround, forgotten}
use Rattle.fz_bounds.specs.declared.range.Range.{Range}
use Rattle.fz_bounds.proofs.Giving.{given_there, given_twice}
use Rattle.fz_bounds.proofs.Inside.{at_most_itself, lies_given, same_or_other}
use Rattle.fz_bounds.proofs.Numbers.{still_inside}

-- ---- no bounds

gone : (K : Partial) (n : ℕ) → value_at (without K n) n ≡ None
gone [] n = refl
gone (o ∷ K) zero = refl
gone (o ∷ K) (suc n) = gone K n

others_stay : (K : Partial) (n k : ℕ) → (k ≡ n → ⊥) → value_at (without K n) k ≡ value_at K k
others_stay [] n k other = refl
others_stay (o ∷ K) zero zero other = absurd (other refl)
others_stay (o ∷ K) zero (suc k) other = refl
others_stay (o ∷ K) (suc n) zero other = refl
others_stay (o ∷ K) (suc n) (suc k) other = others_stay K n k (λ e. other (ap suc e))

pub given_away : (K : Partial) (n : ℕ) (v : Value) → without (give K n v) n ≡ without K n
given_away [] n v = refl
given_away (o ∷ K) zero v = refl
given_away (o ∷ K) (suc n) v = ap (λ L. o ∷ L) (given_away K n v)

-- marks that are taken away
pub unmarked : (B C D : Ranges) (n : ℕ) (v w : Value) → C ≡ narrowed B n v w → D ≡ forgotten C n
    → B.lowest ≡ B.highest → D.lowest ≡ D.highest
unmarked B C D n v w c d alike =
    ap (λ R. R.lowest) d ∙ ap (λ R. without R.lowest n) c ∙ given_away B.lowest n v
    ∙ ap (λ K. without K n) alike
    ∙ sym (ap (λ R. R.highest) d ∙ ap (λ R. without R.highest n) c ∙ given_away B.highest n w)

pub marked : (B C : Ranges) (n : ℕ) (low high : ℤ) → low ≡ pos 0 → high ≡ pos 1
    → C ≡ narrowed B n (number_as IntKind low) (number_as IntKind high) → B.lowest ≡ B.highest
    → n < length B.lowest → AreMarks C n
marked B C n low high is_zero is_one c alike room = record {
  values = B.lowest;
  has_room = room;
  zero = ap (λ R. R.lowest) c ∙ ap (λ z. give B.lowest n (Int z)) is_zero;
  one = ap (λ R. R.highest) c ∙ (λ i. give (sym alike i) n (Int (is_one i)));
}

-- a variable that has none again
pub forgotten_inside : (B C D : Ranges) (A : Assignment) (n : ℕ) (v w : Value)
    → C ≡ narrowed B n v w → D ≡ forgotten C n → IsInside B A → IsInside D A
forgotten_inside B C D A n v w c d inside =
    subst (λ R. IsInside R A) (sym (d ∙ ap (λ R. forgotten R n) c)) there
  where
    there : IsInside (forgotten (narrowed B n v w) n) A
    there k = elim (same_or_other k n) [
      | inl e ↦ subst (λ j. LiesBetween (value_at (without (give B.lowest n v) n) j) (value_at (without (give B.highest n w) n) j) (value_at (whole A) j)) (sym e) (subst₂ (λ o p. LiesBetween o p (value_at (whole A) n)) (sym (gone (give B.lowest n v) n)) (sym (gone (give B.highest n w) n)) (tt, tt))
      | inr other ↦ subst₂ (λ o p. LiesBetween o p (value_at (whole A) k)) (sym (others_stay (give B.lowest n v) n k other ∙ value_at_other B.lowest n k v other)) (sym (others_stay (give B.highest n w) n k other ∙ value_at_other B.highest n k w other)) (inside k)
    ]

-- ---- a number as both bounds

pub amid_one : (B C : Ranges) (A : Assignment) (n : ℕ) (v w : Value) → C ≡ narrowed B n v v
    → value_at (whole A) n ≡ Some w → IsInside B A → IsAmid C (give (whole A) n v)
amid_one B C A n v w c at inside = subst (λ R. IsAmid R (give (whole A) n v)) (sym c) there
  where
    here : LiesBetween (Some v) (Some v) (value_at (give (whole A) n v) n)
    here = subst (LiesBetween (Some v) (Some v)) (sym (given_there (whole A) n v w at)) (at_most_itself v, at_most_itself v)

    there : IsAmid (narrowed B n v v) (give (whole A) n v)
    there k = elim (same_or_other k n) [
      | inl e ↦ subst (λ j. LiesBetween (value_at (give B.lowest n v) j) (value_at (give B.highest n v) j) (value_at (give (whole A) n v) j)) (sym e) (lies_given (value_at (give B.lowest n v) n) (value_at (give B.highest n v) n) (value_at (give (whole A) n v) n) v v (value_at_given B.lowest n v) (value_at_given B.highest n v) here)
      | inr other ↦ subst₂ (λ o p. LiesBetween o p (value_at (give (whole A) n v) k)) (sym (value_at_other B.lowest n k v other)) (sym (value_at_other B.highest n k v other)) (subst (LiesBetween (value_at B.lowest k) (value_at B.highest k)) (sym (value_at_other (whole A) n k v other)) (inside k))
    ]

-- other bounds after that
pub enclosed : (B C D : Ranges) (A : Assignment) (n : ℕ) (v w : Value) (a low high : ℤ)
    → C ≡ narrowed B n v w → D ≡ narrowed C n (number_as IntKind low) (number_as IntKind high)
    → value_at (whole A) n ≡ Some (Int a) → low ≤ℤ a → a ≤ℤ high → IsInside B A → IsInside D A
enclosed B C D A n v w a low high c d at above below inside =
    let is : D ≡ narrowed B n (number_as IntKind low) (number_as IntKind high) =
    d ∙ ap (λ R. narrowed R n (number_as IntKind low) (number_as IntKind high)) c
    ∙ (λ i. record {
      lowest = given_twice B.lowest n v (number_as IntKind low) i;
      highest = given_twice B.highest n w (number_as IntKind high) i;
    }) in
    still_inside B D A n IntKind a low high is at above below inside

-- ---- an integer has a value

integer_in : (w : Value) → kind_of w ≡ IntKind → (a : ℤ) × (w ≡ Int a)
integer_in (Int a) e = (a, refl)
integer_in (Truth b) e = cc
integer_in (Set s) e = cc

pub integer_there : (m : Model) (A : Assignment) (n : ℕ) → IsKnownSolution m A
    → kind_at m n ≡ Some IntKind → (a : ℤ) × (value_at (whole A) n ≡ Some (Int a))
integer_there m A n solution kind =
    let (w, is, of_kind) = assigned (variables_of m) A n IntKind solution.assignment kind in
    let (a, same) = integer_in w of_kind in
    (a, is ∙ ap Some same)
