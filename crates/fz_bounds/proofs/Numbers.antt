-- Bounds as numbers.
use Rattle.std.proofs.Common.{◌≡◌, ℕ, ℤ, pos, ◌≤ℤ◌, ◌+ℤ◌, ◌-ℤ◌, true, false, not, ◌||◌, Option, Some, None, refl, sym, ap, subst, subst₂, ◌∙◌, arith, int_lt, inl, inr, slice_get, ◌<ℤ◌, Result, Ok, Err, IfOk, IsTrue}
use Rattle.std.proofs.lemmas.Int.{clamps, ints}
use Rattle.std.specs.Int.{int_max, int_min}
use Rattle.fz_model.proofs.of_base.Covers.{apart}
use Rattle.fz_model.specs.of_base.declared.value.Value.{Value}
use Rattle.fz_model.specs.of_base.declared.value.Value.TheVariants.{Int, Bool as Truth}
use Rattle.fz_model.specs.declared.Kind.{Kind}
use Rattle.fz_model.specs.declared.Kind.TheVariants.{Int as IntKind, Bool as BoolKind, Set as SetKind}
use Rattle.fz_model.specs.Meaning.{Assignment, Model, Point, inside as is_within, points, value_at, whole}
use Rattle.fz_model.specs.States.{HoldsIfKnown}
use Rattle.fz_model.specs.declared.Domain.{Domain}
use Rattle.fz_model.specs.Relations.{kind_of}
use Rattle.fz_model.proofs.Steps.{some_of}
use Rattle.fz_model.proofs.Values.{no}
use Rattle.fz_bounds.proofs.Giving.{given_back}
use Rattle.fz_bounds.specs.Bounds.{IsInside, LiesBetween, LiesIn, NumberNeverHolds, Ranges, is_at_most, narrowed, number_as}
use Rattle.fz_bounds.specs.Ends.{AreEndsAt, Excludes, IsTold}
use Rattle.fz_bounds.specs.declared.ends.KindEnds.{KindEnds}
use Rattle.fz_bounds.proofs.Inside.{at_most_itself, inside_narrowed, narrowed_inside, numbers_in_order}

-- a value between two numbers is a number between them
module _ (l h : ℤ) where
  pub number_between : (k : Kind) (q : Option Value) → IsTold k l → IsTold k h
      → LiesBetween (Some (number_as k l)) (Some (number_as k h)) q
      → (a : ℤ) × (q ≡ Some (number_as k a)) × (l ≤ℤ a) × (a ≤ℤ h)
  number_between k None p r lies = absurd lies.0
  number_between IntKind (Some (Int a)) p r lies = (a, refl, grind (arith, ints, lies.0), grind (arith, ints, lies.1))
  number_between SetKind (Some (Int a)) p r lies = (a, refl, grind (arith, ints, lies.0), grind (arith, ints, lies.1))
  number_between BoolKind (Some (Truth true)) p r lies = (pos 1, refl, p.1, above r lies.1)
    where
      above : (pos 0 ≤ℤ h) × (h ≤ℤ pos 1) → int_lt (pos 0) h ≡ true → pos 1 ≤ℤ h
      above r e = grind (arith, ints)
  number_between BoolKind (Some (Truth false)) p r lies = (pos 0, refl, below p lies.0, r.0)
    where
      below : (pos 0 ≤ℤ l) × (l ≤ℤ pos 1) → (not (int_lt (pos 0) l) || false) ≡ true → l ≤ℤ pos 0
      below p e = grind (arith, ints)
  number_between k q p r lies = no lies.0

-- ---- the bounds of a variable

-- bounds that have the assignment's value
pub still_inside : (B C : Ranges) (A : Assignment) (n : ℕ) (k : Kind) (a l h : ℤ)
    → C ≡ narrowed B n (number_as k l) (number_as k h)
    → value_at (whole A) n ≡ Some (number_as k a) → l ≤ℤ a → a ≤ℤ h → IsInside B A → IsInside C A
still_inside B C A n k a l h c is low high inside =
    let lies : LiesBetween (Some (number_as k l)) (Some (number_as k h)) (value_at (whole A) n) =
    subst (LiesBetween (Some (number_as k l)) (Some (number_as k h))) (sym is) (numbers_in_order k l a low, numbers_in_order k a h high) in
    subst (λ D. IsInside D A) (sym c) (inside_narrowed B A n (number_as k l) (number_as k h) inside lies)

module _ (B : Ranges) (n : ℕ) (e : KindEnds) (at : AreEndsAt B n e) where
  pub value_between : (A : Assignment) → IsInside B A
      → (a : ℤ) × (value_at (whole A) n ≡ Some (number_as e.kind a)) × (e.low ≤ℤ a) × (a ≤ℤ e.high)
  value_between A inside =
      number_between e.low e.high e.kind (value_at (whole A) n) at.low_told at.high_told
      (subst₂ (λ o p. LiesBetween o p (value_at (whole A) n)) at.low_is at.high_is (inside n))

  -- what is inside narrower bounds
  pub was_inside : (C : Ranges) (A : Assignment) (k : Kind) (l h : ℤ)
      → C ≡ narrowed B n (number_as k l) (number_as k h) → k ≡ e.kind → e.low ≤ℤ l → h ≤ℤ e.high
      → IsInside C A → IsInside B A
  was_inside C A k l h c same low high inside =
      narrowed_inside B A n (number_as e.kind e.low) (number_as e.kind e.high) (number_as k l) (number_as k h) at.low_is at.high_is
      (subst (λ j. is_at_most (number_as j e.low) (number_as k l) ≡ true) same (numbers_in_order k e.low l low))
      (subst (λ j. is_at_most (number_as k h) (number_as j e.high) ≡ true) same (numbers_in_order k h e.high high))
      (subst (λ D. IsInside D A) c inside)

  -- the bounds are put back
  pub restored : (C D : Ranges) (v w : Value) (k : Kind) (l h : ℤ) → C ≡ narrowed B n v w
      → D ≡ narrowed C n (number_as k l) (number_as k h) → k ≡ e.kind → l ≡ e.low → h ≡ e.high
      → D ≡ B
  restored C D v w k l h c d same low high =
      let low_is : value_at B.lowest n ≡ Some (number_as k l) = at.low_is ∙ sym (λ i. Some (number_as (same i) (low i))) in
      let high_is : value_at B.highest n ≡ Some (number_as k h) = at.high_is ∙ sym (λ i. Some (number_as (same i) (high i))) in
      d ∙ ap (λ R. narrowed R n (number_as k l) (number_as k h)) c
      ∙ (λ i. record {
        lowest = given_back B.lowest n v (number_as k l) low_is i;
        highest = given_back B.highest n w (number_as k h) high_is i;
      })

-- ---- what a point excludes

pub excluded : (m : Model) (k : ℕ) (B C : Ranges) (n : ℕ) (kind : Kind) (from to l h : ℤ)
    → C ≡ narrowed B n (number_as kind l) (number_as kind h) → l ≡ from → h ≡ to
    → NumberNeverHolds m k C → Excludes m k B n kind from to
excluded m k B C n kind from to l h c low high never = record {
  never = λ p here A there a is above below. never p here A (still_inside B C A n kind a l h c is (omega (arith, ints)) (omega (arith, ints)) there);
}

module _ (m : Model) (k : ℕ) (B : Ranges) (n : ℕ) (kind : Kind) where
  pub same_excluded : {f t : ℤ} (from to : ℤ) → Excludes m k B n kind f t → f ≡ from → t ≡ to
      → Excludes m k B n kind from to
  same_excluded from to e f t = subst₂ (λ y z. Excludes m k B n kind y z) f t e

  -- some numbers more
  pub more_excluded : {from before y z : ℤ} (to : ℤ) → Excludes m k B n kind from before
      → Excludes m k B n kind y z → to ≤ℤ z → y ≤ℤ (before +ℤ pos 1) → Excludes m k B n kind from to
  more_excluded {from} {before} {y} {z} to first second least most = record {
    never = λ p here A there a is above below. elim (apart before a) [
      | inl more ↦ second.never p here A there a is (omega (arith, ints)) (omega (arith, ints))
      | inr less ↦ first.never p here A there a is above less
    ];
  }

  -- the same of the same bounds
  pub excluded_there : {C : Ranges} {y z : ℤ} → C ≡ B → Excludes m k C n kind y z
      → Excludes m k B n kind y z
  excluded_there {C} {y} {z} e h = subst (λ D. Excludes m k D n kind y z) e h

-- the numbers that a point leaves
pub left_between : (m : Model) (k : ℕ) (B : Ranges) (n : ℕ) (e : KindEnds) (low high : ℤ)
    → AreEndsAt B n e → Excludes m k B n e.kind e.low (int_min e.high (low -ℤ pos 1))
    → Excludes m k B n e.kind (int_max e.low (high +ℤ pos 1)) e.high → (p : Point)
    → slice_get (points m) k ≡ Some p → (A : Assignment) → IsInside B A
    → HoldsIfKnown (whole A) p → (a : ℤ) × (value_at (whole A) n ≡ Some (number_as e.kind a))
    × (int_max low e.low ≤ℤ a) × (a ≤ℤ int_min high e.high)
left_between m k B n e low high at below above p here A inside holds =
    let (a, is, from, to) = value_between B n e at A inside in
    let not_below : a ≤ℤ int_min e.high (low -ℤ pos 1) → ⊥ = λ h. below.never p here A inside a is from h holds in
    let not_above : int_max e.low (high +ℤ pos 1) ≤ℤ a → ⊥ = λ h. above.never p here A inside a is h to holds in
    (a, is, at_least a low e.low e.high from to not_below, at_most_of a high e.low e.high from to not_above)
  where
    at_least : (a low l h : ℤ) → l ≤ℤ a → a ≤ℤ h → (a ≤ℤ int_min h (low -ℤ pos 1) → ⊥)
        → int_max low l ≤ℤ a
    at_least a low l h f g not = elim (apart a low) [
      | inl less ↦ absurd (not (omega (arith, ints, clamps)))
      | inr more ↦ omega (arith, ints, clamps)
    ]

    at_most_of : (a high l h : ℤ) → l ≤ℤ a → a ≤ℤ h → (int_max l (high +ℤ pos 1) ≤ℤ a → ⊥)
        → a ≤ℤ int_min high h
    at_most_of a high l h f g not = elim (apart high a) [
      | inl more ↦ absurd (not (omega (arith, ints, clamps)))
      | inr less ↦ omega (arith, ints, clamps)
    ]

-- where they leave none
pub nothing_left : (m : Model) (k : ℕ) (B : Ranges) (n : ℕ) (e : KindEnds) (low high : ℤ)
    → AreEndsAt B n e → Excludes m k B n e.kind e.low (int_min e.high (low -ℤ pos 1))
    → Excludes m k B n e.kind (int_max e.low (high +ℤ pos 1)) e.high
    → int_min high e.high <ℤ int_max low e.low → NumberNeverHolds m k B
nothing_left m k B n e low high at below above none p here A inside holds =
    let (a, is, from, to) = left_between m k B n e low high at below above p here A inside holds in
    absurd (omega (arith, ints))

-- bounds of what they leave
pub left_inside : (m : Model) (k : ℕ) (B C : Ranges) (n : ℕ) (e : KindEnds) (low high l h : ℤ)
    → AreEndsAt B n e → Excludes m k B n e.kind e.low (int_min e.high (low -ℤ pos 1))
    → Excludes m k B n e.kind (int_max e.low (high +ℤ pos 1)) e.high
    → C ≡ narrowed B n (number_as e.kind l) (number_as e.kind h) → l ≡ int_max low e.low
    → h ≡ int_min high e.high → (p : Point) → slice_get (points m) k ≡ Some p → (A : Assignment)
    → IsInside B A → HoldsIfKnown (whole A) p → IsInside C A
left_inside m k B C n e low high l h at below above c least most p here A inside holds =
    let (a, is, from, to) = left_between m k B n e low high at below above p here A inside holds in
    still_inside B C A n e.kind a l h c is (subst (λ z. z ≤ℤ a) (sym least) from) (subst (λ z. a ≤ℤ z) (sym most) to) inside

pub if_ok : {T E : Type 0} (r : Result T E) (P Q : T → Type 0) → ((x : T) → P x → Q x) → IfOk r P
    → IfOk r Q
if_ok (Ok x) P Q f h = f x h
if_ok (Err e) P Q f h = tt

-- ---- values that an assignment has

pub fixed_inside : (A : Assignment) (B C : Ranges) (n : ℕ) (v : Value) → C ≡ narrowed B n v v
    → value_at (whole A) n ≡ Some v → IsInside B A → IsInside C A
fixed_inside A B C n v c is inside =
    subst (λ D. IsInside D A) (sym c) (inside_narrowed B A n v v inside (subst (LiesBetween (Some v) (Some v)) (sym is) (at_most_itself v, at_most_itself v)))

pub domain_inside : (A : Assignment) (B C : Ranges) (k : Kind) (d : Domain) (n : ℕ) (low high : Value)
    → C ≡ narrowed B n low high → LiesIn k d (value_at (whole A) n)
    → ((v : Value) → kind_of v ≡ k → IsTrue (is_within d v)
    → IsTrue (is_at_most low v) × IsTrue (is_at_most v high)) → IsInside B A → IsInside C A
domain_inside A B C k d n low high c lies ends there =
    let (v, is, fits) = some_of (λ v. (kind_of v ≡ k) × IsTrue (is_within d v)) (value_at (whole A) n) lies in
    subst (λ D. IsInside D A) (sym c) (inside_narrowed B A n low high there (subst (LiesBetween (Some low) (Some high)) (sym is) (ends v fits.0 fits.1)))
