-- Points that are looked for from the first on.
use Rattle.std.proofs.Common.{◌≡◌, ◌<◌, ◌≤◌, ◌+◌, ℕ, zero, suc, List, [], ◌∷◌, Some, length, slice_get, subst, arith, inl, inr}
use Rattle.std.proofs.lemmas.Bool.{cases_lt}
use Rattle.fz_filling.specs.of_model.Meaning.{Model, Point, points}
use Rattle.fz_filling.proofs.of_model.Lists.{there_is}
use Rattle.fz_explain.specs.Firsts.{IsFirst, NoPoint, NoneBefore}

within : {A : Type 0} (xs : List A) (k : ℕ) (x : A) → slice_get xs k ≡ Some x → k < length xs
within [] k x e = cc
within (y ∷ ys) zero x e = omega arith
within (y ∷ ys) (suc k) x e = let less = within ys k x e in omega (arith, less)

module _ (m : Model) (Is : Point → Type 0) where
  -- one more that isn't
  pub none_before_next : (k : ℕ) → NoneBefore m Is k
      → ((p : Point) → slice_get (points m) k ≡ Some p → Is p → ⊥) → NoneBefore m Is (k + 1)
  none_before_next k before here = λ j p less at is. elim (cases_lt j k) [
    | inl below ↦ before j p below at is
    | inr above ↦ let same : j ≡ k = omega arith in here p (subst (λ i. slice_get (points m) i ≡ Some p) same at) is
  ]

  -- one that is
  pub first_at : (k end : ℕ) → k < end → end ≡ length (points m)
      → ((p : Point) → slice_get (points m) k ≡ Some p → Is p) → NoneBefore m Is k → IsFirst m Is k
  first_at k end less counted here before = let (p, at) = there_is (points m) k (omega (arith, less, counted)) in record { point = p; at = at; is = here p at; first = before }

  -- all were looked at
  pub none_at_all : (k end : ℕ) → end ≤ k → end ≡ length (points m) → NoneBefore m Is k
      → NoPoint m Is
  none_at_all k end over counted before = λ j p at is. let less = within (points m) j p at in before j p (omega (arith, less, over, counted)) at is
