-- Remainders, and what they say of quotients.
use Rattle.std.proofs.Common.{◌≡◌, ℕ, zero, suc, ◌<◌, ◌≤◌, ◌%◌, ℤ, pos, negsuc, neg_ℤ, ◌+ℤ◌, ◌-ℤ◌, ◌*ℤ◌, Bool, true, false, not, ◌&&◌, refl, sym, ap, ◌∙◌, arith, int_div, int_le, int_rem, unsigned_abs}
use Rattle.std.proofs.Math.IntN.{*ℤ_comm}
use Rattle.std.proofs.lemmas.Int.{clamps, ints, quot-rem, rem_below}
use Rattle.std.specs.Int.{int_max, int_min}
use Rattle.fz_model.specs.Relations.{◌=ℤ◌}
use Rattle.fz_model.proofs.Values.{int_itself, no', same_int}

far_from_zero : (b : ℤ) → (b =ℤ pos 0) ≡ false → 0 < unsigned_abs b
far_from_zero (pos zero) e = no' (sym (int_itself (pos 0)) ∙ e)
far_from_zero (pos (suc n)) e = omega arith
far_from_zero (negsuc n) e = omega arith

-- it lies between what is divided and 0
pub rem_towards : (a b : ℤ)
    → int_min (int_max (int_rem a b) (int_min a (pos 0))) (int_max a (pos 0)) ≡ int_rem a b
rem_towards (pos a) b = below (a % unsigned_abs b) (omega arith)
  where
    below : (m : ℕ) → m ≤ a
        → int_min (int_max (pos m) (int_min (pos a) (pos 0))) (int_max (pos a) (pos 0)) ≡ pos m
    below m h = omega (arith, ints, clamps)
rem_towards (negsuc a) b = above (suc a % unsigned_abs b) (omega arith)
  where
    above : (m : ℕ) → m ≤ suc a
        → int_min (int_max (neg_ℤ (pos m)) (int_min (negsuc a) (pos 0))) (int_max (negsuc a) (pos 0))
        ≡ neg_ℤ (pos m)
    above zero h = omega (arith, ints, clamps)
    above (suc m) h = omega (arith, ints, clamps)

-- it is nearer to 0 than the divisor
between : (r m : ℤ) (n : ℕ) → m ≡ (pos n -ℤ pos 1) → unsigned_abs r < n
    → (int_le (int_min m (pos 0 -ℤ m)) r ≡ true) × (int_le r (int_max m (pos 0 -ℤ m)) ≡ true)
between (pos r) m n e h = (grind (arith, ints, clamps), grind (arith, ints, clamps))
between (negsuc r) m n e h = (grind (arith, ints, clamps), grind (arith, ints, clamps))

pub rem_near : (a b : ℤ) → (b =ℤ pos 0) ≡ false
    → (int_le (int_min (pos (unsigned_abs b) -ℤ pos 1) (pos 0 -ℤ (pos (unsigned_abs b) -ℤ pos 1))) (int_rem a b) ≡ true)
    × (int_le (int_rem a b) (int_max (pos (unsigned_abs b) -ℤ pos 1) (pos 0 -ℤ (pos (unsigned_abs b) -ℤ pos 1))) ≡ true)
rem_near a b e = between (int_rem a b) (pos (unsigned_abs b) -ℤ pos 1) (unsigned_abs b) refl (rem_below a b (far_from_zero b e))

-- the quotient's product leaves the remainder
pub no_quotient : (z : Bool) (a b c : ℤ)
    → (not z && ((a -ℤ (b *ℤ c)) =ℤ int_rem a b)) ≡ false → (not z && (c =ℤ int_div a b)) ≡ false
no_quotient true a b c h = refl
no_quotient false a b c h =
    (elim (c =ℤ int_div a b) as (λ t. (c =ℤ int_div a b) ≡ t → t ≡ false) [
      | true ↦ λ e. no' (sym (int_itself (int_rem a b)) ∙ ap (λ x. x =ℤ int_rem a b) (sym (left (same_int c (int_div a b) e))) ∙ h)
      | false ↦ λ _. refl
    ]) refl
  where
    rest : (a p r : ℤ) → (p +ℤ r) ≡ a → (a -ℤ p) ≡ r
    rest a p r e = omega (arith, ints)

    left : c ≡ int_div a b → (a -ℤ (b *ℤ c)) ≡ int_rem a b
    left e = rest a (b *ℤ c) (int_rem a b) (ap (λ x. x +ℤ int_rem a b) (*ℤ_comm b c ∙ ap (λ x. x *ℤ b) e) ∙ quot-rem a b)

-- where it holds of no number with a divisor other than 0
pub unless_zero : (z q : Bool) → (z ≡ false → q ≡ false) → (not z && q) ≡ false
unless_zero true q f = refl
unless_zero false q f = f refl
