-- Ends of sums and of products.
use Rattle.std.proofs.Common.{◌≡◌, ℕ, suc, ◌*◌, ◌≤◌, ℤ, pos, negsuc, ◌+ℤ◌, ◌-ℤ◌, ◌*ℤ◌, Bool, true, false, cond, Option, None, Some, IfSome, IsSomeAnd, int_le, refl, subst, subst₂, sym, unsigned_abs, arith}
use Rattle.std.proofs.Math.IntN.{*ℤ_comm}
use Rattle.std.proofs.Math.Nat.{mul-le-mul_left}
use Rattle.std.proofs.lemmas.Int.{clamps, ints}
use Rattle.std.specs.Int.{int_max, int_min}

-- ---- sums

-- a number that is the sum of the two, which are known
abbrev pub IsSum : Option ℤ → Option ℤ → Option ℤ → Type 0
IsSum o p r = IfSome r (λ z. IsSomeAnd o (λ x. IsSomeAnd p (λ y. z ≡ x +ℤ y)))

pub sum_low : (o p r : Option ℤ) (a b : ℤ) → IfSome o (λ l. int_le l a ≡ true)
    → IfSome p (λ l. int_le l b ≡ true) → IsSum o p r → IfSome r (λ l. int_le l (a +ℤ b) ≡ true)
sum_low o p None a b f g h = tt
sum_low None p (Some z) a b f g h = absurd h
sum_low (Some x) None (Some z) a b f g h = absurd h
sum_low (Some x) (Some y) (Some z) a b f g h = grind (arith, ints)

pub sum_high : (o p r : Option ℤ) (a b : ℤ) → IfSome o (λ l. int_le a l ≡ true)
    → IfSome p (λ l. int_le b l ≡ true) → IsSum o p r → IfSome r (λ l. int_le (a +ℤ b) l ≡ true)
sum_high o p None a b f g h = tt
sum_high None p (Some z) a b f g h = absurd h
sum_high (Some x) None (Some z) a b f g h = absurd h
sum_high (Some x) (Some y) (Some z) a b f g h = grind (arith, ints)

-- ---- the greater and the lesser of two

-- a number that is made of the two, which are known
abbrev pub IsMade : (ℤ → ℤ → ℤ) → Option ℤ → Option ℤ → Option ℤ → Type 0
IsMade f o p r = IfSome r (λ z. IsSomeAnd o (λ x. IsSomeAnd p (λ y. z ≡ f x y)))

pub max_low : (o p r : Option ℤ) (a b : ℤ) → IfSome o (λ l. int_le l a ≡ true)
    → IfSome p (λ l. int_le l b ≡ true) → IsMade int_max o p r
    → IfSome r (λ l. int_le l (int_max a b) ≡ true)
max_low o p None a b f g h = tt
max_low None p (Some z) a b f g h = absurd h
max_low (Some x) None (Some z) a b f g h = absurd h
max_low (Some x) (Some y) (Some z) a b f g h = subst (λ w. int_le w (int_max a b) ≡ true) (sym h) (grind (arith, ints, clamps))

pub max_high : (o p r : Option ℤ) (a b : ℤ) → IfSome o (λ l. int_le a l ≡ true)
    → IfSome p (λ l. int_le b l ≡ true) → IsMade int_max o p r
    → IfSome r (λ l. int_le (int_max a b) l ≡ true)
max_high o p None a b f g h = tt
max_high None p (Some z) a b f g h = absurd h
max_high (Some x) None (Some z) a b f g h = absurd h
max_high (Some x) (Some y) (Some z) a b f g h = subst (λ w. int_le (int_max a b) w ≡ true) (sym h) (grind (arith, ints, clamps))

pub min_low : (o p r : Option ℤ) (a b : ℤ) → IfSome o (λ l. int_le l a ≡ true)
    → IfSome p (λ l. int_le l b ≡ true) → IsMade int_min o p r
    → IfSome r (λ l. int_le l (int_min a b) ≡ true)
min_low o p None a b f g h = tt
min_low None p (Some z) a b f g h = absurd h
min_low (Some x) None (Some z) a b f g h = absurd h
min_low (Some x) (Some y) (Some z) a b f g h = subst (λ w. int_le w (int_min a b) ≡ true) (sym h) (grind (arith, ints, clamps))

pub min_high : (o p r : Option ℤ) (a b : ℤ) → IfSome o (λ l. int_le a l ≡ true)
    → IfSome p (λ l. int_le b l ≡ true) → IsMade int_min o p r
    → IfSome r (λ l. int_le (int_min a b) l ≡ true)
min_high o p None a b f g h = tt
min_high None p (Some z) a b f g h = absurd h
min_high (Some x) None (Some z) a b f g h = absurd h
min_high (Some x) (Some y) (Some z) a b f g h = subst (λ w. int_le (int_min a b) w ≡ true) (sym h) (grind (arith, ints, clamps))

-- a number between two others
pub above_lesser : (o p r : Option ℤ) (a b n : ℤ) → IfSome o (λ l. int_le l a ≡ true)
    → IfSome p (λ l. int_le l b ≡ true) → IsMade int_min o p r → int_le (int_min a b) n ≡ true
    → IfSome r (λ l. int_le l n ≡ true)
above_lesser o p None a b n f g h k = tt
above_lesser o p (Some z) a b n f g h k = let low = min_low o p (Some z) a b f g h in grind (arith, ints)

pub below_greater : (o p r : Option ℤ) (a b n : ℤ) → IfSome o (λ l. int_le a l ≡ true)
    → IfSome p (λ l. int_le b l ≡ true) → IsMade int_max o p r → int_le n (int_max a b) ≡ true
    → IfSome r (λ l. int_le n l ≡ true)
below_greater o p None a b n f g h k = tt
below_greater o p (Some z) a b n f g h k = let high = max_high o p (Some z) a b f g h in grind (arith, ints)

-- a number that counts or not
pub above_none : (a : ℤ) (b : Bool) → int_le (int_min a (pos 0)) (cond b a (pos 0)) ≡ true
above_none a true = grind (arith, ints, clamps)
above_none a false = grind (arith, ints, clamps)

pub below_all : (a : ℤ) (b : Bool) → int_le (cond b a (pos 0)) (int_max a (pos 0)) ≡ true
below_all a true = grind (arith, ints, clamps)
below_all a false = grind (arith, ints, clamps)

pub absolute_is : (a : ℤ) → int_max (int_max a (pos 0 -ℤ a)) (pos 0) ≡ pos (unsigned_abs a)
absolute_is (pos n) = grind (arith, ints, clamps)
absolute_is (negsuc n) = grind (arith, ints, clamps)

-- ---- products

pub times_up : (m : ℕ) (x y : ℤ) → int_le x y ≡ true → int_le (pos m *ℤ x) (pos m *ℤ y) ≡ true
times_up m (pos a) (pos b) h = let k : m * a ≤ m * b = mul-le-mul_left m (grind (arith, ints)) in grind (arith, ints)
times_up m (pos a) (negsuc b) h = absurd (grind (arith, ints))
times_up m (negsuc a) (pos b) h = grind (arith, ints)
times_up m (negsuc a) (negsuc b) h = let k : m * suc b ≤ m * suc a = mul-le-mul_left m (grind (arith, ints)) in grind (arith, ints)

pub times_down : (m : ℕ) (x y : ℤ) → int_le x y ≡ true
    → int_le (negsuc m *ℤ y) (negsuc m *ℤ x) ≡ true
times_down m (pos a) (pos b) h = let k : suc m * a ≤ suc m * b = mul-le-mul_left (suc m) (grind (arith, ints)) in grind (arith, ints)
times_down m (pos a) (negsuc b) h = absurd (grind (arith, ints))
times_down m (negsuc a) (pos b) h = grind (arith, ints)
times_down m (negsuc a) (negsuc b) h = let k : suc m * suc b ≤ suc m * suc a = mul-le-mul_left (suc m) (grind (arith, ints)) in grind (arith, ints)

-- by a number that isn't negative, and by one that is
pub times_in_order : (c x y : ℤ) → int_le (pos 0) c ≡ true → int_le x y ≡ true
    → int_le (c *ℤ x) (c *ℤ y) ≡ true
times_in_order (pos m) x y p h = times_up m x y h
times_in_order (negsuc m) x y p h = absurd (grind (arith, ints))

pub times_in_reverse : (c x y : ℤ) → int_le (pos 0) c ≡ false → int_le x y ≡ true
    → int_le (c *ℤ y) (c *ℤ x) ≡ true
times_in_reverse (pos m) x y p h = absurd (grind (arith, ints))
times_in_reverse (negsuc m) x y p h = times_down m x y h

-- a number that is the product, which is known
abbrev pub IsProduct : ℤ → Option ℤ → Option ℤ → Type 0
IsProduct c o r = IfSome r (λ z. IsSomeAnd o (λ x. z ≡ c *ℤ x))

module _ (c : ℤ) where
  pub product_low : (o r : Option ℤ) (a : ℤ) → int_le (pos 0) c ≡ true
      → IfSome o (λ l. int_le l a ≡ true) → IsProduct c o r
      → IfSome r (λ l. int_le l (c *ℤ a) ≡ true)
  product_low o None a p f h = tt
  product_low None (Some z) a p f h = absurd h
  product_low (Some x) (Some z) a p f h = let k = times_in_order c x a p f in grind (arith, ints)

  pub product_high : (o r : Option ℤ) (a : ℤ) → int_le (pos 0) c ≡ true
      → IfSome o (λ l. int_le a l ≡ true) → IsProduct c o r
      → IfSome r (λ l. int_le (c *ℤ a) l ≡ true)
  product_high o None a p f h = tt
  product_high None (Some z) a p f h = absurd h
  product_high (Some x) (Some z) a p f h = let k = times_in_order c a x p f in grind (arith, ints)

  pub product_low_of_high : (o r : Option ℤ) (a : ℤ) → int_le (pos 0) c ≡ false
      → IfSome o (λ l. int_le a l ≡ true) → IsProduct c o r
      → IfSome r (λ l. int_le l (c *ℤ a) ≡ true)
  product_low_of_high o None a p f h = tt
  product_low_of_high None (Some z) a p f h = absurd h
  product_low_of_high (Some x) (Some z) a p f h = let k = times_in_reverse c a x p f in grind (arith, ints)

  pub product_high_of_low : (o r : Option ℤ) (a : ℤ) → int_le (pos 0) c ≡ false
      → IfSome o (λ l. int_le l a ≡ true) → IsProduct c o r
      → IfSome r (λ l. int_le (c *ℤ a) l ≡ true)
  product_high_of_low o None a p f h = tt
  product_high_of_low None (Some z) a p f h = absurd h
  product_high_of_low (Some x) (Some z) a p f h = let k = times_in_reverse c x a p f in grind (arith, ints)

-- ---- the product of a number between two others

module _ (l a h b : ℤ) (low : int_le l a ≡ true) (high : int_le a h ≡ true) where
  pub product_above : int_le (int_min (l *ℤ b) (h *ℤ b)) (a *ℤ b) ≡ true
  product_above = elim (int_le (pos 0) b) as (λ t. int_le (pos 0) b ≡ t → int_le (int_min (l *ℤ b) (h *ℤ b)) (a *ℤ b) ≡ true) [
    | true ↦ λ e. smaller (l *ℤ b) (h *ℤ b) (a *ℤ b) (subst₂ (λ x y. int_le x y ≡ true) (*ℤ_comm b l) (*ℤ_comm b a) (times_in_order b l a e low))
    | false ↦ λ e. smaller_too (l *ℤ b) (h *ℤ b) (a *ℤ b) (subst₂ (λ x y. int_le x y ≡ true) (*ℤ_comm b h) (*ℤ_comm b a) (times_in_reverse b a h e high))
  ] refl
    where
      smaller : (x y z : ℤ) → int_le x z ≡ true → int_le (int_min x y) z ≡ true
      smaller x y z e = grind (arith, ints, clamps)

      smaller_too : (x y z : ℤ) → int_le y z ≡ true → int_le (int_min x y) z ≡ true
      smaller_too x y z e = grind (arith, ints, clamps)

  pub product_below : int_le (a *ℤ b) (int_max (l *ℤ b) (h *ℤ b)) ≡ true
  product_below = elim (int_le (pos 0) b) as (λ t. int_le (pos 0) b ≡ t → int_le (a *ℤ b) (int_max (l *ℤ b) (h *ℤ b)) ≡ true) [
    | true ↦ λ e. larger_too (l *ℤ b) (h *ℤ b) (a *ℤ b) (subst₂ (λ x y. int_le x y ≡ true) (*ℤ_comm b a) (*ℤ_comm b h) (times_in_order b a h e high))
    | false ↦ λ e. larger (l *ℤ b) (h *ℤ b) (a *ℤ b) (subst₂ (λ x y. int_le x y ≡ true) (*ℤ_comm b a) (*ℤ_comm b l) (times_in_reverse b l a e low))
  ] refl
    where
      larger : (x y z : ℤ) → int_le z x ≡ true → int_le z (int_max x y) ≡ true
      larger x y z e = grind (arith, ints, clamps)

      larger_too : (x y z : ℤ) → int_le z y ≡ true → int_le z (int_max x y) ≡ true
      larger_too x y z e = grind (arith, ints, clamps)
