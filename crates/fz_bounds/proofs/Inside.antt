-- What lies inside bounds.
use Rattle.std.proofs.Common.{◌≡◌, ℕ, zero, suc, ℤ, pos, ◌≤ℤ◌, true, false, not, ◌||◌, Option, Some, None, refl, sym, ap, subst, subst₂, arith, IfSome, IsSomeAnd, IsTrue, int_lt, ◌⊎◌, inl, inr}
use Rattle.std.proofs.lemmas.Int.{ints}
use Rattle.fz_model.specs.of_base.declared.value.Value.{Value}
use Rattle.fz_model.specs.of_base.declared.value.Value.TheVariants.{Int, Bool as Truth, Set}
use Rattle.fz_model.specs.Relations.{◌=ˢ◌}
use Rattle.fz_model.specs.declared.Kind.{Kind}
use Rattle.fz_model.specs.declared.Kind.TheVariants.{Int as IntKind, Bool as BoolKind, Set as SetKind}
use Rattle.fz_model.specs.Meaning.{Assignment, Partial, value_at, whole}
use Rattle.fz_model.specs.Steps.{give}
use Rattle.fz_model.proofs.Values.{no, same_set_is, set_itself}
use Rattle.fz_model.proofs.Steps.{value_at_given, value_at_other}
use Rattle.fz_model.specs.Openings.{HasEach}
use Rattle.fz_bounds.specs.Bounds.{AreFixed, IsInside, LiesBetween, Ranges, is_at_most, narrowed, number_as}
use Rattle.fz_bounds.proofs.Giving.{given_there}

-- ---- the order of values

pub both_ways : (v w : Value) → is_at_most v w ≡ true → is_at_most w v ≡ true → v ≡ w
both_ways (Int a) (Int b) h k = let same : a ≡ b = grind (arith, ints) in ap Int same
both_ways (Truth true) (Truth true) h k = refl
both_ways (Truth true) (Truth false) h k = no h
both_ways (Truth false) (Truth true) h k = no k
both_ways (Truth false) (Truth false) h k = refl
both_ways (Set s) (Set t) h k = ap Set (same_set_is s t h)
both_ways _ _ h k = no h

pub at_most_through : (u v w : Value) → is_at_most u v ≡ true → is_at_most v w ≡ true
    → is_at_most u w ≡ true
at_most_through (Int a) (Int b) (Int c) h k = grind (arith, ints)
at_most_through (Truth true) (Truth true) (Truth true) h k = refl
at_most_through (Truth true) (Truth true) (Truth false) h k = no k
at_most_through (Truth true) (Truth false) w h k = no h
at_most_through (Truth false) (Truth b) (Truth c) h k = refl
at_most_through (Set s) (Set t) (Set u) h k =
    subst (λ z. (z =ˢ u) ≡ true) (sym (same_set_is s t h)) k
at_most_through (Int a) (Int b) (Truth c) h k = no k
at_most_through (Int a) (Int b) (Set c) h k = no k
at_most_through (Truth a) (Truth b) (Int c) h k = no k
at_most_through (Truth a) (Truth b) (Set c) h k = no k
at_most_through (Set a) (Set b) (Int c) h k = no k
at_most_through (Set a) (Set b) (Truth c) h k = no k
at_most_through _ _ w h k = no h

pub at_most_itself : (v : Value) → is_at_most v v ≡ true
at_most_itself (Int a) = grind (arith, ints)
at_most_itself (Truth true) = refl
at_most_itself (Truth false) = refl
at_most_itself (Set s) = set_itself s

pub numbers_in_order : (k : Kind) (a b : ℤ) → a ≤ℤ b
    → is_at_most (number_as k a) (number_as k b) ≡ true
numbers_in_order IntKind a b h = grind (arith, ints)
numbers_in_order SetKind a b h = grind (arith, ints)
numbers_in_order BoolKind a b h = truths a b h
  where
    truths : (a b : ℤ) → a ≤ℤ b → (not (int_lt (pos 0) a) || int_lt (pos 0) b) ≡ true
    truths a b h = grind (arith, ints)

-- ---- values that bounds fix

one_value : (o p q : Option Value) (v : Value) → o ≡ Some v → p ≡ Some v → LiesBetween o p q
    → q ≡ Some v
one_value (Some u) (Some w) (Some x) v d e h =
    let is_u : u ≡ v = cc in
    let is_w : w ≡ v = cc in
    let same : x ≡ v = both_ways x v (subst (λ z. is_at_most x z ≡ true) is_w h.1) (subst (λ z. is_at_most z x ≡ true) is_u h.0) in
    ap Some same
one_value (Some u) (Some w) None v d e h = absurd h.0
one_value None p q v d e h = cc
one_value (Some u) None q v d e h = cc

pub fixed_under : (B : Ranges) (K : Partial) (A : Assignment) → AreFixed B K → IsInside B A
    → HasEach K (whole A)
fixed_under B K A f inside n v e =
    one_value (value_at B.lowest n) (value_at B.highest n) (value_at (whole A) n) v (f.least n v e) (f.greatest n v e) (inside n)

-- ---- bounds of one variable

pub lies_given : (o p q : Option Value) (v w : Value) → ((u : Value) → o ≡ Some u → u ≡ v)
    → ((u : Value) → p ≡ Some u → u ≡ w) → LiesBetween (Some v) (Some w) q → LiesBetween o p q
lies_given o p q v w f g h = (one o v f h.0, other p w g h.1)
  where
    one : (o : Option Value) (v : Value) → ((u : Value) → o ≡ Some u → u ≡ v)
        → IsSomeAnd q (λ x. IsTrue (is_at_most v x))
        → IfSome o (λ u. IsSomeAnd q (λ x. IsTrue (is_at_most u x)))
    one None v f h = tt
    one (Some u) v f h = subst (λ z. IsSomeAnd q (λ x. IsTrue (is_at_most z x))) (sym (f u refl)) h

    other : (p : Option Value) (w : Value) → ((u : Value) → p ≡ Some u → u ≡ w)
        → IsSomeAnd q (λ x. IsTrue (is_at_most x w))
        → IfSome p (λ u. IsSomeAnd q (λ x. IsTrue (is_at_most x u)))
    other None w g h = tt
    other (Some u) w g h = subst (λ z. IsSomeAnd q (λ x. IsTrue (is_at_most x z))) (sym (g u refl)) h

pub same_or_other : (n k : ℕ) → (n ≡ k) ⊎ ((n ≡ k) → ⊥)
same_or_other zero zero = inl refl
same_or_other zero (suc k) = inr (λ e. cc)
same_or_other (suc n) zero = inr (λ e. cc)
same_or_other (suc n) (suc k) = elim (same_or_other n k) [ inl e ↦ inl (ap suc e) | inr h ↦ inr (λ e. h (omega arith)) ]

pub inside_narrowed : (B : Ranges) (A : Assignment) (n : ℕ) (v w : Value) → IsInside B A
    → LiesBetween (Some v) (Some w) (value_at (whole A) n) → IsInside (narrowed B n v w) A
inside_narrowed B A n v w inside lies k =
    elim (same_or_other k n) [
      | inl e ↦ subst (λ j. LiesBetween (value_at (give B.lowest n v) j) (value_at (give B.highest n w) j) (value_at (whole A) j)) (sym e) (lies_given (value_at (give B.lowest n v) n) (value_at (give B.highest n w) n) (value_at (whole A) n) v w (value_at_given B.lowest n v) (value_at_given B.highest n w) lies)
      | inr other ↦ subst₂ (λ o p. LiesBetween o p (value_at (whole A) k)) (sym (value_at_other B.lowest n k v other)) (sym (value_at_other B.highest n k w other)) (inside k)
    ]

looser : (l h v w : Value) (q : Option Value) → is_at_most l v ≡ true → is_at_most w h ≡ true
    → LiesBetween (Some v) (Some w) q → LiesBetween (Some l) (Some h) q
looser l h v w None f g lies = absurd lies.0
looser l h v w (Some x) f g lies =
    (at_most_through l v x f lies.0, at_most_through x w h lies.1 g)

pub narrowed_inside : (B : Ranges) (A : Assignment) (n : ℕ) (l h v w : Value)
    → value_at B.lowest n ≡ Some l → value_at B.highest n ≡ Some h → is_at_most l v ≡ true
    → is_at_most w h ≡ true → IsInside (narrowed B n v w) A → IsInside B A
narrowed_inside B A n l h v w low high f g inside k =
    elim (same_or_other k n) [
      | inl e ↦
          let here : LiesBetween (Some v) (Some w) (value_at (whole A) n) = subst₂ (λ o p. LiesBetween o p (value_at (whole A) n)) (given_there B.lowest n v l low) (given_there B.highest n w h high) (inside n) in
          let wide : LiesBetween (value_at B.lowest n) (value_at B.highest n) (value_at (whole A) n) = subst₂ (λ o p. LiesBetween o p (value_at (whole A) n)) (sym low) (sym high) (looser l h v w (value_at (whole A) n) f g here) in
          subst (λ j. LiesBetween (value_at B.lowest j) (value_at B.highest j) (value_at (whole A) j)) (sym e) wide
      | inr other ↦ subst₂ (λ o p. LiesBetween o p (value_at (whole A) k)) (value_at_other B.lowest n k v other) (value_at_other B.highest n k w other) (inside k)
    ]
