-- One more value in a partial assignment, and what is forced of a point.
use Rattle.std.proofs.Common.{◌≡◌, ℕ, zero, suc, ◌<◌, false, Bor, is_some, List, [], ◌∷◌, length, Option, Some, None, option_map, Result, Ok, Err, IfOk, IfSome, IsNone, slice_get, refl, sym, subst, arith}
use Rattle.fz_builtins.specs.of_meaning.of_base.declared.value.Value.{Value}
use Rattle.fz_builtins.specs.of_meaning.Meaning.{Model, Point, Partial, value_at}
use Rattle.fz_builtins.specs.of_meaning.Steps.{Gives, GivesNothing, give}
use Rattle.fz_builtins.proofs.of_meaning.Values.{no, no'}
use Rattle.fz_model.specs.Forced.{IsForced}

-- ---- one more value

pub value_at_new : (K : Partial) (n : ℕ) (v : Value) → n < length K
    → value_at (give K n v) n ≡ Some v
value_at_new [] n v h = absurd (omega arith)
value_at_new (o ∷ K) zero v h = refl
value_at_new (o ∷ K) (suc n) v h = value_at_new K n v (omega arith)

-- ---- what is forced

module _ (m : Model) (K : Partial) (p : Point) (ps : List Point) (k : ℕ) (at : slice_get ps k ≡ Some p) where
  pub gives : (o : Option (ℕ × Value)) → IsForced m K p o
      → IfSome o (λ r. (q : Point) → slice_get ps k ≡ Some q → Gives m K q r.0 r.1)
  gives None h = tt
  gives (Some r) h = λ q is. let same : p ≡ q = cc in subst (λ z. Gives m K z r.0 r.1) same h

  pub gives_nothing : (o : Option (ℕ × Value)) → IsForced m K p o → IsNone o → (q : Point)
      → slice_get ps k ≡ Some q → GivesNothing m K q
  gives_nothing (Some r) h none = no' none
  gives_nothing None h none = λ q is. let same : p ≡ q = cc in subst (GivesNothing m K) same h

  pub forces : {E : Type 0} (r : Result (Option (ℕ × Value)) E) → IfOk r (λ o. IsForced m K p o)
      → IfOk r (λ o. IfSome o (λ q. (z : Point) → slice_get ps k ≡ Some z → Gives m K z q.0 q.1))
  forces (Err e) h = tt
  forces (Ok o) h = gives o h

  pub forces_nothing : {E : Type 0} (r : Result (Option (ℕ × Value)) E)
      → IfOk r (λ o. IsForced m K p o)
      → IfOk r (λ o. IsNone o → (q : Point) → slice_get ps k ≡ Some q → GivesNothing m K q)
  forces_nothing (Err e) h = tt
  forces_nothing (Ok o) h = gives_nothing o h

-- what is found to be none
pub gone : {A : Type 0} (o : Option (Bor A)) (p : Option A) → false ≡ is_some o
    → option_map (λ x. x.now) o ≡ p → p ≡ None
gone None p none e = sym e
gone (Some x) p none e = no none
