-- Another value of a variable.
use Rattle.std.proofs.Common.{◌≡◌, ℕ, zero, suc, ◌≤◌, [], ◌∷◌, length, Some, refl, sym, ap, arith}
use Rattle.fz_model.specs.of_base.declared.value.Value.{Value}
use Rattle.fz_model.specs.Meaning.{Partial, value_at}
use Rattle.fz_model.specs.Steps.{give}
use Rattle.fz_model.specs.Partial.{without}
use Rattle.fz_model.specs.Openings.{HasEach}

pub given_anew : (K : Partial) (n : ℕ) (v : Value) → give (without K n) n v ≡ give K n v
given_anew [] n v = refl
given_anew (o ∷ K) zero v = refl
given_anew (o ∷ K) (suc n) v = ap (λ L. o ∷ L) (given_anew K n v)

-- where there is no such variable
pub none_to_give : (K : Partial) (n : ℕ) (v : Value) → length (without K n) ≤ n
    → without K n ≡ give K n v
none_to_give [] n v h = refl
none_to_give (o ∷ K) zero v h = absurd (omega arith)
none_to_give (o ∷ K) (suc n) v h =
    let less : length (without K n) ≤ n = omega arith in ap (λ L. o ∷ L) (none_to_give K n v less)

pub given_back : (K : Partial) (n : ℕ) (v w : Value) → value_at K n ≡ Some w
    → give (give K n v) n w ≡ K
given_back [] n v w e = refl
given_back (o ∷ K) zero v w e = ap (λ p. p ∷ K) (sym e)
given_back (o ∷ K) (suc n) v w e = ap (λ L. o ∷ L) (given_back K n v w e)

pub given_twice : (K : Partial) (n : ℕ) (v w : Value) → give (give K n v) n w ≡ give K n w
given_twice [] n v w = refl
given_twice (o ∷ K) zero v w = refl
given_twice (o ∷ K) (suc n) v w = ap (λ L. o ∷ L) (given_twice K n v w)

pub given_there : (K : Partial) (n : ℕ) (v w : Value) → value_at K n ≡ Some w
    → value_at (give K n v) n ≡ Some v
given_there [] n v w e = cc
given_there (o ∷ K) zero v w e = refl
given_there (o ∷ K) (suc n) v w e = given_there K n v w e

-- ---- one partial assignment under another

pub one_less : (K L : Partial) (n : ℕ) (v : Value) → HasEach K L → length L ≡ length K
    → HasEach (without K n) (give L n v)
one_less [] L n v under as_many k u e = cc
one_less (o ∷ K) [] n v under as_many k u e = absurd (omega arith)
one_less (o ∷ K) (p ∷ L) zero v under as_many zero u e = cc
one_less (o ∷ K) (p ∷ L) zero v under as_many (suc k) u e = under (suc k) u e
one_less (o ∷ K) (p ∷ L) (suc n) v under as_many zero u e = under zero u e
one_less (o ∷ K) (p ∷ L) (suc n) v under as_many (suc k) u e =
    one_less K L n v (λ k. under (suc k)) (omega arith) k u e
