-- Products of two lists, of which one has ended.
use Rattle.std.proofs.Common.{◌≡◌, ◌≤◌, ℕ, zero, suc, List, [], ◌∷◌, drop, length, map, min, refl, arith}
use Rattle.fz_filling.specs.of_model.Meaning.{Partial}
use Rattle.fz_filling.specs.of_model.States.{known_products}
use Rattle.fz_filling.specs.of_model.Slots.{scalar_term}
use Rattle.fz_filling.specs.of_model.declared.Scalar.{Scalar}
use Rattle.fz_filling.specs.of_model.declared.Term.{Term}

none_with : (K : Partial) (ts : List Term) → known_products K ts [] ≡ []
none_with K [] = refl
none_with K (t ∷ ts) = refl

pub no_products : (K : Partial) (xs ys : List Scalar) (n : ℕ) → min (length xs) (length ys) ≤ n
    → known_products K (map scalar_term (drop n xs)) (map scalar_term (drop n ys)) ≡ []
no_products K [] ys zero h = refl
no_products K [] ys (suc n) h = refl
no_products K (x ∷ xs) [] zero h = refl
no_products K (x ∷ xs) [] (suc n) h = none_with K (map scalar_term (drop n xs))
no_products K (x ∷ xs) (y ∷ ys) zero h = absurd (omega (arith, h))
no_products K (x ∷ xs) (y ∷ ys) (suc n) h = no_products K xs ys n (omega (arith, h))
