-- Values that fit a model's variables: none at all, one more of its variable's kind, and one less.
use Rattle.std.proofs.Common.{◌≡◌, ℕ, zero, suc, ◌<◌, List, [], ◌∷◌, length, map, None, Some, option_map, slice_get, slice_set, refl, ap, arith}
use Rattle.fz_base.specs.declared.value.Value.{Value}
use Rattle.fz_meaning.specs.declared.kind.Kind.{Kind}
use Rattle.fz_meaning.specs.Meaning.{FitVariables, IsPartial, Model, Partial, Variable, variables_of}
use Rattle.fz_meaning.specs.Steps.{kind_at, give}
use Rattle.fz_meaning.specs.Relations.{kind_of}

pub fits_length : (xs : List Variable) (K : Partial) → FitVariables xs K → length K ≡ length xs
fits_length [] [] h = refl
fits_length (x ∷ xs) (o ∷ K) h = ap suc (fits_length xs K h.1)
fits_length _ _ h = absurd h

in_range : (xs : List Variable) (K : Partial) (n : ℕ) (k : Kind) → FitVariables xs K
    → option_map (λ x. x.kind) (slice_get xs n) ≡ Some k → n < length K
in_range [] K n k h e = cc
in_range (x ∷ xs) [] n k h e = absurd h
in_range (x ∷ xs) (o ∷ K) zero k h e = omega arith
in_range (x ∷ xs) (o ∷ K) (suc n) k h e = let below : n < length K = in_range xs K n k h.1 e in omega arith

-- a number that has a kind is that of a variable, so it is an index of the values
pub has_place : (m : Model) (K : Partial) (n : ℕ) (k : Kind) → IsPartial m K → kind_at m n ≡ Some k
    → n < length K
has_place m K n k h e = in_range (variables_of m) K n k h e

pub nothing_fits : (xs : List Variable) → FitVariables xs (map (λ x. None) xs)
nothing_fits [] = tt
nothing_fits (x ∷ xs) = (tt, nothing_fits xs)

pub give_fits : (xs : List Variable) (K : Partial) (n : ℕ) (v : Value) → FitVariables xs K
    → option_map (λ x. x.kind) (slice_get xs n) ≡ Some (kind_of v) → FitVariables xs (give K n v)
give_fits [] [] n v h e = cc
give_fits (x ∷ xs) (o ∷ K) zero v h e = let same : kind_of v ≡ x.kind = cc in (same, h.1)
give_fits (x ∷ xs) (o ∷ K) (suc n) v h e = (h.0, give_fits xs K n v h.1 e)
give_fits _ _ n v h e = absurd h

pub less_fits : (xs : List Variable) (K : Partial) (n : ℕ) → FitVariables xs K
    → FitVariables xs (slice_set K n None)
less_fits [] [] n h = h
less_fits (x ∷ xs) (o ∷ K) zero h = (tt, h.1)
less_fits (x ∷ xs) (o ∷ K) (suc n) h = (h.0, less_fits xs K n h.1)
less_fits _ _ n h = absurd h
