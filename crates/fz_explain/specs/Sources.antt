-- Where the value of a variable comes from, and the variables of a point (this project's profile).
use Rattle.std.specs.Prelude.{◌≡◌, ℕ, Bool, cond, List, [], ◌∷◌, ◌++◌, ◌==◌, Option, None, Some, slice_get}
use Rattle.std.specs.List.{list_any}
use Rattle.std.specs.Option.{option_map_or}
use Rattle.fz_store.specs.of_meaning.of_base.declared.value.Value.{Value}
use Rattle.fz_filling.specs.of_model.Meaning.{Model, Partial, Point, points, value_at}
use Rattle.fz_filling.specs.of_model.Steps.{terms_of}
use Rattle.fz_filling.specs.declared.completion.Completion.{Completion}
use Rattle.fz_filling.specs.Filling.{IsGivenBy, Run}
use Rattle.fz_filling.specs.of_model.declared.Term.{Term}
use Rattle.fz_filling.specs.of_model.declared.Term.TheVariants.{Var, Fixed}
use Rattle.fz_explain.specs.declared.source.Source.{Source}
use Rattle.fz_explain.specs.declared.source.Source.TheVariants as sources

-- the number of the point that gave the variable its value, of steps as `Run` has them: each a
-- variable and a point
abbrev pub giver_of : List (ℕ × ℕ) → ℕ → Option ℕ
giver_of [] n = None
giver_of (s ∷ steps) n = cond (s.0 == n) (Some s.1) (giver_of steps n)

-- where the value of a variable comes from, under a filling that took these steps: from the step
-- that gave it, or else it is printed
abbrev pub source_of : Partial → List (ℕ × ℕ) → ℕ → Source
source_of F steps n = option_map_or
    (λ v. option_map_or (λ k. sources.Given k) (giver_of steps n) sources.Printed)
    (value_at F n) sources.Nothing

-- ---- what that means, where the steps are those of a filling

-- The point of the number gave the variable the value, from the values before the step. These stay
-- in the filling, and each is printed or was given by a step before this one.
pub record IsGivenBefore (c : Completion) (m : Model) (F : Partial) (steps : List (ℕ × ℕ)) (n k : ℕ)
    (v : Value) : Type 0 where
  pub before : List (ℕ × ℕ)
  pub after : List (ℕ × ℕ)
  pub order : steps ≡ before ++ (n, k) ∷ after
  pub point : Point
  pub at : slice_get (points m) k ≡ Some point
  pub values : Partial
  pub gives : IsGivenBy c m values point n v
  pub earlier : (j : ℕ) (w : Value) → value_at values j ≡ Some w
      → (value_at F j ≡ Some w) × (source_of F steps j ≡ source_of values before j)

-- what is told of a value is true, where the steps go from the printed values to the filling
abbrev pub IsTrueSource : Completion → Model → Partial → Partial → List (ℕ × ℕ) → ℕ → Value
    → Source → Type 0
IsTrueSource c m K F steps n v sources.Printed = value_at K n ≡ Some v
IsTrueSource c m K F steps n v (sources.Given k) = IsGivenBefore c m F steps n k v
IsTrueSource c m K F steps n v sources.Nothing = ⊥

-- the contract of `sources_are_earlier`: who goes from a value to those that it was given from, and
-- on from these, ends at printed ones
abbrev pub SourcesAreEarlier : Type 0
SourcesAreEarlier = (c : Completion) (m : Model) (K F : Partial) (steps : List (ℕ × ℕ))
    → Run c m K F steps → (n : ℕ) (v : Value) → value_at F n ≡ Some v
    → IsTrueSource c m K F steps n v (source_of F steps n)

-- ---- the variables of a point

-- the number is listed
abbrev pub is_listed : List ℕ → ℕ → Bool
is_listed ns n = list_any (λ k. n == k) ns

-- with one more scalar: a variable is added at the end, unless it is listed
abbrev pub with_term : List ℕ → Term → List ℕ
with_term ns (Var n) = cond (is_listed ns n) ns (ns ++ n ∷ [])
with_term ns (Fixed v) = ns

abbrev pub with_terms : List ℕ → List Term → List ℕ
with_terms ns [] = ns
with_terms ns (t ∷ ts) = with_terms (with_term ns t) ts

-- the variables in a point, each once, in the order in which they first occur
abbrev pub variables_in : Point → List ℕ
variables_in p = with_terms [] (terms_of p)
