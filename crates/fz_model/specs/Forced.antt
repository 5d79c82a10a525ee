-- What a point forces. The contract of `only_number` cites `IsOnlyNumber`, and those of `forced`
-- and `forced_any` cite `Gives` and `GivesAny` alone; the rest is for private functions.
use Rattle.std.specs.Prelude.{◌≡◌, ℕ, ℤ, ◌<◌, ◌↔◌, true, false, slice_get, List, [], ◌∷◌, length, flat_map, Option, Some, None, IsTrue, IsSomeAnd}
use Rattle.fz_builtins.specs.of_meaning.of_base.declared.value.Value.{Value}
use Rattle.fz_builtins.specs.of_meaning.Relations.{kind_of}
use Rattle.fz_builtins.specs.of_meaning.declared.term.Domain.{Domain}
use Rattle.fz_builtins.specs.of_meaning.Builtins.{Row}
use Rattle.fz_builtins.specs.of_meaning.Results.{result_of}
use Rattle.fz_builtins.specs.of_meaning.declared.term.Term.TheVariants.{Var}
use Rattle.fz_builtins.specs.of_meaning.Meaning.{Argument, Model, Point, Partial, Posted, admits, argument_values, have_shapes, row_holds, row_of, terms_in}
use Rattle.fz_builtins.specs.of_meaning.States.{is_beyond, terms_at_argument}
use Rattle.fz_builtins.specs.of_meaning.Steps.{Gives, GivesNothing, HasOneNumber, IsResult, WithinLimits, kind_at, open_terms, give}
use Rattle.fz_model.specs.Aimed.{GivesAny, GivesNone}
use Rattle.fz_model.specs.declared.only.Spot.{Spot}
use Rattle.fz_model.specs.KindsFit.{each_fits}

-- the point gives this variable this value, or nothing
abbrev pub IsForced : Model → Partial → Point → Option (ℕ × Value) → Type 0
IsForced m K p (Some r) = Gives m K p r.0 r.1
IsForced m K p None = GivesNothing m K p

-- the same by any result of its row
abbrev pub IsForcedAny : Model → Partial → Point → Option (ℕ × Value) → Type 0
IsForcedAny m K p (Some r) = GivesAny m K p r.0 r.1
IsForcedAny m K p None = GivesNone m K p

-- the one number of the domain, where it has exactly one
abbrev pub IsOnlyNumber : Domain → Option ℤ → Type 0
IsOnlyNumber d (Some n) = (k : ℤ) → IsTrue (admits d k) ↔ (k ≡ n)
IsOnlyNumber d None = HasOneNumber d → ⊥

-- the variable with the value, where the value is of the variable's kind
abbrev pub IsFitting : Model → ℕ → Value → Option (ℕ × Value) → Type 0
IsFitting m n v (Some r) = (r ≡ (n, v)) × WithinLimits v × (kind_at m n ≡ Some (kind_of v))
IsFitting m n v None = kind_at m n ≡ Some (kind_of v) → ⊥

-- ---- a constraint with a row

-- a row of the table that some constraint fits
abbrev pub IsRow : Row → Type 0
IsRow r = (p : Posted) × (row_of p ≡ Some r)

-- With this value of the variable the row holds: the variable is in an argument that may be filled
-- and is the only open scalar, each number that is needed can be computed, and the value is within
-- the limits.
pub record Fills (K : Partial) (xs : List Argument) (r : Row) (n : ℕ) (v : Value) : Type 0 where
  pub only_open : open_terms K (flat_map terms_in xs) ≡ Var n ∷ []
  pub numbers_fit : is_beyond K xs r ≡ false
  pub result : IsResult K xs n (result_of r)
  pub within_limits : WithinLimits v
  pub holds : IsSomeAnd (argument_values (give K n v) xs) (λ vs. IsTrue (row_holds r vs))

-- the variable of the spot is there and is the only open scalar, and the values of the others are
-- of the kinds that the row asks for
pub record IsReady (K : Partial) (xs : List Argument) (r : Row) (s : Spot) : Type 0 where
  pub shaped : have_shapes r.shapes xs ≡ true
  pub only_open : open_terms K (flat_map terms_in xs) ≡ Var s.variable ∷ []
  pub stands : slice_get (terms_at_argument xs s.argument) s.place ≡ Some (Var s.variable)
  pub kinds : each_fits K r.shapes xs ≡ true

-- an answer is a value for the only open scalar; no answer says that no value does
abbrev pub IsOnlyValue : Partial → List Argument → Row → ℕ → Option Value → Type 0
IsOnlyValue K xs r n (Some v) =
    (open_terms K (flat_map terms_in xs) ≡ Var n ∷ []) × (n < length K → Fills K xs r n v)
IsOnlyValue K xs r n None = n < length K → (w : Value) → Fills K xs r n w → ⊥
