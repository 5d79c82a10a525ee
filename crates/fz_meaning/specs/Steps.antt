-- The forced step of a point: the one value that a check point leaves to a variable (this project's
-- profile).
use Rattle.std.specs.Prelude.{◌≡◌, ℕ, ℤ, pos, negsuc, List, [], ◌∷◌, Option, Some, option_map, IsTrue, IsFalse, IsSomeAnd, IfSome, ⊤, ◌⊎◌, ◌↔◌, flat_map, slice_get, slice_set, Contains, is_none, FitsSigned}
use Rattle.std.specs.Int.{w64}
use Rattle.std.specs.List.{filter}
use Rattle.fz_base.specs.declared.value.Value.{Value}
use Rattle.fz_base.specs.declared.value.Value.TheVariants.{Int, Bool as Truth, Set}
use Rattle.fz_meaning.specs.declared.kind.Kind.{Kind}
use Rattle.fz_meaning.specs.declared.kind.Kind.TheVariants.{Int as IntKind}
use Rattle.fz_meaning.specs.Relations.{kind_of}
use Rattle.fz_meaning.specs.Results.{Result, result_of}
use Rattle.fz_meaning.specs.Results.Result.{NoResult, Places, UnitTerm}
use Rattle.fz_meaning.specs.Meaning.{Argument, Model, Point, Partial, variables_of, value, admits, terms_in, row_of, HoldsUnder}
use Rattle.fz_meaning.specs.States.{is_beyond, terms_at_argument}
use Rattle.fz_meaning.specs.declared.term.Term.{Term}
use Rattle.fz_meaning.specs.declared.term.Domain.{Domain}
use Rattle.fz_meaning.specs.declared.term.Term.TheVariants.{Var}
use Rattle.fz_meaning.specs.Meaning.Place.{Scalar}
use Rattle.fz_meaning.specs.Meaning.Argument.{One}
use Rattle.fz_meaning.specs.Meaning.Point.{DomainPoint, DefinitionPoint, ArrayPoint, ConstraintPoint}

-- the scalars in a point
abbrev pub terms_of : Point → List Term
terms_of (DomainPoint x n) = Var n ∷ []
terms_of (DefinitionPoint x n e) = Var n ∷ e ∷ []
terms_of (ArrayPoint name d ts) = ts
terms_of (ConstraintPoint k p) = flat_map terms_in p.arguments

-- those without a value
abbrev pub open_terms : Partial → List Term → List Term
open_terms K ts = filter (λ t. is_none (value K t)) ts

-- the domain has exactly one number
abbrev pub HasOneNumber : Domain → Type 0
HasOneNumber d = (n : ℤ) × ((k : ℤ) → IsTrue (admits d k) ↔ (k ≡ n))

-- the scalar variable is, as a name by itself, the argument at one of these indices
abbrev pub StandsAt : List Argument → ℕ → List ℕ → Type 0
StandsAt xs n is =
    (i : ℕ) × Contains is i × (k : Kind) × (slice_get xs i ≡ Some (One (Scalar k (Var n))))

-- the variable is an element of the second array, and its coefficient is 1 or -1
abbrev pub HasUnitCoefficient : Partial → List Argument → ℕ → Type 0
HasUnitCoefficient K xs n =
    (i : ℕ) × (slice_get (terms_at_argument xs 1) i ≡ Some (Var n))
    × (u : Term) × (slice_get (terms_at_argument xs 0) i ≡ Some u)
    × ((value K u ≡ Some (Int (pos 1))) ⊎ (value K u ≡ Some (Int (negsuc 0))))

abbrev pub IsResult : Partial → List Argument → ℕ → Result → Type 0
IsResult K xs n NoResult = ⊥
IsResult K xs n (Places is) = StandsAt xs n is
IsResult K xs n UnitTerm = HasUnitCoefficient K xs n

-- The variable is a target of the point: of the domain of an int variable that has exactly one
-- number; either side of a definition; of a known constraint its defined variable, where that is an
-- argument that its row lets `defines_var` name.
abbrev pub IsTarget : Partial → Point → ℕ → Type 0
IsTarget K (DomainPoint x n) y = (n ≡ y) × (x.kind ≡ IntKind) × HasOneNumber x.domain
IsTarget K (DefinitionPoint x n e) y = (n ≡ y) ⊎ (e ≡ Var y)
IsTarget K (ArrayPoint name d ts) y = ⊥
IsTarget K (ConstraintPoint k p) y =
    (p.target ≡ Some y) × IsSomeAnd (row_of p) (λ r. IsResult K p.arguments y (result_of r))

-- the kind of the variable with this number
abbrev pub kind_at : Model → ℕ → Option Kind
kind_at m n = option_map (λ x. x.kind) (slice_get (variables_of m) n)

-- an integer has signed 64 bits
abbrev pub WithinLimits : Value → Type 0
WithinLimits (Int n) = FitsSigned w64 n
WithinLimits (Truth b) = ⊤
WithinLimits (Set s) = ⊤

-- each number that the step needs can be computed: those of the constraint's row over the scalars
-- that have values
abbrev pub NumbersFit : Partial → Point → Type 0
NumbersFit K (DomainPoint x n) = ⊤
NumbersFit K (DefinitionPoint x n e) = ⊤
NumbersFit K (ArrayPoint name d ts) = ⊤
NumbersFit K (ConstraintPoint k p) = IfSome (row_of p) (λ r. IsFalse (is_beyond K p.arguments r))

-- a partial assignment with one more value
abbrev pub give : Partial → ℕ → Value → Partial
give K n v = slice_set K n (Some v)

-- The point gives the variable the value: the variable is its target, it is the point's only scalar
-- without a value, each number that the step needs can be computed, and with the value, which is of
-- the variable's kind and within the limits, the point holds.
pub record Gives (m : Model) (K : Partial) (p : Point) (n : ℕ) (v : Value) : Type 0 where
  pub target : IsTarget K p n
  pub only_open : open_terms K (terms_of p) ≡ Var n ∷ []
  pub of_kind : kind_at m n ≡ Some (kind_of v)
  pub within_limits : WithinLimits v
  pub numbers_fit : NumbersFit K p
  pub then_holds : HoldsUnder (give K n v) p

abbrev pub GivesNothing : Model → Partial → Point → Type 0
GivesNothing m K p = (n : ℕ) (v : Value) → Gives m K p n v → ⊥
