-- Arguments of a constraint that lie within bounds (private functions only).
use Rattle.std.specs.Prelude.{◌≡◌, ℕ, ℤ, Bool, List, false, map, true}
use Rattle.fz_model.specs.declared.Kind.TheVariants.{Int as IntKind, Bool as BoolKind, Set as SetKind}
use Rattle.fz_model.specs.Builtins.{Row, Shape}
use Rattle.fz_model.specs.Meaning.{Argument, Partial}
use Rattle.fz_model.specs.Parts.{constraint_view}
use Rattle.fz_model.specs.Relations.{as_number}
use Rattle.fz_model.specs.of_builtins.of_kernel.Given.{are_read, bool_at, bools_at, int_at, ints_at, set_at}
use Rattle.fz_model.specs.of_builtins.Outcomes.{test_from}
use Rattle.fz_bounds.specs.Between.{AreAtMost, AreBetween, at_most}
use Rattle.fz_bounds.specs.Decided.{Decides}
use Rattle.fz_bounds.specs.declared.bounded.BoundedConstraint.{BoundedConstraint}
use Rattle.fz_bounds.specs.declared.outlook.Outlook.{Outlook}

-- the arguments
abbrev pub given : BoundedConstraint → List Argument
given s = (constraint_view s.parts).arguments

-- the argument at an index lies between its least and its greatest value
pub record NumberLies (s : BoundedConstraint) (i : ℕ) (K : Partial) : Type 0 where
  pub low : at_most IntKind (int_at s.lowest.now (given s) i) (int_at K (given s) i) ≡ true
  pub high : at_most IntKind (int_at K (given s) i) (int_at s.highest.now (given s) i) ≡ true

pub record TruthLies (s : BoundedConstraint) (i : ℕ) (K : Partial) : Type 0 where
  pub low : at_most BoolKind (bool_at s.lowest.now (given s) i) (bool_at K (given s) i) ≡ true
  pub high : at_most BoolKind (bool_at K (given s) i) (bool_at s.highest.now (given s) i) ≡ true

-- a set lies only within itself
pub record SetLies (s : BoundedConstraint) (i : ℕ) (K : Partial) : Type 0 where
  pub low : at_most SetKind (set_at s.lowest.now (given s) i) (set_at K (given s) i) ≡ true
  pub high : at_most SetKind (set_at K (given s) i) (set_at s.highest.now (given s) i) ≡ true

-- each element does
pub record NumbersLie (s : BoundedConstraint) (i : ℕ) (K : Partial) : Type 0 where
  pub low : AreAtMost IntKind (ints_at s.lowest.now (given s) i) (ints_at K (given s) i)
  pub high : AreAtMost IntKind (ints_at K (given s) i) (ints_at s.highest.now (given s) i)

pub record TruthsLie (s : BoundedConstraint) (i : ℕ) (K : Partial) : Type 0 where
  pub low : AreAtMost BoolKind (bools_at s.lowest.now (given s) i) (bools_at K (given s) i)
  pub high : AreAtMost BoolKind (bools_at K (given s) i) (bools_at s.highest.now (given s) i)

-- each element does, of an array of Booleans or of integers
abbrev pub ElementsLie : Bool → BoundedConstraint → ℕ → Partial → Type 0
ElementsLie true s i K = TruthsLie s i K
ElementsLie false s i K = NumbersLie s i K

-- the elements as numbers: of Booleans, 0 is false and 1 is true
abbrev pub numbers_at : Bool → Partial → List Argument → ℕ → List ℤ
numbers_at true K xs i = map as_number (bools_at K xs i)
numbers_at false K xs i = ints_at K xs i

-- all arguments, read as these kinds ask
abbrev pub IsBetween : BoundedConstraint → Partial → List Shape → Type 0
IsBetween s K ss = AreBetween s.lowest.now K s.highest.now (given s) ss

-- the row has this outcome at all arguments within the bounds
abbrev pub Foretells : BoundedConstraint → Row → Outlook → Type 0
Foretells s r o = (K : Partial) → IsBetween s K r.shapes
    → Decides o (test_from 0 K (given s) r.shapes r.holds)

-- what is said of the Boolean at an index
abbrev pub TellsTruth : BoundedConstraint → ℕ → Outlook → Type 0
TellsTruth s i o = (K : Partial) → TruthLies s i K → Decides o (bool_at K (given s) i)

-- each scalar has a least and a greatest value, of the kinds that are asked for
pub record AreKnown (s : BoundedConstraint) (ss : List Shape) : Type 0 where
  pub low : are_read s.lowest.now ss (given s) ≡ true
  pub high : are_read s.highest.now ss (given s) ≡ true
