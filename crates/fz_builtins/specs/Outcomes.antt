-- The outcome of a row at the values that are given.
use Rattle.std.specs.Prelude.{ℕ, suc, Bool, cond, not, ◌||◌, List, [], ◌∷◌}
use Rattle.std.specs.List.{list_any}
use Rattle.fz_globals.specs.of_meaning.declared.kind.Kind.TheVariants.{Int as IntKind, Bool as BoolKind, Set as SetKind}
use Rattle.fz_globals.specs.of_meaning.declared.state.State.{State}
use Rattle.fz_globals.specs.of_meaning.declared.state.State.TheVariants.{TooLarge as TooLargeState, Unknown as UnknownState}
use Rattle.fz_globals.specs.of_meaning.Relations.{◌=ᴮ◌}
use Rattle.fz_globals.specs.of_meaning.Builtins.{Of, Row, Shape, Test}
use Rattle.fz_globals.specs.of_meaning.Builtins.Shape.{ScalarOf, ArrayOf}
use Rattle.fz_globals.specs.of_meaning.Meaning.{Argument, Partial}
use Rattle.fz_globals.specs.of_meaning.States.{judged}
use Rattle.fz_globals.specs.of_kernel.Given.{int_at, bool_at, set_at, ints_at, bools_at, sets_at, read_leaves, read_unknown}
use Rattle.fz_builtins.specs.declared.outcome.Outcome.{Outcome}
use Rattle.fz_builtins.specs.declared.outcome.Outcome.TheVariants.{Truth, TooLarge, Unknown}

-- the argument at an index, read as its kind asks
abbrev pub argument_at : Partial → List Argument → ℕ → (s : Shape) → Of s
argument_at K xs i (ScalarOf IntKind) = int_at K xs i
argument_at K xs i (ScalarOf BoolKind) = bool_at K xs i
argument_at K xs i (ScalarOf SetKind) = set_at K xs i
argument_at K xs i (ArrayOf IntKind) = ints_at K xs i
argument_at K xs i (ArrayOf BoolKind) = bools_at K xs i
argument_at K xs i (ArrayOf SetKind) = sets_at K xs i

-- a test at the arguments from an index on
abbrev pub test_from : ℕ → Partial → List Argument → (ss : List Shape) → Test ss → Bool
test_from i K xs [] t = t
test_from i K xs (s ∷ ss) t = test_from (suc i) K xs ss (t (argument_at K xs i s))

-- too large where a sum leaves 128 bits, or else a Boolean
abbrev pub sum_outcome : Bool → Bool → Outcome
sum_outcome leaves holds = cond leaves TooLarge (Truth holds)

-- a number of the row can't be computed, and the outcome then
abbrev pub reads_beyond : Row → Partial → List Argument → Bool
reads_beyond r K xs = list_any (read_leaves K xs) r.wide

abbrev pub outcome_beyond : Row → Partial → List Argument → Outcome
outcome_beyond r K xs = cond (list_any (read_unknown K xs) r.wide) Unknown TooLarge

-- whether the row holds, unless a number of it can't be computed
unfoldable pub row_outcome : Row → Partial → List Argument → Outcome
row_outcome r K xs =
    cond (reads_beyond r K xs) (outcome_beyond r K xs) (Truth (test_from 0 K xs r.shapes r.holds))

-- reified: the Boolean says whether the row holds
abbrev pub compared : Bool → Outcome → Outcome
compared t TooLarge = TooLarge
compared t Unknown = Unknown
compared t (Truth b) = Truth (t =ᴮ b)

-- half-reified: the row holds, or the Boolean is false
abbrev pub implied_by : Bool → Outcome → Outcome
implied_by t TooLarge = TooLarge
implied_by t Unknown = Unknown
implied_by t (Truth b) = Truth (not t || b)

-- the state of a constraint with that outcome
abbrev pub told : Outcome → State
told TooLarge = TooLargeState
told Unknown = UnknownState
told (Truth b) = judged b
