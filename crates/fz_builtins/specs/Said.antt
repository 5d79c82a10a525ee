-- What a row says: whether it holds; or which value its result has to be, by the other arguments.
use Rattle.std.specs.Prelude.{◌≡◌, ⊤, ℕ, zero, suc, ℤ, Bool, false, cond, List, [], ◌∷◌, Option, None, Some, option_map, slice_get}
use Rattle.std.specs.Option.{option_map_or}
use Rattle.fz_globals.specs.of_meaning.of_base.Sets.{NumberSet}
use Rattle.fz_globals.specs.of_meaning.of_base.declared.value.Value.{Value}
use Rattle.fz_globals.specs.of_meaning.of_base.declared.value.Value.TheVariants.{Int, Bool as Truth, Set}
use Rattle.fz_globals.specs.of_meaning.declared.kind.Kind.{Kind}
use Rattle.fz_globals.specs.of_meaning.declared.kind.Kind.TheVariants.{Int as IntKind, Bool as BoolKind, Set as SetKind}
use Rattle.fz_globals.specs.of_meaning.Relations.{◌=ℤ◌, ◌=ᴮ◌, ◌=ˢ◌}
use Rattle.fz_globals.specs.of_meaning.Builtins.{Row, Shape, Test, read}
use Rattle.fz_globals.specs.of_meaning.Builtins.Shape.{ScalarOf}
use Rattle.fz_globals.specs.of_meaning.Builtins.ArgValue.{OneValue}
use Rattle.fz_globals.specs.of_meaning.Results.{Result, result_of}
use Rattle.fz_globals.specs.of_meaning.Results.Result.{NoResult, Places, UnitTerm}
use Rattle.fz_globals.specs.of_meaning.Meaning.{Argument, Partial}
use Rattle.fz_builtins.specs.Outcomes.{argument_at, reads_beyond, row_outcome, test_from}
use Rattle.fz_builtins.specs.declared.outcome.Outcome.{Outcome}
use Rattle.fz_builtins.specs.declared.outcome.Outcome.TheVariants as outcome
use Rattle.fz_builtins.specs.declared.said.Said.{Said}
use Rattle.fz_builtins.specs.declared.said.Said.TheVariants as said

-- the value is the one of the result, if there is one
abbrev pub is_result : {A : Type 0} → (A → A → Bool) → Option A → A → Bool
is_result same o v = option_map_or (same v) o false

-- a test at the arguments, with v in the place of the scalar at index i
abbrev pub test_with : ℕ → Partial → List Argument → (ss : List Shape) → Test ss → ℕ → Value → Bool
test_with j K xs [] t i v = false
test_with j K xs (s ∷ ss) t zero v =
    option_map_or (λ x. test_from (suc j) K xs ss (t x)) (read s (OneValue v)) false
test_with j K xs (s ∷ ss) t (suc i) v = test_with (suc j) K xs ss (t (argument_at K xs j s)) i v

-- whether the row holds with the value v at index i
abbrev pub row_with : Row → Partial → List Argument → ℕ → Value → Bool
row_with r K xs i v = test_with 0 K xs r.shapes r.holds i v

-- where the result is: of two, either of which may be it, the first or the second
abbrev pub asked_place : Bool → Result → Option ℕ
asked_place first (Places (i ∷ [])) = Some i
asked_place first (Places (zero ∷ suc zero ∷ [])) = Some (cond first 0 1)
asked_place first _ = None

-- each number of the row can be computed, and its result is the scalar of the kind at index i
abbrev pub HasResult : Row → Bool → Partial → List Argument → ℕ → Kind → Type 0
HasResult r first K xs i k = (asked_place first (result_of r) ≡ Some i)
    × (slice_get r.shapes i ≡ Some (ScalarOf k)) × (reads_beyond r K xs ≡ false)

-- a row that has no result among its scalars
abbrev pub HasNone : Result → Type 0
HasNone NoResult = ⊤
HasNone (Places is) = ⊥
HasNone UnitTerm = ⊤

-- such a row, where it is told whether it holds
abbrev pub HasNoneIfTold : Outcome → Result → Type 0
HasNoneIfTold (outcome.Truth holds) o = HasNone o
HasNoneIfTold outcome.TooLarge o = ⊤
HasNoneIfTold outcome.Unknown o = ⊤

abbrev pub IsSaid : Row → Bool → Partial → List Argument → Said → Type 0
IsSaid r first K xs (said.Whether o) =
    (o ≡ row_outcome r K xs) × HasNoneIfTold o (result_of r)
IsSaid r first K xs (said.Number i o) = HasResult r first K xs i IntKind
    × ((v : ℤ) → row_with r K xs i (Int v) ≡ is_result ◌=ℤ◌ o v)
IsSaid r first K xs (said.Boolean i o) = HasResult r first K xs i BoolKind
    × ((v : Bool) → row_with r K xs i (Truth v) ≡ is_result ◌=ᴮ◌ o v)
IsSaid r first K xs (said.Set i s) = HasResult r first K xs i SetKind
    × ((v : NumberSet) → row_with r K xs i (Set v) ≡ (v =ˢ s))
IsSaid r first K xs (said.Given i o) = HasResult r first K xs i SetKind
    × ((v : NumberSet) → row_with r K xs i (Set v) ≡ is_result ◌=ˢ◌ (option_map (λ s. s.now) o) v)
