-- The filling of a block: the values that follow from the printed ones by forced steps (this
-- project's profile).
use Rattle.std.specs.Prelude.{◌≡◌, ◌≤◌, ◌<◌, ◌⊎◌, ℕ, suc, cond, List, [], ◌∷◌, ◌++◌, ◌==◌, Option, Some, None, flat_map, map, slice_get}
use Rattle.std.specs.List.{AllByRecursion}
use Rattle.std.specs.Option.{option_map_or}
use Rattle.fz_index.specs.of_model.of_base.declared.value.Value.{Value}
use Rattle.fz_index.specs.of_model.Names.{literal_value}
use Rattle.fz_index.specs.of_model.Meaning.{Place, Variable, Model, Point, Partial, variables_of, points, find_name, first_some}
use Rattle.fz_index.specs.of_model.declared.Term.{Term}
use Rattle.fz_index.specs.of_model.declared.Term.TheVariants.{Var, Fixed}
use Rattle.fz_index.specs.of_model.Meaning.Place.{Scalar, Array}
use Rattle.fz_index.specs.of_model.Steps.{Gives, GivesNothing, give}
use Rattle.fz_index.specs.of_model.Aimed.{GivesAny, GivesNone}
use Rattle.fz_filling.specs.declared.completion.Completion.{Completion}
use Rattle.fz_filling.specs.declared.completion.Completion.TheVariants.{Off, On}
use Rattle.fz_stream.specs.Parts.{SolutionBlock}
use Rattle.fz_stream.specs.of_syntax.Tree.{Printed, PrintedValue, OneValue, ArrayOf}

-- ---- the start of the filling

-- each scalar with the value that is printed for it
abbrev pub pairs : List Term → List Value → List (Term × Value)
pairs (t ∷ ts) (v ∷ vs) = (t, v) ∷ pairs ts vs
pairs _ _ = []

abbrev pub pairs_at : Place → PrintedValue → List (Term × Value)
pairs_at (Scalar k t) (OneValue l) = (t, literal_value l) ∷ []
pairs_at (Array x k ts) (ArrayOf is ls) = pairs ts (map literal_value ls)
pairs_at _ _ = []

-- each scalar that is printed, alone or as an array's element, in block order
abbrev pub printed_scalars : Model → List Printed → List (Term × Value)
printed_scalars m items =
    flat_map (λ i. option_map_or (λ p. pairs_at p i.value) (find_name m i.name) []) items

abbrev pub if_var : ℕ → (Term × Value) → Option Value
if_var n (Var k, v) = cond (k == n) (Some v) None
if_var n (Fixed w, v) = None

-- the value of a variable where it is printed first
abbrev pub first_printed : List (Term × Value) → ℕ → Option Value
first_printed ps n = first_some (if_var n) ps

abbrev pub start_from : List (Term × Value) → ℕ → List Variable → Partial
start_from ps n [] = []
start_from ps n (x ∷ xs) = first_printed ps n ∷ start_from ps (suc n) xs

abbrev pub start : Model → SolutionBlock → Partial
start m block = start_from (printed_scalars m block.items) 0 (variables_of m)

-- ---- the chain of the filling

-- the point with number j is passed on the way from the one with number `from` up to the one with
-- number k, where after the last one come those from the first on
abbrev pub IsPassed : ℕ → ℕ → ℕ → Type 0
IsPassed from k j = ((from ≤ j) × (j < k)) ⊎ ((k < from) × ((from ≤ j) ⊎ (j < k)))

-- The point with number k is the first that gives a step, from the point with number `from` on: the
-- points that are passed before it give none.
pub record IsFirstStep (m : Model) (K : Partial) (from k n : ℕ) (v : Value) : Type 0 where
  pub point : Point
  pub at : slice_get (points m) k ≡ Some point
  pub none_passed : (j : ℕ) (p : Point) → IsPassed from k j → slice_get (points m) j ≡ Some p
      → GivesNothing m K p
  pub gives : Gives m K point n v

-- The chain from a partial assignment and a point ends at a partial assignment where no point gives
-- a step. After each step the search goes on from the point that gave it.
pub data Chain (m : Model) : Partial → ℕ → Partial → Type 0 where
  Ends : {K : Partial} {from : ℕ} → AllByRecursion (GivesNothing m K) (points m) → Chain m K from K
  Step : {K F : Partial} {from k n : ℕ} {v : Value} → IsFirstStep m K from k n v
      → Chain m (give K n v) k F → Chain m K from F

-- ---- steps in whatever order, and the second filling, which goes on where the first ended

-- The point gives the variable the value: a constraint to its defined variable; or, where values
-- that the solver left out are looked for, by whichever result its row has.
abbrev pub IsGivenBy : Completion → Model → Partial → Point → ℕ → Value → Type 0
IsGivenBy Off m K p n v = Gives m K p n v
IsGivenBy On m K p n v = GivesAny m K p n v

-- The second is reached from the first by these steps in their order: each has the variable that
-- gets a value, and the number of the point that gives it.
pub data Run (c : Completion) (m : Model) : Partial → Partial → List (ℕ × ℕ) → Type 0 where
  Stays : {K : Partial} → Run c m K K []
  Goes : {K F : Partial} {n : ℕ} {steps : List (ℕ × ℕ)} (k : ℕ) (v : Value) (p : Point)
      → slice_get (points m) k ≡ Some p → IsGivenBy c m K p n v → Run c m (give K n v) F steps
      → Run c m K F ((n, k) ∷ steps)

-- it is reached by whichever results rows have, and no point gives anything any more
pub record IsFurthered (m : Model) (F G : Partial) : Type 0 where
  pub steps : List (ℕ × ℕ)
  pub reached : Run On m F G steps
  pub none_left : AllByRecursion (GivesNone m G) (points m)

-- Where values that a solver left out are looked for, the steps of the first filling come first, to
-- the end of its chain: a constraint's are to its defined variable. Those of the second follow.
pub record AreInTurn (m : Model) (K G : Partial) (steps : List (ℕ × ℕ)) : Type 0 where
  pub between : Partial
  pub first : List (ℕ × ℕ)
  pub second : List (ℕ × ℕ)
  pub chain : Chain m K 0 between
  pub to_defined : Run Off m K between first
  pub by_result : Run On m between G second
  pub order : steps ≡ first ++ second

-- ---- the filling of a block

-- What is reached from a partial assignment: the end of its chain, or the second filling from there
-- on where values that the solver left out are looked for.
abbrev pub IsFilledFrom : Completion → Model → Partial → Partial → Type 0
IsFilledFrom Off m K F = Chain m K 0 F
IsFilledFrom On m K G = (F : Partial) × Chain m K 0 F × IsFurthered m F G

-- the filling of the block: what is reached from its printed values
abbrev pub IsFilling : Completion → Model → SolutionBlock → Partial → Type 0
IsFilling c m block F = IsFilledFrom c m (start m block) F
