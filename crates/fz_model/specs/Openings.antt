-- What a constraint waits for before it can give its defined variable a value: the contract of
-- `opening_of` cites `IsOpening`, and laws above cite `HasEach`. What follows that is for private
-- functions: the scalars of an argument, and which of them have no value.
use Rattle.std.specs.Prelude.{◌≡◌, ℕ, true, List, [], ◌∷◌, Option, None, Some, flat_map, map, slice_get, ⊤, ◌⊎◌}
use Rattle.std.specs.List.{Contains, list_all}
use Rattle.fz_builtins.specs.of_meaning.of_base.declared.value.Value.{Value}
use Rattle.fz_builtins.specs.of_meaning.declared.term.Term.{Term}
use Rattle.fz_builtins.specs.of_meaning.declared.term.Term.TheVariants.{Var}
use Rattle.fz_builtins.specs.of_meaning.Meaning.{Model, Partial, Posted, row_of, terms_in, value_at}
use Rattle.fz_builtins.specs.of_meaning.States.{terms_at_argument}
use Rattle.fz_builtins.specs.of_meaning.Meaning.Point.{ConstraintPoint}
use Rattle.fz_builtins.specs.of_meaning.Steps.{GivesNothing, open_terms}
use Rattle.fz_builtins.specs.of_store.declared.Argument.{Argument}
use Rattle.fz_builtins.specs.of_store.declared.Argument.TheVariants as arguments
use Rattle.fz_builtins.specs.of_store.declared.point.ConstraintParts.{ConstraintParts}
use Rattle.fz_builtins.specs.of_store.Parts.{argument_view}
use Rattle.fz_builtins.specs.of_store.Slots.{is_scalar, segment}
use Rattle.fz_model.specs.declared.only.Open.{Open}
use Rattle.fz_model.specs.declared.only.Open.TheVariants.{Nothing, Target, Other}
use Rattle.fz_model.specs.declared.only.Opening.{Opening}
use Rattle.fz_model.specs.declared.only.Opening.TheVariants.{Never, Waits, At}
use Rattle.fz_model.specs.declared.only.Spot.{Spot}

-- the second has each value of the first
abbrev pub HasEach : Partial → Partial → Type 0
HasEach K L = (n : ℕ) (v : Value) → value_at K n ≡ Some v → value_at L n ≡ Some v

-- the defined variable is the constraint's only scalar without a value, and stands at the spot
pub record IsAlone (K : Partial) (p : Posted) (s : Spot) : Type 0 where
  pub target : p.target ≡ Some s.variable
  pub only_open : open_terms K (flat_map terms_in p.arguments) ≡ Var s.variable ∷ []
  pub stands : slice_get (terms_at_argument p.arguments s.argument) s.place ≡ Some (Var s.variable)

-- It gives nothing under any later values; or as long as one of its variables, which has no value
-- now, has none; or its defined variable alone has none.
abbrev pub IsOpening : Partial → Posted → Opening → Type 0
IsOpening K p Never =
    (m : Model) (k : ℕ) (L : Partial) → HasEach K L → GivesNothing m L (ConstraintPoint k p)
IsOpening K p (Waits a) = (value_at K a ≡ None)
    × ((m : Model) (k : ℕ) (L : Partial) → HasEach K L → value_at L a ≡ None
    → GivesNothing m L (ConstraintPoint k p))
    × Contains (open_terms K (flat_map terms_in p.arguments)) (Var a)
IsOpening K p (At s) = IsAlone K p s

-- a variable without a value that is there; or there is none, or no row that could give one
abbrev pub IsOpenIn : Partial → Posted → Option ℕ → Type 0
IsOpenIn K p None = (row_of p ≡ None) ⊎ (open_terms K (flat_map terms_in p.arguments) ≡ [])
IsOpenIn K p (Some n) = Contains (open_terms K (flat_map terms_in p.arguments)) (Var n)

-- ---- the scalars of an argument

-- no array is in a list, as in each constraint that fits a row
abbrev pub IsFlat : ConstraintParts → Argument → Type 0
IsFlat c (arguments.One s) = ⊤
IsFlat c (arguments.List g) = list_all is_scalar (segment c.store.now.slots.items g) ≡ true

abbrev pub terms_of : ConstraintParts → Argument → List Term
terms_of c a = terms_in (argument_view c.variables.now c.arrays.now c.store.now a)

-- the constraint with these arguments and this defined variable
abbrev pub posted_with : ConstraintParts → List Argument → ℕ → Posted
posted_with c as' n = record {
  name = c.posted.now.name.now;
  arguments = map (argument_view c.variables.now c.arrays.now c.store.now) as';
  target = Some n;
}

-- ---- which of them have no value, now and under any later values

-- more than the variable alone
abbrev pub IsMore : ℕ → List Term → Type 0
IsMore n ts = (ts ≡ [] → ⊥) × (ts ≡ Var n ∷ [] → ⊥)

-- none; the variable alone, once, at an index counted from 0; or more than that, as long as one of
-- them, which has no value now, has none
abbrev pub AreOpen : Partial → ℕ → List Term → Open → Type 0
AreOpen K n ts Nothing = (L : Partial) → HasEach K L → open_terms L ts ≡ []
AreOpen K n ts (Target i) = (value_at K n ≡ None) × (slice_get ts i ≡ Some (Var n))
    × ((L : Partial) → HasEach K L → open_terms L ts ≡ open_terms L (Var n ∷ []))
AreOpen K n ts (Other a) = (value_at K a ≡ None)
    × ((L : Partial) → HasEach K L → value_at L a ≡ None → IsMore n (open_terms L ts))
    × Contains (open_terms K ts) (Var a)
