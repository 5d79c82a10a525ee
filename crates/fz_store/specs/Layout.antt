-- The loaded model: what its fields stand for, and how they fit together (this project's profile).
use Rattle.std.specs.Prelude.{◌≡◌, ℕ, ◌<◌, ⊤, List, length, map, flat_map, is_some, IsTrue, Some, option_map, slice_get}
use Rattle.std.specs.List.{AllByRecursion}
use Rattle.fz_meaning.specs.Meaning as meaning
use Rattle.fz_meaning.specs.Meaning.{Model, find_name, name_of, place_named, numbered, variables_of, declared_points, row_of}
use Rattle.fz_store.specs.declared.parts.Variable.{Variable}
use Rattle.fz_store.specs.declared.parts.Array.{Array}
use Rattle.fz_store.specs.Naming.{Declared}
use Rattle.fz_store.specs.Naming.{Declared as declarations}
use Rattle.fz_store.specs.declared.parts.DeclaredPoint.{DeclaredPoint}
use Rattle.fz_store.specs.declared.parts.DeclaredPoint.TheVariants as points
use Rattle.fz_store.specs.declared.model.Model.TheInside.{Inside}
use Rattle.fz_store.specs.Kinds.{PlaceFits, PostedFits}
use Rattle.fz_store.specs.Parts.{variable_view, posted_view, kept_row, goal_view, declared_point, definition_at}
use Rattle.fz_store.specs.Declarations.{declared_view, declared_place}

abbrev pub model_view : Inside → Model
model_view m = record {
  declared = map (λ p. declared_view m.variables.items m.arrays.items p.0 p.1) m.names;
  constraints = map (posted_view m.variables.items m.arrays.items m.store) m.constraints.items;
  aim = goal_view m.goal;
}

-- a declared name with what it stands for
abbrev pub named_place : (ℕ × meaning.Declared) → (List ℕ × meaning.Place)
named_place (n, d) = (name_of d, place_named n d)

-- the numbers of a point are those of a variable, of one with a definition, or of an array
abbrev pub IsPlaced : List Variable → List Array → DeclaredPoint → Type 0
IsPlaced vs xs (points.Domain n) = n < length vs
IsPlaced vs xs (points.Definition n) = (n < length vs) × IsTrue (is_some (definition_at vs n))
IsPlaced vs xs (points.Elements i) = i < length xs

-- the array of the number has the name
abbrev pub IsArrayNamed : List Array → ℕ → List ℕ → Type 0
IsArrayNamed xs i x = option_map (λ a. a.name.now) (slice_get xs i) ≡ Some x

-- each array is found by its number, under its own name
abbrev pub IsKeptAs : List Array → List ℕ → Declared → Type 0
IsKeptAs xs x (declarations.Scalar t) = ⊤
IsKeptAs xs x (declarations.Array i) = IsArrayNamed xs i x

pub record IsLaidOut (m : Inside) : Type 0 where
  -- the variables are the declared ones, in their order
  pub variables : variables_of (model_view m) ≡ map variable_view m.variables.items
  -- each name stands for what its entry cites
  pub places : map named_place (numbered (model_view m))
      ≡ map (λ p. (p.0, declared_place m.variables.items m.arrays.items p.1)) m.names
  -- the points are those of the declarations, in their order
  pub points : flat_map declared_points (numbered (model_view m))
      ≡ map (declared_point m.variables.items m.arrays.items) m.points.items
  pub placed : AllByRecursion (IsPlaced m.variables.items m.arrays.items) m.points.items
  -- declared arrays are in the list of arrays
  pub kept : AllByRecursion (λ p. IsKeptAs m.arrays.items p.0 p.1) m.names
  -- each constraint is stored with the row that it fits
  pub rows : map kept_row m.constraints.items ≡ map row_of (model_view m).constraints
  -- what a name stands for has its kind
  pub kinds : (x : List ℕ) (p : meaning.Place) → find_name (model_view m) x ≡ Some p
      → PlaceFits (model_view m) p
  -- and so has each scalar of a constraint
  pub posted_kinds : AllByRecursion (PostedFits (model_view m)) (model_view m).constraints
