-- Only private functions use these: what was declared so far stands for declarations, whatever more
-- variables and arrays come.
use Rattle.std.specs.Prelude.{◌≡◌, ℕ, ◌++◌, List, [], None, map, flat_map}
use Rattle.std.specs.List.{AllByRecursion}
use Rattle.fz_store.specs.of_meaning.Located.{Decl}
use Rattle.fz_store.specs.of_meaning.Names.{decls_fault, place_of_declared, declared_of, variable_declared}
use Rattle.fz_store.specs.of_meaning.Laws.{scalar_variables}
use Rattle.fz_store.specs.of_meaning.Meaning as meaning
use Rattle.fz_store.specs.of_meaning.Meaning.{Place, declared_points, numbered_from}
use Rattle.fz_store.specs.declared.parts.Array as the_array
use Rattle.fz_store.specs.Naming as the_declared
use Rattle.fz_store.specs.declared.parts.DeclaredPoint.{DeclaredPoint}
use Rattle.fz_store.specs.declared.parts.Variable.{Variable}
use Rattle.fz_store.specs.declared.scope.Scope.{Scope}
use Rattle.fz_store.specs.Parts.{variable_view, declared_point}
use Rattle.fz_store.specs.Declarations.{declared_view, declared_place}
use Rattle.fz_store.specs.Layout.{IsKeptAs, IsPlaced}

abbrev pub Entry : Type 0
Entry = List ℕ × the_declared.Declared

abbrev pub entry_view : List Variable → List the_array.Array → Entry → meaning.Declared
entry_view vs xs p = declared_view vs xs p.0 p.1

abbrev pub entry_place : List Variable → List the_array.Array → Entry → (List ℕ × Place)
entry_place vs xs p = (p.0, declared_place vs xs p.1)

abbrev pub is_kept : List the_array.Array → Entry → Type 0
is_kept xs p = IsKeptAs xs p.0 p.1

abbrev pub declared_pair : List Decl → Decl → (List ℕ × Place)
declared_pair all d = (d.name.text, place_of_declared all d)

pub record Stands (all known : List Decl) (es : List Entry) (vs : List Variable)
    (xs : List the_array.Array) (ps : List DeclaredPoint) : Type 0 where
  pub declared : (ws : List Variable) (ys : List the_array.Array)
      → map (entry_view (vs ++ ws) (xs ++ ys)) es ≡ map (declared_of all) known
  pub places : (ws : List Variable) (ys : List the_array.Array)
      → map (entry_place (vs ++ ws) (xs ++ ys)) es ≡ map (declared_pair all) known
  pub kept : (ys : List the_array.Array) → AllByRecursion (is_kept (xs ++ ys)) es
  pub variables : map variable_view vs ≡ map variable_declared (scalar_variables known)
  pub points : (ws : List Variable) (ys : List the_array.Array)
      → map (declared_point (vs ++ ws) (xs ++ ys)) ps
      ≡ flat_map declared_points (numbered_from 0 (map (declared_of all) known))
  pub placed : (ws : List Variable) (ys : List the_array.Array)
      → AllByRecursion (IsPlaced (vs ++ ws) (xs ++ ys)) ps

-- the scope stands for the first of all declarations
abbrev pub StandsFor : List Decl → List Decl → Scope → Type 0
StandsFor all known s = Stands all known s.names s.variables.items s.arrays.items s.points.items

-- The declarations so far have no fault, and the scope stands for them, whatever others come.
pub record Declares (known : List Decl) (s : Scope) : Type 0 where
  pub clean : decls_fault [] known ≡ None
  pub stands : (rest : List Decl) → StandsFor (known ++ rest) known s
