-- What is said of the text of a model that is loaded item by item.
use Rattle.std.specs.Prelude.{◌≡◌, ◌⊎◌, ℕ, List, map}
use Rattle.fz_syntax.specs.Offering.{IsTextOfAllWithin, IsLeft, TookAll, from_decls, from_constraints}
use Rattle.fz_tree.specs.View.{TreeItems}
use Rattle.fz_tree.specs.declared.limits.Limits.{Limits}
use Rattle.fz_tree.specs.Spanned.{standard_limits}
use Rattle.fz_tree.specs.declared.error.SyntaxError.{SyntaxError}
use Rattle.fz_tree.specs.Text.{IsTextOfTreeWithin}
use Rattle.fz_syntax.specs.declared.reader.Rest.{Rest}
use Rattle.fz_tree.specs.declared.tree.Solve.{Solve}
use Rattle.fz_tree.specs.declared.tree.Decl.{Decl}
use Rattle.fz_tree.specs.declared.tree.Constraint.{Constraint}
use Rattle.fz_store.specs.of_meaning.Names.{HasNoFault, first_fault, model_of}
use Rattle.fz_store.specs.of_meaning.Located.{LocatedTree, bare_of}
use Rattle.fz_store.specs.of_meaning.Meaning.{Model}
use Rattle.fz_store.specs.of_meaning.View.{Tells, located_all, located_constraint, located_decl}
use Rattle.fz_store.specs.of_meaning.declared.error.ModelError.{ModelError}
use Rattle.fz_store.specs.of_meaning.declared.error.ModelError.TheVariants as names
use Rattle.fz_data.specs.Posting.{Posts}
use Rattle.fz_data.specs.Stands.{Declares}
use Rattle.fz_store.specs.declared.parts.Posted.{Posted}
use Rattle.fz_store.specs.declared.scope.Scope.{Scope}
use Rattle.fz_store.specs.declared.store.Store.{Store}
use Rattle.fz_data.specs.declared.error.LoadError.{LoadError}
use Rattle.fz_data.specs.declared.error.LoadError.TheVariants as errors

-- The source is a text of a tree within the limits without faults, and this is its model.
pub record IsLoadedFromWithin (limits : Limits) (source : List ℕ) (m : Model) : Type 0 where
  pub tree : LocatedTree
  pub text : IsTextOfTreeWithin limits source (bare_of tree)
  pub no_fault : HasNoFault tree
  pub is : m ≡ model_of tree

abbrev pub IsLoadedFrom : List ℕ → Model → Type 0
IsLoadedFrom = IsLoadedFromWithin standard_limits

-- The source is a text of these items, whose names and literals stand in it, and this is the
-- first fault of their tree.
pub record IsNameFaultWithin (limits : Limits) (source : List ℕ) (e : ModelError) : Type 0 where
  pub all : TreeItems
  pub text : IsTextOfAllWithin limits source all
  pub tells : Tells e (first_fault (located_all all))

-- ---- only private functions use these

-- These items are left of a text, and a refusal tells the first fault of the tree of all its items.
pub record TellsOf {R : Type 0} (Left : R → Type 0) (all : R → TreeItems)
    (e : ModelError) : Type 0 where
  pub rest : R
  pub left : Left rest
  pub tells : Tells e (first_fault (located_all (all rest)))

-- The source is refused, or names in what is left of it, unless memory ran out.
abbrev pub IsLoadRefusal : {R : Type 0} → (SyntaxError → Type 0) → (R → Type 0) → (R → TreeItems)
    → LoadError → Type 0
IsLoadRefusal Refused Left all (errors.Text e) = Refused e
IsLoadRefusal Refused Left all (errors.Names e) = (e ≡ names.Memory) ⊎ TellsOf Left all e

-- All declarations were taken, and the scope stands for them.
pub record HasDeclared (old new : Rest) (s : Scope) : Type 0 where
  pub decls : List Decl
  pub took : TookAll from_decls from_constraints decls old new
  pub declares : Declares (map located_decl decls) s

-- These constraints and the solve item were left, and this is what they were loaded to.
pub record HasPosted (old : Rest) (s : Scope) (store : Store) (found : List Posted)
    (solve : Solve) : Type 0 where
  pub constraints : List Constraint
  pub left : IsLeft from_constraints old (constraints, solve)
  pub posts : Posts s (map located_constraint constraints) store found
