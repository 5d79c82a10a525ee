-- What holds of points, steps and models by their definitions (this project's profile). Each law is
-- the contract of a public function of this crate.
use Rattle.std.specs.Prelude.{◌≡◌, ◌↔◌, ◌⊎◌, ℕ, List, None, Some, IsSome, IsSomeAnd, IsTrue}
use Rattle.std.specs.List.{filter, list_any, slice_get}
use Rattle.fz_base.specs.declared.value.Value.{Value}
use Rattle.fz_meaning.specs.declared.state.State.TheVariants.{Unknown}
use Rattle.fz_meaning.specs.Relations.{kind_of}
use Rattle.fz_tree.specs.View.{bare}
use Rattle.fz_tree.specs.declared.tree.Ast.{Ast}
use Rattle.fz_meaning.specs.View.{located}
use Rattle.fz_meaning.specs.Located.{LocatedTree, Decl, bare_of}
use Rattle.fz_meaning.specs.Names.{HasNoFault, is_scalar_variable, number_of}
use Rattle.fz_meaning.specs.Builtins.{Row}
use Rattle.fz_meaning.specs.Meaning.{Argument, Model, Partial, Point, Posted, argument_values, points, row_of, HoldsUnder}
use Rattle.fz_meaning.specs.States.{is_unknown, state}
use Rattle.fz_meaning.specs.Meaning.Point.{ConstraintPoint}
use Rattle.fz_meaning.specs.Steps.{Gives, give}

-- A forced step's value is the only one of its kind with which the point holds.
abbrev pub StepsAreForced : Type 0
StepsAreForced =
    (m : Model) (K : Partial) (k : ℕ) (p : Point) (n : ℕ) (v w : Value)
    → slice_get (points m) k ≡ Some p → Gives m K p n v → kind_of w ≡ kind_of v
    → HoldsUnder (give K n w) p → v ≡ w

-- each argument has a value, and a power of the row isn't known
abbrev pub IsUnknownFor : Partial → List Argument → Row → Type 0
IsUnknownFor K xs r =
    IsSome (argument_values K xs) × IsTrue (list_any (is_unknown K xs) r.wide)

-- the scalar variables among declarations, in source order
abbrev pub scalar_variables : List Decl → List Decl
scalar_variables ds = filter is_scalar_variable ds

-- In a tree without faults the scalar variable at index i has the name that is numbered i.
abbrev pub NumbersAgree : Type 0
NumbersAgree = (t : LocatedTree) → HasNoFault t → (i : ℕ) (d : Decl)
    → slice_get (scalar_variables t.decls) i ≡ Some d → number_of t.decls d.name.text ≡ i

-- The state is unknown exactly where the constraint fits no row, or has values with which a power
-- of its row isn't known.
abbrev pub UnknownIsNotKnown : Type 0
UnknownIsNotKnown = (K : Partial) (k : ℕ) (p : Posted) → (state K (ConstraintPoint k p) ≡ Unknown)
    ↔ ((row_of p ≡ None) ⊎ IsSomeAnd (row_of p) (IsUnknownFor K p.arguments))

-- The located tree without its byte ranges is the plain tree of the parser's tree.
abbrev pub LocatedIsBare : Type 0
LocatedIsBare = (a : Ast) → bare_of (located a) ≡ bare a
