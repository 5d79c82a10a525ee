-- The syntax tree of a FlatZinc model with the byte ranges at which its faults are told (MiniZinc
-- Handbook, FlatZinc grammar; what the tree has is this project's profile). It is the grammar's
-- tree with a span at each declared name, and at each literal and name of a declaration's value, of
-- a constraint's arguments and of the objective. A span counts the source's bytes from 0 up to an
-- end that is not part of it.
use Rattle.std.specs.Prelude.{ℕ, Bool, List, Option, map, option_map}
use Rattle.fz_tree.specs.declared.span.Span.{Span}
use Rattle.fz_tree.specs.Tree as tree

pub record Name : Type 0 where
  pub text : List ℕ
  pub span : Span

pub record Literal : Type 0 where
  pub what : tree.Literal
  pub span : Span

-- a literal or a name
pub data Basic : Type 0 where
  Lit : Literal → Basic
  Named : Name → Basic

-- a basic expression, or a list of them in brackets
pub data Expr : Type 0 where
  One : Basic → Expr
  Several : List Basic → Expr

-- a declaration of a parameter or a variable, or where it has a length of an array from 1 up to
-- that length
pub record Decl : Type 0 where
  pub is_var : Bool
  pub array_length : Option ℕ
  pub base : tree.Base
  pub name : Name
  pub notes : List tree.Note
  pub value : Option Expr

pub record Constraint : Type 0 where
  pub name : List ℕ
  pub args : List Expr
  pub notes : List tree.Note

pub data Goal : Type 0 where
  Satisfy : Goal
  Minimize : Basic → Goal
  Maximize : Basic → Goal

pub record Solve : Type 0 where
  pub notes : List tree.Note
  pub goal : Goal

pub record LocatedTree : Type 0 where
  pub predicates : List tree.Predicate
  pub decls : List Decl
  pub constraints : List Constraint
  pub solve : Solve

-- ---- the grammar's tree: without the byte ranges

abbrev pub bare_basic : Basic → tree.Basic
bare_basic (Lit l) = tree.Lit l.what
bare_basic (Named x) = tree.Named x.text

abbrev pub bare_expr : Expr → tree.Expr
bare_expr (One b) = tree.One (bare_basic b)
bare_expr (Several bs) = tree.Several (map bare_basic bs)

abbrev pub bare_decl : Decl → tree.Decl
bare_decl d = record {
  is_var = d.is_var;
  length = d.array_length;
  base = d.base;
  name = d.name.text;
  notes = d.notes;
  value = option_map bare_expr d.value;
}

abbrev pub bare_constraint : Constraint → tree.Constraint
bare_constraint c = record { name = c.name; args = map bare_expr c.args; notes = c.notes }

abbrev pub bare_goal : Goal → tree.Goal
bare_goal Satisfy = tree.Satisfy
bare_goal (Minimize b) = tree.Minimize (bare_basic b)
bare_goal (Maximize b) = tree.Maximize (bare_basic b)

abbrev pub bare_of : LocatedTree → tree.Tree
bare_of t = record {
  predicates = t.predicates;
  decls = map bare_decl t.decls;
  constraints = map bare_constraint t.constraints;
  solve = record { notes = t.solve.notes; goal = bare_goal t.solve.goal };
}
