-- What the parser's tree and an error stand for: the located tree, and a fault of its names (this
-- project's profile).
use Rattle.std.specs.Prelude.{◌≡◌, map, option_map, Option, Some, ⊤}
use Rattle.fz_tree.specs.View.{TreeItems, bare_literal, bare_base, bare_notes, bare_predicate, items_of_tree}
use Rattle.fz_tree.specs.declared.tree.Ast.{Ast}
use Rattle.fz_tree.specs.declared.tree.Basic as the_basic
use Rattle.fz_tree.specs.declared.tree.Basic.TheVariants as basics
use Rattle.fz_tree.specs.declared.tree.Constraint as the_constraint
use Rattle.fz_tree.specs.declared.tree.Decl as the_decl
use Rattle.fz_tree.specs.declared.tree.Expr as the_expr
use Rattle.fz_tree.specs.declared.tree.Expr.TheVariants as exprs
use Rattle.fz_tree.specs.declared.tree.Goal as the_goal
use Rattle.fz_tree.specs.declared.tree.Goal.TheVariants as goals
use Rattle.fz_tree.specs.declared.tree.Literal as the_literal
use Rattle.fz_tree.specs.declared.tree.Name as the_name
use Rattle.fz_tree.specs.declared.tree.Solve as the_solve
use Rattle.fz_meaning.specs.declared.error.ModelError.{ModelError}
use Rattle.fz_meaning.specs.declared.error.ModelError.TheVariants as errors
use Rattle.fz_meaning.specs.Names.{Fault, DuplicateName, UnknownName, WrongKind, WrongLength}
use Rattle.fz_meaning.specs.Located.{Name, Literal, Basic, Expr, Decl, Constraint, Goal, Solve, LocatedTree}
use Rattle.fz_meaning.specs.Located.Basic.{Lit, Named}
use Rattle.fz_meaning.specs.Located.Expr.{One, Several}
use Rattle.fz_meaning.specs.Located.Goal.{Satisfy, Minimize, Maximize}

abbrev pub located_name : the_name.Name → Name
located_name n = record { text = n.text.now; span = n.span }

abbrev pub located_literal : the_literal.Literal → Literal
located_literal l = record { what = bare_literal l; span = l.span }

abbrev pub located_basic : the_basic.Basic → Basic
located_basic (basics.Lit l) = Lit (located_literal l)
located_basic (basics.Named name) = Named (located_name name)

abbrev pub located_expr : the_expr.Expr → Expr
located_expr (exprs.One b) = One (located_basic b)
located_expr (exprs.List bs) = Several (map located_basic bs.items)

abbrev pub located_value : Option the_expr.Expr → Option Expr
located_value o = option_map located_expr o

abbrev pub located_decl : the_decl.Decl → Decl
located_decl d = record {
  is_var = d.is_var;
  array_length = d.length;
  base = bare_base d.base;
  name = located_name d.name;
  notes = bare_notes d.notes.items;
  value = located_value d.value;
}

abbrev pub located_constraint : the_constraint.Constraint → Constraint
located_constraint c = record {
  name = c.name.text.now;
  args = map located_expr c.args.items;
  notes = bare_notes c.notes.items;
}

abbrev pub located_goal : the_goal.Goal → Goal
located_goal goals.Satisfy = Satisfy
located_goal (goals.Minimize b) = Minimize (located_basic b)
located_goal (goals.Maximize b) = Maximize (located_basic b)

abbrev pub located_solve : the_solve.Solve → Solve
located_solve s = record { notes = bare_notes s.notes.items; goal = located_goal s.goal }

-- the located tree of a tree that is given by its items
abbrev pub located_all : TreeItems → LocatedTree
located_all t = record {
  predicates = map bare_predicate t.predicates;
  decls = map located_decl t.decls;
  constraints = map located_constraint t.constraints;
  solve = located_solve t.solve;
}

-- the located tree
abbrev pub located : Ast → LocatedTree
located a = located_all (items_of_tree a)

-- ---- errors

-- an error tells the fault and its byte range, or that memory ran out
abbrev pub Tells : ModelError → Option Fault → Type 0
Tells (errors.DuplicateName at) f = f ≡ Some (DuplicateName, at)
Tells (errors.UnknownName at) f = f ≡ Some (UnknownName, at)
Tells (errors.Kind at) f = f ≡ Some (WrongKind, at)
Tells (errors.Length at) f = f ≡ Some (WrongLength, at)
Tells errors.Memory f = ⊤
