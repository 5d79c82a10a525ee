-- The program's tokens and trees as plain tokens and trees, without byte ranges and memory.
use Rattle.std.specs.Prelude.{ℕ, List, [], ◌∷◌, map, Option, option_map}
use Rattle.std.specs.Global.{Vec}
use Rattle.fz_tree.specs.Tree as tree
use Rattle.fz_tree.specs.Tree.{NoMoreArgs, MoreArgs, NoMoreBasics, MoreBasics}
use Rattle.fz_tree.specs.Token.{TokenValue}
use Rattle.fz_tree.specs.Spanned.{token_value}
use Rattle.fz_tree.specs.declared.token.Token.{Token}
use Rattle.fz_tree.specs.declared.tree.LiteralKind.{LiteralKind}
use Rattle.fz_tree.specs.declared.tree.LiteralKind.TheVariants as literals
use Rattle.fz_tree.specs.declared.tree.Literal.{Literal}
use Rattle.fz_tree.specs.declared.tree.Name.{Name}
use Rattle.fz_tree.specs.declared.tree.Basic.{Basic}
use Rattle.fz_tree.specs.declared.tree.Basic.TheVariants as basics
use Rattle.fz_tree.specs.declared.tree.Expr.{Expr}
use Rattle.fz_tree.specs.declared.tree.Expr.TheVariants as exprs
use Rattle.fz_tree.specs.declared.tree.Base.{Base}
use Rattle.fz_tree.specs.declared.tree.Base.TheVariants as bases
use Rattle.fz_tree.specs.declared.tree.Param.{Param}
use Rattle.fz_tree.specs.declared.tree.Predicate.{Predicate}
use Rattle.fz_tree.specs.declared.tree.Decl.{Decl}
use Rattle.fz_tree.specs.declared.tree.Constraint.{Constraint}
use Rattle.fz_tree.specs.declared.tree.Goal.{Goal}
use Rattle.fz_tree.specs.declared.tree.Goal.TheVariants as goals
use Rattle.fz_tree.specs.declared.tree.Solve.{Solve}
use Rattle.fz_tree.specs.declared.tree.Ast.{Ast}
use Rattle.fz_tree.specs.declared.tree.PrintedValue.{PrintedValue}
use Rattle.fz_tree.specs.declared.tree.PrintedValue.TheVariants as printed
use Rattle.fz_tree.specs.declared.tree.Printed.{Printed}
use Rattle.fz_tree.specs.declared.tree.Note.{Note}
use Rattle.fz_tree.specs.declared.tree.NoteArg.{NoteArg}
use Rattle.fz_tree.specs.declared.tree.NoteBasic.{NoteBasic}
use Rattle.fz_tree.specs.declared.tree.NoteArg.TheFolds.{fold-NoteArg, fold-NoteBasic, fold-Note}
use Rattle.fz_tree.specs.declared.tree.NoteArg.TheOpen.{NoteArg-F, NoteBasic-F, Note-F}

-- ---- tokens

abbrev pub lexeme : Token → TokenValue
lexeme t = token_value t.kind t.text.now

-- ---- expressions

abbrev pub bare_literal_kind : LiteralKind → tree.Literal
bare_literal_kind (literals.Whole n) = tree.Number n
bare_literal_kind (literals.Truth b) = tree.Truth b
bare_literal_kind (literals.Range low high) = tree.Range low high
bare_literal_kind (literals.Braces numbers) = tree.Braces numbers.items

abbrev pub bare_literal : Literal → tree.Literal
bare_literal l = bare_literal_kind l.what

abbrev pub bare_expression : Basic → tree.Basic
bare_expression (basics.Lit l) = tree.Lit (bare_literal l)
bare_expression (basics.Named name) = tree.Named name.text.now

abbrev pub bare_expressions : List Basic → List tree.Basic
bare_expressions bs = map bare_expression bs

abbrev pub bare_expr : Expr → tree.Expr
bare_expr (exprs.One b) = tree.One (bare_expression b)
bare_expr (exprs.List bs) = tree.Several (bare_expressions bs.items)

-- ---- annotations, a layer at a time: the parts of a layer are plain already

abbrev pub arg_list : List tree.NoteArg → tree.NoteArgs
arg_list [] = NoMoreArgs
arg_list (a ∷ rest) = MoreArgs a (arg_list rest)

abbrev pub basic_list : List tree.NoteBasic → tree.NoteBasics
basic_list [] = NoMoreBasics
basic_list (b ∷ rest) = MoreBasics b (basic_list rest)

abbrev pub bare_arg_layer : NoteArg-F tree.NoteArg tree.NoteBasic tree.Note → tree.NoteArg
bare_arg_layer (NoteArg-F.One b) = tree.OneBasic b
bare_arg_layer (NoteArg-F.List bs) = tree.ListOf (basic_list bs.items)

abbrev pub bare_basic_layer : NoteBasic-F tree.NoteArg tree.NoteBasic tree.Note → tree.NoteBasic
bare_basic_layer (NoteBasic-F.Lit l) = tree.NoteLiteral (bare_literal l)
bare_basic_layer (NoteBasic-F.Float text) = tree.NoteFloat text.now
bare_basic_layer (NoteBasic-F.Str text) = tree.NoteString text.now
bare_basic_layer (NoteBasic-F.Inner n) = tree.Inner n

abbrev pub bare_note_layer : Note-F tree.NoteArg tree.NoteBasic tree.Note → tree.Note
bare_note_layer x = tree.Called x.name.text.now (arg_list x.args.items)

abbrev pub bare_arg : NoteArg → tree.NoteArg
bare_arg = fold-NoteArg tree.NoteArg tree.NoteBasic tree.Note bare_arg_layer bare_basic_layer
    bare_note_layer

abbrev pub bare_basic : NoteBasic → tree.NoteBasic
bare_basic = fold-NoteBasic tree.NoteArg tree.NoteBasic tree.Note bare_arg_layer bare_basic_layer
    bare_note_layer

abbrev pub bare_note : Note → tree.Note
bare_note =
    fold-Note tree.NoteArg tree.NoteBasic tree.Note bare_arg_layer bare_basic_layer bare_note_layer

-- ---- items

abbrev pub bare_name : Name → List ℕ
bare_name n = n.text.now

abbrev pub bare_bounds : Option Literal → Option tree.Literal
bare_bounds o = option_map bare_literal o

abbrev pub bare_base : Base → tree.Base
bare_base bases.Bool = tree.BoolBase
bare_base (bases.Int bounds) = tree.IntBase (bare_bounds bounds)
bare_base (bases.Set bounds) = tree.SetBase (bare_bounds bounds)

abbrev pub bare_indexes : Option (Vec (Option ℕ)) → Option (List (Option ℕ))
bare_indexes o = option_map (λ v. v.items) o

abbrev pub bare_param : Param → tree.Param
bare_param p = record {
  array = bare_indexes p.array;
  is_var = p.is_var;
  base = bare_base p.base;
  name = bare_name p.name;
}

abbrev pub bare_predicate : Predicate → tree.Predicate
bare_predicate p = record { name = bare_name p.name; params = map bare_param p.params.items }

abbrev pub bare_value : Option Expr → Option tree.Expr
bare_value o = option_map bare_expr o

abbrev pub bare_notes : List Note → List tree.Note
bare_notes ns = map bare_note ns

abbrev pub bare_decl : Decl → tree.Decl
bare_decl d = record {
  is_var = d.is_var;
  length = d.length;
  base = bare_base d.base;
  name = bare_name d.name;
  notes = bare_notes d.notes.items;
  value = bare_value d.value;
}

abbrev pub bare_constraint : Constraint → tree.Constraint
bare_constraint c = record {
  name = bare_name c.name;
  args = map bare_expr c.args.items;
  notes = bare_notes c.notes.items;
}

abbrev pub bare_goal : Goal → tree.Goal
bare_goal goals.Satisfy = tree.Satisfy
bare_goal (goals.Minimize e) = tree.Minimize (bare_expression e)
bare_goal (goals.Maximize e) = tree.Maximize (bare_expression e)

abbrev pub bare_solve : Solve → tree.Solve
bare_solve s = record { notes = bare_notes s.notes.items; goal = bare_goal s.goal }

-- the plain tree of a tree
abbrev pub bare : Ast → tree.Tree
bare a = record {
  predicates = map bare_predicate a.predicates.items;
  decls = map bare_decl a.decls.items;
  constraints = map bare_constraint a.constraints.items;
  solve = bare_solve a.solve;
}

-- ---- printed items

abbrev pub bare_printed_value : PrintedValue → tree.PrintedValue
bare_printed_value (printed.One l) = tree.OneValue (bare_literal l)
bare_printed_value (printed.Array indexes elements) =
    tree.ArrayOf (map bare_literal indexes.items) (map bare_literal elements.items)

abbrev pub bare_printed : Printed → tree.Printed
bare_printed p = record { name = bare_name p.name; value = bare_printed_value p.value }

-- the plain items of printed items
abbrev pub bare_items : List Printed → List tree.Printed
bare_items items = map bare_printed items

-- ---- a tree by its items

-- The items of a tree, those of each kind in source order.
pub record TreeItems : Type 0 where
  pub predicates : List Predicate
  pub decls : List Decl
  pub constraints : List Constraint
  pub solve : Solve

abbrev pub items_of_tree : Ast → TreeItems
items_of_tree a = record {
  predicates = a.predicates.items;
  decls = a.decls.items;
  constraints = a.constraints.items;
  solve = a.solve;
}

abbrev pub bare_all : TreeItems → tree.Tree
bare_all t = record {
  predicates = map bare_predicate t.predicates;
  decls = map bare_decl t.decls;
  constraints = map bare_constraint t.constraints;
  solve = bare_solve t.solve;
}
