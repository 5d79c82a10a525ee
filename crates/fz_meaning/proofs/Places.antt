-- The located tree without its byte ranges is the plain tree of the parser's tree.
use Rattle.std.proofs.Common.{◌≡◌, List, [], ◌∷◌, map, Option, Some, None, option_map, refl, ap, arith, rules}
use Rattle.std.proofs.lemmas.Grind.{common_steps}
use Rattle.fz_tree.specs.View.{TreeItems, bare_all, items_of_tree}
use Rattle.fz_tree.specs.View as plain
use Rattle.fz_tree.specs.declared.tree.Ast.{Ast}
use Rattle.fz_tree.specs.declared.tree.Basic as the_basic
use Rattle.fz_tree.specs.declared.tree.Basic.TheVariants as basics
use Rattle.fz_tree.specs.declared.tree.Constraint as the_constraint
use Rattle.fz_tree.specs.declared.tree.Decl as the_decl
use Rattle.fz_tree.specs.declared.tree.Expr as the_expr
use Rattle.fz_tree.specs.declared.tree.Expr.TheVariants as exprs
use Rattle.fz_tree.specs.declared.tree.Goal as the_goal
use Rattle.fz_tree.specs.Tree as tree
use Rattle.fz_meaning.specs.Located.{bare_basic, bare_expr, bare_decl, bare_constraint, bare_goal, bare_of}
use Rattle.fz_meaning.specs.View.{located_basic, located_expr, located_value, located_decl, located_constraint, located_goal, located, located_all}

map_twice : {A B C : Type 0} (f : B → C) (g : A → B) (h : A → C) → ((x : A) → f (g x) ≡ h x)
    → (xs : List A) → map f (map g xs) ≡ map h xs
map_twice f g h same [] = refl
map_twice f g h same (x ∷ xs) = λ i. same x i ∷ map_twice f g h same xs i

basic_is : (b : the_basic.Basic) → bare_basic (located_basic b) ≡ plain.bare_expression b
basic_is (basics.Lit l) = refl
basic_is (basics.Named name) = refl

expr_is : (e : the_expr.Expr) → bare_expr (located_expr e) ≡ plain.bare_expr e
expr_is (exprs.One b) = ap tree.One (basic_is b)
expr_is (exprs.List bs) = ap tree.Several (map_twice bare_basic located_basic plain.bare_expression basic_is bs.items)

value_is : (o : Option the_expr.Expr) → option_map bare_expr (located_value o) ≡ plain.bare_value o
value_is None = refl
value_is (Some e) = ap Some (expr_is e)

decl_is : (d : the_decl.Decl) → bare_decl (located_decl d) ≡ plain.bare_decl d
decl_is d = λ i. record { is_var = d.is_var; length = d.length; base = plain.bare_base d.base; name = d.name.text.now; notes = plain.bare_notes d.notes.items; value = value_is d.value i }

constraint_is : (c : the_constraint.Constraint)
    → bare_constraint (located_constraint c) ≡ plain.bare_constraint c
constraint_is c = λ i. record { name = c.name.text.now; args = map_twice bare_expr located_expr plain.bare_expr expr_is c.args.items i; notes = plain.bare_notes c.notes.items }

goal_is : (g : the_goal.Goal) → bare_goal (located_goal g) ≡ plain.bare_goal g
goal_is g = grind (arith, common_steps, basic_is)

pub all_are_bare : (t : TreeItems) → bare_of (located_all t) ≡ bare_all t
all_are_bare t = search (rules, map_twice, decl_is, constraint_is, goal_is)

pub located_is_bare : (a : Ast) → bare_of (located a) ≡ plain.bare a
located_is_bare a = all_are_bare (items_of_tree a)
