use Rattle.fz_tree.specs.View.{bare}
use Rattle.fz_syntax.specs.Offering.{IsTextOfAllWithin}
use Rattle.fz_tree.specs.View.{items_of_tree}
use Rattle.fz_tree.specs.declared.tree.Ast.{Ast}
use Rattle.fz_syntax.proofs.More.{one_tree, same_tree}
use Rattle.fz_syntax.proofs.parser.parse_within.Goals as goal

abbrev tree_given : goal.In_ok-constraints → Ast
tree_given c = record { predicates = c.in_ok-predicates.predicates; decls = c.in_ok-decls.decls; constraints = c.in_ok-constraints.constraints; solve = c.in_ok-constraints.solve }

text_given : (c : goal.In_ok-constraints)
    → IsTextOfAllWithin c.args.limits c.args.source.now (items_of_tree (tree_given c))
text_given c = c.in_ok-new.ensures.text _ (c.in_ok-predicates.ensures.all.all_left _ (c.in_ok-decls.ensures.all.all_left _ c.in_ok-constraints.ensures.all))

pub returns-clause-only : goal.returns-clause-only
returns-clause-only c = λ t text. one_tree c.args.limits c.args.limits c.args.source.now (bare (tree_given c)) t (text_given c).text text

pub returns-clause-same : goal.returns-clause-same
returns-clause-same c = λ any t is. same_tree any c.args.limits t (bare (tree_given c)) is.shape (text_given c).text.of_grammar.shape

pub returns-clause-stands : goal.returns-clause-stands
returns-clause-stands c = (text_given c).stands

pub returns-clause-found : goal.returns-clause-found
returns-clause-found c = (text_given c).text

pub returns-clause-in_place : goal.returns-clause-in_place
returns-clause-in_place c = (text_given c).placed
