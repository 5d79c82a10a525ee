use Rattle.fz_tree.specs.declared.token.Mark.TheVariants.{OpenParen, CloseParen, OpenBracket}
use Rattle.fz_syntax.specs.Placed.{placed_between, placed_elements, placed_indexes, placed_word}
use Rattle.std.proofs.Common.{ℕ, ◌++◌, ◌∙◌, map, refl, sym, ap}
use Rattle.std.proofs.lemmas.List.{length-map}
use Rattle.fz_tree.specs.Tokens.{array_word}
use Rattle.fz_tree.specs.View.{bare_literal}
use Rattle.fz_syntax.proofs.PrintedLaws.{index_sets_take}
use Rattle.fz_syntax.proofs.ListLaws.{bounded}
use Rattle.fz_syntax.proofs.ExprLaws.{same, literal_law}
use Rattle.fz_syntax.proofs.Walks.{mark_walk, walk_then}
use Rattle.fz_syntax.proofs.parser.cursor.Parser.printed_array.Goals as goal

pub returns-clause-walked : goal.returns-clause-walked
returns-clause-walked c =
    walk_then (mark_walk OpenParen c.in_ok-expect.ensures.walked c.in_ok-expect.ensures.read) (walk_then (walk_then c.in_ok-indexes.ensures.walked (walk_then (mark_walk OpenBracket c.in_ok-expect-2.ensures.walked c.in_ok-expect-2.ensures.read) c.in_ok-elements.ensures.walked)) (mark_walk CloseParen c.in_ok-expect-3.ensures.walked c.in_ok-expect-3.ensures.read))

pub returns-clause-worded : goal.returns-clause-worded
returns-clause-worded c =
    ap (λ (n : ℕ). placed_word (array_word n) ++ placed_between OpenParen CloseParen (placed_indexes c.in_ok-indexes.indexes.items ++ placed_elements c.in_ok-elements.elements.items)) (sym (length-map c.in_ok-indexes.indexes.items bare_literal) ∙ (index_sets_take _ _ (same c.args.limits.now) c.args.dimensions _ (map bare_literal c.in_ok-indexes.indexes.items, _) c.in_ok-indexes.ensures.read).fits.0)

pub list-requires : goal.list-requires
list-requires c = λ k. ((refl, tt), (bounded (literal_law _ _ (same c.args.limits.now)) _).shrinks)
