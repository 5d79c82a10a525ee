-- Tokens have one tree, whatever its size: it is read from them under limits that are large enough.
use Rattle.std.proofs.Common.{◌≡◌, ◌+◌, List, Result, Ok, sym, ap, ◌∙◌, arith, ℕ}
use Rattle.std.specs.List.{AllByRecursion}
use Rattle.fz_tree.specs.Token.{TokenValue}
use Rattle.fz_tree.specs.Tree.{Tree, Printed}
use Rattle.fz_tree.specs.Tokens.{toks, itoks}
use Rattle.fz_tree.specs.declared.limits.Limits.{Limits}
use Rattle.fz_tree.specs.Text.{HasShape, IsPrinted, IsTextOfTreeWithin, IsTextOfItemsWithin}
use Rattle.fz_syntax.specs.Reading.{Fault, tree_of}
use Rattle.fz_syntax.specs.ReadingItems.{items_of}
use Rattle.fz_syntax.proofs.ExprLaws.{Allow}
use Rattle.fz_syntax.proofs.ItemLaws.{tree_of_toks}
use Rattle.fz_syntax.proofs.PrintedLaws.{items_of_toks}
use Rattle.fz_syntax.proofs.Parsed.{tokens_are}

-- limits that allow what either allows
abbrev sum_of : Limits → Limits → Limits
sum_of l m = record {
  bytes = l.bytes + m.bytes;
  elements = l.elements + m.elements;
  size = l.size + m.size;
  depth = l.depth + m.depth;
}

first_allowed : (l m : Limits) → Allow l (sum_of l m)
first_allowed l m = record { elements = omega arith; size = omega arith; depth = omega arith }

second_allowed : (l m : Limits) → Allow m (sum_of l m)
second_allowed l m = record { elements = omega arith; size = omega arith; depth = omega arith }

-- values with the same tokens are equal
same_read : {A : Type 0} (toks : A → List TokenValue) (Is : Limits → A → Type 0)
    (read : Limits → List TokenValue → Result A Fault)
    → ((l m : Limits) → Allow l m → (x : A) → Is l x → read m (toks x) ≡ Ok x)
    → (l m : Limits) (x y : A) → Is l x → Is m y → toks x ≡ toks y → x ≡ y
same_read toks Is read again l m x y is are e =
    let n = sum_of l m in
    let one : read n (toks y) ≡ Ok x = ap (read n) (sym e) ∙ again l n (first_allowed l m) x is in
    let other = again m n (second_allowed l m) y are in cc

pub same_tree : (l m : Limits) (t u : Tree) → HasShape l t → HasShape m u → toks t ≡ toks u → t ≡ u
same_tree = same_read toks HasShape tree_of tree_of_toks

pub same_items : (l m : Limits) (ps qs : List Printed) → AllByRecursion (IsPrinted l) ps
    → AllByRecursion (IsPrinted m) qs → itoks ps ≡ itoks qs → ps ≡ qs
same_items = same_read itoks (λ limits. AllByRecursion (IsPrinted limits)) items_of items_of_toks

-- ---- one tree of a text

pub one_tree : (l m : Limits) (source : List ℕ) (t u : Tree) → IsTextOfTreeWithin l source t
    → IsTextOfTreeWithin m source u → t ≡ u
one_tree l m source t u a b =
    same_tree l m t u a.of_grammar.shape b.of_grammar.shape
    (sym (tokens_are l source (toks t) a.lexes) ∙ tokens_are m source (toks u) b.lexes)

pub one_list_of_items : (l m : Limits) (source : List ℕ) (items others : List Printed)
    → IsTextOfItemsWithin l source items → IsTextOfItemsWithin m source others → items ≡ others
one_list_of_items l m source items others a b =
    same_items l m items others a.of_grammar b.of_grammar
    (sym (tokens_are l source (itoks items) a.lexes) ∙ tokens_are m source (itoks others) b.lexes)
