-- From the lexer's promises and the parser's to those of a whole text.
use Rattle.std.proofs.Common.{Vec, Global, ◌≡◌, ◌∙◌, ◌≤◌, ℕ, List, [], ◌∷◌, length, map, Result, Ok, Err, refl, ap, sym, subst, arith}
use Rattle.std.specs.Prelude.{MatchResult}
use Rattle.std.specs.List.{All, AllByRecursion}
use Rattle.std.proofs.lemmas.List.Elements.{All-from_recursion}
use Rattle.fz_tree.specs.Token.{TokenValue, IsTokenText}
use Rattle.fz_tree.specs.Lexing.{SpannedToken, nothing, IsTextOfTokensWithin}
use Rattle.fz_tree.specs.Spanned.{AreWithinLimit, LexesToSpanned}
use Rattle.fz_tree.specs.declared.limits.Limits.{Limits}
use Rattle.fz_tree.specs.Found.{AreInOrder}
use Rattle.fz_tree.specs.Ahead.{tokens_ahead}
use Rattle.fz_tree.proofs.Texts.{words_are_words}
use Rattle.fz_tree.proofs.AheadLaws.{lexed_ahead}
use Rattle.fz_tree.specs.declared.error.SyntaxError.{SyntaxError}
use Rattle.fz_tree.specs.declared.error.SyntaxError.TheVariants as errors
use Rattle.fz_tree.specs.View.{bare_printed, bare_items}
use Rattle.fz_syntax.specs.declared.parser.cursor.Parser.{Parser}
use Rattle.fz_tree.specs.declared.tree.Printed.{Printed as Item}
use Rattle.fz_tree.specs.Tree.{Tree, Printed}
use Rattle.fz_tree.specs.Tokens.{toks, itoks}
use Rattle.fz_tree.specs.Text.{HasShape, IsPrinted, IsTextOfTreeWithin, IsTextOfItemsWithin}
use Rattle.fz_syntax.specs.Reading.{tree_of, tree_at}
use Rattle.fz_syntax.specs.ReadingItems.{items_of, items_at}
use Rattle.fz_syntax.specs.Outcome.{IsWhole}
use Rattle.fz_tree.specs.Refusals.{IsValue}
use Rattle.fz_syntax.specs.Walk.{ahead, lexemes}
use Rattle.fz_syntax.proofs.Whole.{only_of, is_found}
use Rattle.fz_syntax.proofs.ExprLaws.{same}
use Rattle.fz_syntax.proofs.ItemLaws.{tree_takes, tree_of_toks}
use Rattle.fz_syntax.proofs.PrintedLaws.{items_takes, items_of_toks}

-- the tokens that a source is cut into
abbrev pub values : List SpannedToken → List TokenValue
values ts = map (λ t. t.token) ts

of_values : (tokens : List SpannedToken) → AllByRecursion (λ t. IsTokenText t.token) tokens
    → AllByRecursion IsTokenText (values tokens)
of_values [] h = tt
of_values (t ∷ ts) h = (h.0, of_values ts h.1)

-- the tokens of any text of the source are those ahead of its first byte
pub tokens_are : (limits : Limits) (source : List ℕ) (ts : List TokenValue)
    → IsTextOfTokensWithin limits source ts → values (tokens_ahead source 0) ≡ ts
tokens_are limits source ts (others, lexed, e) = sym (ap values (lexed_ahead source others lexed.lexes lexed.numbers)) ∙ e

-- A parser at the first token of a source, what it read under limits, and what the tokens behind it
-- showed.
module _ (limits : Limits) (source : List ℕ) (p : Parser) (all : ahead p ≡ tokens_ahead source 0) where
  seen : (ts : List TokenValue) → lexemes p ≡ ts → values (tokens_ahead source 0) ≡ ts
  seen ts e = sym (ap values all) ∙ e

  text_of : (ts : List TokenValue) → length source ≤ limits.bytes
      → LexesToSpanned source (tokens_ahead source 0) → AreWithinLimit (tokens_ahead source 0)
      → lexemes p ≡ ts → IsTextOfTokensWithin limits source ts
  text_of ts short lexes numbers e = (tokens_ahead source 0, record { short = short; lexes = lexes; numbers = numbers }, seen ts e)

  -- the tree that was read is one of which the source is a text
  pub tree_found : (t : Tree) → length source ≤ limits.bytes
      → LexesToSpanned source (tokens_ahead source 0) → AreWithinLimit (tokens_ahead source 0)
      → tree_of limits (lexemes p) ≡ Ok t → IsTextOfTreeWithin limits source t
  unfolding tree_of
  tree_found t short lexes numbers read =
      let h = is_found toks (HasShape limits) (tree_at limits) (tree_takes _ _ (same limits)) (lexemes p) t read in
      record {
        lexes = text_of (toks t) short lexes numbers h.1;
        of_grammar = record { shape = h.0; texts = subst (AllByRecursion IsTokenText) (seen (toks t) h.1) (of_values (tokens_ahead source 0) (words_are_words source (tokens_ahead source 0) lexes)) };
      }

  -- a tree of which the source is a text is the one that was read
  pub tree_read : (t : Tree) → IsTextOfTreeWithin limits source t → tree_of limits (lexemes p) ≡ Ok t
  tree_read t text =
      ap (tree_of limits) (ap values all ∙ tokens_are limits source (toks t) text.lexes) ∙ tree_of_toks _ _ (same limits) t text.of_grammar.shape

  -- the items that were read are some of which the source is a text
  pub items_found : (v : Vec Item Global) → length source ≤ limits.bytes
      → LexesToSpanned source (tokens_ahead source 0) → AreWithinLimit (tokens_ahead source 0)
      → items_of limits (lexemes p) ≡ Ok (bare_items v.items)
      → IsTextOfItemsWithin limits source (bare_items v.items)
  unfolding items_of
  items_found v short lexes numbers read =
      let h = is_found itoks (AllByRecursion (IsPrinted limits)) (items_at limits) (items_takes _ _ (same limits)) (lexemes p) (bare_items v.items) read in
      record { lexes = text_of (itoks (bare_items v.items)) short lexes numbers h.1; of_grammar = h.0 }

  -- items of which the source is a text are those that were read
  pub items_only : (result : Result (Vec Item Global) SyntaxError)
      → IsWhole (λ (x : Vec Item Global). bare_items x.items) result
      (items_of limits (lexemes p)) → (items : List Printed) → IsTextOfItemsWithin limits source items
      → IsValue (λ (x : Vec Item Global). bare_items x.items) result items
  unfolding items_of
  items_only result read items text =
      only_of (λ (x : Vec Item Global). bare_items x.items) itoks (AllByRecursion (IsPrinted limits)) (items_at limits) (items_of_toks _ _ (same limits)) result (lexemes p) read items text.of_grammar (ap values all ∙ tokens_are limits source (itoks items) text.lexes)

-- the empty text is one of no items
pub none_text : (limits : Limits) → IsTextOfItemsWithin limits [] []
none_text limits = record { lexes = ([], record { short = omega arith; lexes = nothing 0; numbers = tt }, refl); of_grammar = tt }

none_seen : (items : List Item) → map bare_printed items ≡ [] → items ≡ []
none_seen [] e = refl
none_seen (x ∷ xs) e = absurd cc

empty_of_none : {X : Type 0} (items_of : X → List Item) (result : Result X SyntaxError)
    → IsValue (λ given. bare_items (items_of given)) result []
    → MatchResult result (λ given. items_of given ≡ []) (λ e. e ≡ errors.Memory)
empty_of_none items_of (Ok v) h = none_seen (items_of v) h
empty_of_none items_of (Err errors.Memory) h = refl
empty_of_none items_of (Err _) h = absurd h

-- what is read of the empty text
pub empty_of_only : {X : Type 0} (items_of : X → List Item) (result : Result X SyntaxError)
    (limits : Limits) (source : List ℕ) → ((items : List Printed) → IsTextOfItemsWithin limits source items
    → IsValue (λ given. bare_items (items_of given)) result items)
    → source ≡ [] → MatchResult result (λ given. items_of given ≡ []) (λ e. e ≡ errors.Memory)
empty_of_only items_of result limits source only empty = empty_of_none items_of result (only [] (subst (λ (s : List ℕ). IsTextOfItemsWithin limits s []) (sym empty) (none_text limits)))

-- tokens in order lie within the source
within_source : (from end : ℕ) (tokens : List SpannedToken) → AreInOrder from end tokens
    → AllByRecursion (λ t. (t.start ≤ t.end) × (t.end ≤ end)) tokens × (from ≤ end)
within_source from end [] h = (tt, h)
within_source from end (t ∷ ts) (a, b, rest) =
    let others = within_source t.end end ts rest in
    (((omega arith, others.1), others.0), omega (arith, others.1))

pub all_within : (from end : ℕ) (tokens : List SpannedToken) → AreInOrder from end tokens
    → All (λ t. (t.start ≤ t.end) × (t.end ≤ end)) tokens
all_within from end tokens h = All-from_recursion (λ t. (t.start ≤ t.end) × (t.end ≤ end)) tokens (within_source from end tokens h).0
