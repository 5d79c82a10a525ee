-- What a call that reads a tree or printed items answers (the order of faults is this project's
-- profile).
use Rattle.std.specs.Prelude.{◌≡◌, ◌<◌, ℕ, List, length, Result, Ok, Err}
use Rattle.fz_tree.specs.Lexing.{SpannedToken, LexesWithin}
use Rattle.fz_tree.specs.Spanned.{IsLexicalFaultWithin, standard_limits}
use Rattle.fz_tree.specs.declared.limits.Limits.{Limits}
use Rattle.fz_tree.specs.declared.error.SyntaxError.{SyntaxError}
use Rattle.fz_tree.specs.declared.error.SyntaxError.TheVariants as errors
use Rattle.fz_tree.specs.Tree.{Tree, Printed}
use Rattle.fz_tree.specs.Text.{IsTextOfTreeWithin, IsTextOfItemsWithin}

-- a text of a tree, and of printed items, at the standard limits
abbrev pub IsTextOfTree : List ℕ → Tree → Type 0
IsTextOfTree = IsTextOfTreeWithin standard_limits

abbrev pub IsTextOfItems : List ℕ → List Printed → Type 0
IsTextOfItems = IsTextOfItemsWithin standard_limits

-- a result is this value, unless memory ran out
abbrev pub IsValue : {X A : Type 0} → (X → A) → Result X SyntaxError → A → Type 0
IsValue view (Ok x) value = view x ≡ value
IsValue view (Err errors.Memory) value = Unit {0}
IsValue view (Err _) value = ⊥

-- What a refusal says about the source. One by the lexer, which comes first, is its leftmost
-- lexical fault; one by the grammar comes only for a source that lexes within the limits. (The
-- order is this project's profile.)
abbrev pub IsRefusalWithin : Limits → List ℕ → SyntaxError → Type 0
IsRefusalWithin limits source errors.TooLong = limits.bytes < length source
IsRefusalWithin limits source (errors.BadByte span) =
    IsLexicalFaultWithin limits source (errors.BadByte span)
IsRefusalWithin limits source (errors.TooLarge span) =
    IsLexicalFaultWithin limits source (errors.TooLarge span)
IsRefusalWithin limits source (errors.Float span) =
    (tokens : List SpannedToken) × LexesWithin limits source tokens
IsRefusalWithin limits source (errors.Syntax span) =
    (tokens : List SpannedToken) × LexesWithin limits source tokens
IsRefusalWithin limits source (errors.TooDeep span) =
    (tokens : List SpannedToken) × LexesWithin limits source tokens
IsRefusalWithin limits source (errors.TooMany span) =
    (tokens : List SpannedToken) × LexesWithin limits source tokens
IsRefusalWithin limits source errors.Memory = Unit {0}

abbrev pub IsRefusalOf : List ℕ → SyntaxError → Type 0
IsRefusalOf = IsRefusalWithin standard_limits

-- A text has at most one tree, whatever the limits.
abbrev pub TextHasOneTree : Type 0
TextHasOneTree = (a b : Limits) (source : List ℕ) (t u : Tree) → IsTextOfTreeWithin a source t
    → IsTextOfTreeWithin b source u → t ≡ u

-- A text has at most one list of printed items, whatever the limits.
abbrev pub TextHasOneListOfItems : Type 0
TextHasOneListOfItems =
    (a b : Limits) (source : List ℕ) (items others : List Printed)
    → IsTextOfItemsWithin a source items → IsTextOfItemsWithin b source others → items ≡ others
