-- Used only by private functions: a reader of the contracts need not believe this file. Reading
-- printed items from the front of a token list, as Reading does for a tree.
use Rattle.std.specs.Prelude.{ℕ, zero, suc, if◌then◌else◌, ◌==◌, List, [], ◌∷◌, drop, Result, Ok, codes}
use Rattle.std.specs.Str.{bytes_eq}
use Rattle.fz_tree.specs.declared.token.Mark.TheVariants.{OpenParen, CloseParen, OpenBracket, CloseBracket, Comma, Semicolon, Equals}
use Rattle.fz_tree.specs.Token.{TokenValue, Word}
use Rattle.fz_tree.specs.Tree.{Literal, PrintedValue, OneValue, ArrayOf, Printed}
use Rattle.fz_tree.specs.declared.limits.Limits.{Limits}
use Rattle.fz_syntax.specs.Reading.{Fault, Reader, ◌>>=◌, mark_at, name_at, is_name, many_at, any_number, at_most, list_at, literal_at, bounds_at, whole}

-- how many index sets the array that the word begins has; 0 where the word begins no array
abbrev pub dimensions_of : List ℕ → ℕ
dimensions_of w =
    if bytes_eq w (codes "array1d") then 1
    else (if bytes_eq w (codes "array2d") then 2
    else (if bytes_eq w (codes "array3d") then 3
    else (if bytes_eq w (codes "array4d") then 4
    else (if bytes_eq w (codes "array5d") then 5
    else (if bytes_eq w (codes "array6d") then 6 else 0)))))

abbrev pub token_dimensions : TokenValue → ℕ
token_dimensions (Word w) = dimensions_of w
token_dimensions _ = 0

-- the same for the first token
abbrev pub next_dimensions : List TokenValue → ℕ
next_dimensions [] = 0
next_dimensions (t ∷ rest) = token_dimensions t

-- an index set and the comma after it
unfoldable pub index_set_at : Limits → Reader Literal
index_set_at limits tokens = do
  bounds ← bounds_at limits tokens
  comma ← mark_at Comma bounds.1
  Ok (bounds.0, comma.1)

-- so many of them
unfoldable pub index_sets_at : Limits → ℕ → Reader (List Literal)
index_sets_at limits zero tokens = Ok ([], tokens)
index_sets_at limits (suc n) tokens =
    index_set_at limits tokens >>= λ first. index_sets_at limits n first.1 >>= λ others. Ok
    (first.0 ∷ others.0, others.1)

-- an array of so many index sets, after its word
unfoldable pub printed_array_at : Limits → ℕ → Reader PrintedValue
printed_array_at limits dimensions tokens = do
  opened ← mark_at OpenParen tokens
  indexes ← index_sets_at limits dimensions opened.1
  bracket ← mark_at OpenBracket indexes.1
  elements ← list_at CloseBracket (at_most limits.elements (literal_at limits)) bracket.1
  closed ← mark_at CloseParen elements.1
  Ok (ArrayOf indexes.0 elements.0, closed.1)

unfoldable pub printed_value_at : Limits → Reader PrintedValue
printed_value_at limits tokens =
    if next_dimensions tokens == 0 then (literal_at limits tokens >>= λ l. Ok (OneValue l.0, l.1))
    else printed_array_at limits (next_dimensions tokens) (drop 1 tokens)

unfoldable pub printed_at : Limits → Reader Printed
printed_at limits tokens = do
  name ← name_at tokens
  equals ← mark_at Equals name.1
  value ← printed_value_at limits equals.1
  end ← mark_at Semicolon value.1
  Ok (record { name = name.0; value = value.0 }, end.1)

unfoldable pub items_at : Limits → Reader (List Printed)
items_at limits tokens = many_at is_name (any_number (printed_at limits)) 0 tokens

-- the items that the tokens are
unfoldable pub items_of : Limits → List TokenValue → Result (List Printed) Fault
items_of limits tokens = whole (items_at limits tokens)
