-- Used only by private functions: a reader of the contracts need not believe this file. What the
-- parser has left to read, and what it took between two states.
use Rattle.std.specs.Prelude.{◌≡◌, ◌≤◌, ℕ, List, [], ◌∷◌, ◌++◌, length, map, Some, Result, Ok, Err}
use Rattle.fz_tree.specs.declared.span.Span.{Span}
use Rattle.fz_tree.specs.declared.token.Mark.TheVariants.{Comma}
use Rattle.fz_tree.specs.Token.{TokenValue}
use Rattle.fz_tree.specs.Lexing.{SpannedToken}
use Rattle.fz_tree.specs.Left.{left, source_of}
use Rattle.fz_syntax.specs.declared.parser.cursor.Parser.{Parser}
use Rattle.fz_syntax.specs.declared.parser.refusal.Refusal.{Refusal}
use Rattle.fz_syntax.specs.Placed.{PlacedToken, AgreeWith, placed_mark}

-- the tokens that are left to read, with their byte ranges and without
abbrev pub ahead : Parser → List SpannedToken
ahead p = left p.tokens

abbrev pub lexemes : Parser → List TokenValue
lexemes p = map (λ t. t.token) (ahead p)

-- where the next token starts, or the source ends
abbrev pub start_of : List SpannedToken → ℕ → ℕ
start_of [] end = end
start_of (t ∷ ts) end = t.start

-- the byte offset where the last token ends, or the one given where there is no token
abbrev pub end_of : ℕ → List SpannedToken → ℕ
end_of from [] = from
end_of from (t ∷ ts) = end_of t.end ts

-- Between the two states no token came back, and the source is as long.
pub record Onward (p q : Parser) : Type 0 where
  pub shorter : length (lexemes q) ≤ length (lexemes p)
  pub end : q.end ≡ p.end

-- Between them the parser took these tokens from the front.
pub record Consumed (p q : Parser) (taken : List SpannedToken) : Type 0 where
  pub split : ahead p ≡ taken ++ ahead q
  pub upto : q.reached ≡ end_of p.reached taken
  pub same_source : source_of q.tokens ≡ source_of p.tokens
  pub shorter : length (lexemes q) ≤ length (lexemes p)
  pub end : q.end ≡ p.end

-- It took some tokens.
pub record Passed (p q : Parser) : Type 0 where
  pub taken : List SpannedToken
  pub on : Consumed p q taken

-- It took these tokens, which have the offsets that are known.
pub record Walk (p q : Parser) (placed : List PlacedToken) : Type 0 where
  pub taken : List SpannedToken
  pub on : Consumed p q taken
  pub agree : AgreeWith placed taken

-- Where a method gave a result, it took some tokens.
abbrev pub Passes : {X : Type 0} → Parser → Parser → Result X Refusal → Type 0
Passes p q (Ok x) = Passed p q
Passes p q (Err e) = Onward p q

-- Where it gave a result, it took the tokens of that.
abbrev pub Walks : {X : Type 0} → Parser → Parser → Result X Refusal → (X → List PlacedToken)
    → Type 0
Walks p q (Ok x) placed = Walk p q (placed x)
Walks p q (Err e) placed = Onward p q

-- a literal of one token at a byte range, and the comma after it
abbrev pub placed_listed : TokenValue → Span → List PlacedToken
placed_listed t span =
    (record { token = t; start = Some span.start; end = Some span.end }) ∷ placed_mark Comma
