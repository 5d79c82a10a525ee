-- The source that a reader of tokens reads, and the tokens that it has left: its first token, and
-- those ahead of the offset that it has reached.
use Rattle.std.specs.Prelude.{ℕ, List, [], ◌∷◌, Option, Some, None}
use Rattle.fz_tree.specs.Token.{Marked}
use Rattle.fz_tree.specs.Lexing.{SpannedToken}
use Rattle.fz_tree.specs.Spanned.{spanned}
use Rattle.fz_tree.specs.Ahead.{tokens_ahead}
use Rattle.fz_tree.specs.declared.token.Mark.TheVariants.{Comma}
use Rattle.fz_tree.specs.declared.token.Token.{Token}
use Rattle.fz_tree.specs.declared.ahead.Listed.{Listed}
use Rattle.fz_tree.specs.declared.ahead.Tokens.{Tokens}

abbrev pub first_and : Option Token → List SpannedToken → List SpannedToken
first_and None rest = []
first_and (Some t) rest = spanned t ∷ rest

-- the text that is read
abbrev pub source_of : Tokens → List ℕ
source_of t = t.lexer.source.now

-- the tokens that are left
abbrev pub left : Tokens → List SpannedToken
left t = first_and t.first (tokens_ahead t.lexer.source.now t.lexer.place)

-- the comma after a token of a list
abbrev pub listed_comma : Listed → SpannedToken
listed_comma l = record { token = Marked Comma; start = l.comma.start; end = l.comma.end }
