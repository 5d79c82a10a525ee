-- The canonical text of a tree (this project's profile): the texts of its tokens, some with one
-- blank between them. Each item is a line.
use Rattle.std.specs.Prelude.{ℕ, Bool, true, false, ◌&&◌, if◌then◌else◌, List, [], ◌∷◌, ◌++◌, codes}
use Rattle.std.specs.List.{AllByRecursion}
use Rattle.std.specs.Fmt.{signed_decimal}
use Rattle.fz_tree.specs.declared.token.Mark.TheVariants.{OpenParen, CloseParen, OpenBracket, CloseBracket, OpenBrace, CloseBrace, Comma, Semicolon, Colon, DotDot}
use Rattle.fz_tree.specs.Token.{TokenValue, Word, Whole, FloatText, StringText, Marked, mark_text, IsTokenText}
use Rattle.fz_tree.specs.Lexing.{IsTokenWithinLimit}
use Rattle.fz_tree.specs.Tree.{Tree}
use Rattle.fz_tree.specs.Tokens.{toks}

-- The text of a token: an integer is in decimal, after `-` where it is negative, and floats and
-- strings are as they were written. A blank is behind each `:`, and a line feed behind each `;`.
abbrev pub token_text : TokenValue → List ℕ
token_text (Word text) = text
token_text (Whole n) = signed_decimal n
token_text (FloatText text) = text
token_text (StringText text) = text
token_text (Marked Colon) = codes ": "
token_text (Marked Semicolon) = codes ";\n"
token_text (Marked m) = mark_text m

-- whether one more blank may come before a token, and whether it may come behind it
abbrev pub blanks : TokenValue → Bool × Bool
blanks (Marked OpenParen) = (false, false)
blanks (Marked CloseParen) = (false, true)
blanks (Marked OpenBracket) = (true, false)
blanks (Marked CloseBracket) = (false, true)
blanks (Marked OpenBrace) = (true, false)
blanks (Marked CloseBrace) = (false, true)
blanks (Marked Comma) = (false, false)
blanks (Marked Semicolon) = (false, false)
blanks (Marked Colon) = (false, false)
blanks (Marked DotDot) = (false, false)
blanks t = (true, true)

-- The text of tokens: a blank comes between two that may both have it there. Whether it may come
-- before the first of them is given.
abbrev pub tokens_text : Bool → List TokenValue → List ℕ
tokens_text apart [] = []
tokens_text apart (t ∷ rest) = (if apart && (blanks t).0 then codes " " else [])
    ++ (token_text t ++ tokens_text (blanks t).1 rest)

abbrev pub tree_text : Tree → List ℕ
tree_text t = tokens_text false (toks t)

-- ---- trees that can be written

-- Each token of the tree has a text, and its numbers are within the limit. That is so for each tree
-- that was read.
pub record CanBeWritten (t : Tree) : Type 0 where
  pub texts : AllByRecursion IsTokenText (toks t)
  pub numbers : AllByRecursion IsTokenWithinLimit (toks t)
