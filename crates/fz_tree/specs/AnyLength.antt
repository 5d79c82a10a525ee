-- Texts of any length that lex to tokens, as `show` writes them (MiniZinc Handbook, FlatZinc
-- grammar).
use Rattle.std.specs.Prelude.{◌≡◌, ℕ, List, map}
use Rattle.fz_tree.specs.Token.{TokenValue}
use Rattle.std.specs.List.{AllByRecursion}
use Rattle.fz_tree.specs.Lexing.{SpannedToken, IsTokenWithinLimit}
use Rattle.fz_tree.specs.Spanned.{LexesToSpanned}

-- The source lexes to the tokens.
abbrev pub LexesTo : List ℕ → List TokenValue → Type 0
LexesTo source tokens = (spanned : List SpannedToken) × LexesToSpanned source spanned
    × (map (λ t. t.token) spanned ≡ tokens)

-- The source lexes to the tokens, and the numbers among them are within the limit; the source may
-- be of any length.
pub record LexesWithNumbersInLimit (source : List ℕ) (tokens : List TokenValue) : Type 0 where
  pub lexes : LexesTo source tokens
  pub numbers : AllByRecursion IsTokenWithinLimit tokens
