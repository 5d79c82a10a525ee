-- How a text is cut into tokens. "Handbook" is the MiniZinc Handbook, FlatZinc grammar. A `place`
-- is a byte offset, counted from 0, and `drop place source` is the source from there on.
use Rattle.std.specs.Prelude.{◌≡◌, ℕ, ◌+◌, ◌<◌, ◌≤◌, List, [], ◌∷◌, length, take, drop, slice_index, IsTrue, map, ◌-◌, ◌^◌, ℤ, pos, neg_ℤ, ◌≤ℤ◌}
use Rattle.std.specs.List.{position_or_len, AllByRecursion}
use Rattle.fz_tree.specs.Token.{is_blank, is_line_feed, TokenValue, Spells, Whole}
use Rattle.fz_tree.specs.declared.limits.Limits.{Limits}

-- A token and the byte range of its text: from start up to end, exclusive.
pub record SpannedToken : Type 0 where
  pub token : TokenValue
  pub start : ℕ
  pub end : ℕ

-- The first n bytes are a text of the token, and no longer front of the bytes is a text of any
-- token (the longest text counts, as in the Handbook's regular expressions).
pub record IsLongestSpelling (bytes : List ℕ) (n : ℕ) (token : TokenValue) : Type 0 where
  pub within : n ≤ length bytes
  pub spelled : Spells token (take n bytes)
  pub longest : (other : TokenValue) (m : ℕ) → m ≤ length bytes → Spells other (take m bytes)
      → m ≤ n

-- The first n bytes are a whole comment: from `%` up to the next LF or to the end (Handbook).
pub record IsWholeComment (bytes : List ℕ) (n : ℕ) : Type 0 where
  pub begins : slice_index bytes 0 ≡ 37
  pub runs : n ≡ position_or_len is_line_feed bytes

-- Between the two byte offsets of the source are blanks, whole comments and texts of the tokens in
-- order, and each of these texts is the longest of any token that begins where it does (Handbook:
-- blanks and comments between tokens are ignored).
pub data CutBetween (source : List ℕ) : ℕ → ℕ → List SpannedToken → Type 0 where
  nothing : (place : ℕ) → CutBetween source place place []
  blank : (place end : ℕ) (tokens : List SpannedToken) → place < length source
      → IsTrue (is_blank (slice_index source place)) → CutBetween source (place + 1) end tokens
      → CutBetween source place end tokens
  comment : (place n end : ℕ) (tokens : List SpannedToken) → IsWholeComment (drop place source) n
      → CutBetween source (place + n) end tokens → CutBetween source place end tokens
  spelling : (place n end : ℕ) (token : SpannedToken) (tokens : List SpannedToken)
      → token.start ≡ place → token.end ≡ place + n → IsLongestSpelling
      (drop place source) n token.token → CutBetween source (place + n) end tokens
      → CutBetween source place end (token ∷ tokens)

-- The integers that are accepted are those of 64 bits.
abbrev pub IsWithinLimit : ℤ → Type 0
IsWithinLimit z = (neg_ℤ (pos (2 ^ 63)) ≤ℤ z) × (z ≤ℤ pos (2 ^ 63 - 1))

-- An integer is within the limit; nothing is asked of the other tokens.
abbrev pub IsTokenWithinLimit : TokenValue → Type 0
IsTokenWithinLimit (Whole z) = IsWithinLimit z
IsTokenWithinLimit _ = Unit {0}

-- The source lexes to the tokens: it is cut into them up to its end, both within the limits.
pub record LexesWithin (limits : Limits) (source : List ℕ)
    (tokens : List SpannedToken) : Type 0 where
  pub short : length source ≤ limits.bytes
  pub lexes : CutBetween source 0 (length source) tokens
  pub numbers : AllByRecursion (λ t. IsTokenWithinLimit t.token) tokens

-- The source is a text of the tokens: it lexes to them, and both are within the limits.
abbrev pub IsTextOfTokensWithin : Limits → List ℕ → List TokenValue → Type 0
IsTextOfTokensWithin limits source tokens = (spanned : List SpannedToken)
    × LexesWithin limits source spanned × (map (λ t. t.token) spanned ≡ tokens)
