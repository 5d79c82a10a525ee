-- From tokens of the code to the plain data that the definitions speak of, and what a refusal says
-- about the source (this project's profile).
use Rattle.std.specs.Prelude.{◌≡◌, ℕ, ◌+◌, ◌^◌, ◌<◌, ◌≤◌, List, length, drop, slice_range, map, ℤ, ◌≢◌, take, slice_index, IsFalse}
use Rattle.std.specs.List.{AllByRecursion}
use Rattle.fz_tree.specs.declared.span.Span.{Span}
use Rattle.fz_tree.specs.Token.{TokenValue, Word, Whole, FloatText, StringText, Marked, Spells, is_blank}
use Rattle.fz_tree.specs.Lexing.{SpannedToken, CutBetween, IsLongestSpelling, IsTokenWithinLimit, LexesWithin, IsWithinLimit}
use Rattle.fz_tree.specs.declared.limits.Limits.{Limits}
use Rattle.fz_tree.specs.declared.token.TokenKind.{TokenKind}
use Rattle.fz_tree.specs.declared.token.TokenKind.TheVariants as kinds
use Rattle.fz_tree.specs.declared.token.Token.{Token}
use Rattle.fz_tree.specs.declared.error.SyntaxError.{SyntaxError}
use Rattle.fz_tree.specs.declared.error.SyntaxError.TheVariants.{TooLong, BadByte, TooLarge, Float, Syntax, TooDeep, TooMany, Memory}

-- No blank, no comment and no text of a token begins where these bytes begin, and there is a byte.
pub record NothingBegins (bytes : List ℕ) : Type 0 where
  pub a_byte : 0 < length bytes
  pub no_blank : IsFalse (is_blank (slice_index bytes 0))
  pub no_comment : slice_index bytes 0 ≢ 37
  pub no_spelling : (token : TokenValue) (n : ℕ) → n ≤ length bytes → Spells token (take n bytes)
      → ⊥

-- The token of a kind with a text.
abbrev pub token_value : TokenKind → List ℕ → TokenValue
token_value kinds.Word text = Word text
token_value (kinds.Whole z) text = Whole z
token_value kinds.FloatText text = FloatText text
token_value kinds.Str text = StringText text
token_value (kinds.Mark m) text = Marked m

abbrev pub spanned : Token → SpannedToken
spanned t = record { token = token_value t.kind t.text.now; start = t.span.start; end = t.span.end }

abbrev pub all_spanned : List Token → List SpannedToken
all_spanned tokens = map spanned tokens

-- The part of the source before the offset is cut into the tokens.
abbrev pub CutUpTo : List ℕ → ℕ → List SpannedToken → Type 0
CutUpTo source place tokens = CutBetween source 0 place tokens

-- The source lexes to the tokens, each with the byte range of its text: it is cut up to its end.
abbrev pub LexesToSpanned : List ℕ → List SpannedToken → Type 0
LexesToSpanned source tokens = CutUpTo source (length source) tokens

-- Their integers are within the limit.
abbrev pub AreWithinLimit : List SpannedToken → Type 0
AreWithinLimit tokens = AllByRecursion (λ t. IsTokenWithinLimit t.token) tokens

-- The text of each token is the slice of the source at its span.
abbrev pub TextsAreSlices : List ℕ → List Token → Type 0
TextsAreSlices source tokens =
    AllByRecursion (λ t. t.text.now ≡ slice_range source t.span.start t.span.end) tokens

-- The token's byte range in the source is a text of the token.
abbrev pub IsSpelledAtSpan : List ℕ → SpannedToken → Type 0
IsSpelledAtSpan source t = Spells t.token (slice_range source t.start t.end)

-- The span is within a source of this length.
abbrev pub IsSpanWithin : ℕ → Span → Type 0
IsSpanWithin end span = (span.start ≤ span.end) × (span.end ≤ end)

-- The span of an error, where it has one, is within a source of this length.
abbrev pub IsPlacedWithin : ℕ → SyntaxError → Type 0
IsPlacedWithin end TooLong = Unit {0}
IsPlacedWithin end (BadByte span) = IsSpanWithin end span
IsPlacedWithin end (TooLarge span) = IsSpanWithin end span
IsPlacedWithin end (Float span) = IsSpanWithin end span
IsPlacedWithin end (Syntax span) = IsSpanWithin end span
IsPlacedWithin end (TooDeep span) = IsSpanWithin end span
IsPlacedWithin end (TooMany span) = IsSpanWithin end span
IsPlacedWithin end Memory = Unit {0}

-- What a refusal by the lexer says about the source. `BadByte` and `TooLarge` say that the source
-- is cut up to the fault, with numbers within the limit: at a bad byte nothing begins, and at a
-- number that is too large the longest text of any token is that of a number outside the limit.
abbrev pub IsLexicalFaultWithin : Limits → List ℕ → SyntaxError → Type 0
IsLexicalFaultWithin limits source TooLong = limits.bytes < length source
IsLexicalFaultWithin limits source (BadByte span) =
    (before : List SpannedToken) × CutUpTo source span.start before
    × AreWithinLimit before × NothingBegins (drop span.start source)
    × (span.end ≡ span.start + 1)
IsLexicalFaultWithin limits source (TooLarge span) =
    (before : List SpannedToken) × (n : ℕ) × (z : ℤ) × CutUpTo source span.start before
    × AreWithinLimit before × IsLongestSpelling (drop span.start source) n (Whole z)
    × (¬ (IsWithinLimit z)) × (span.end ≡ span.start + n)
IsLexicalFaultWithin limits source (Float span) = ⊥
IsLexicalFaultWithin limits source (Syntax span) = ⊥
IsLexicalFaultWithin limits source (TooDeep span) = ⊥
IsLexicalFaultWithin limits source (TooMany span) = ⊥
IsLexicalFaultWithin limits source Memory = Unit {0}

-- The limits where no others are given: the most bytes of a text, elements of a list in brackets or
-- braces and levels of annotations in one another, and the greatest length of an array.
abbrev pub standard_limits : Limits
standard_limits = record { bytes = 2 ^ 24; elements = 2 ^ 20; size = 2 ^ 20; depth = 32 }

abbrev pub IsLexicalFault : List ℕ → SyntaxError → Type 0
IsLexicalFault = IsLexicalFaultWithin standard_limits

-- The most bytes that a text may have at the standard limits.
abbrev pub most_bytes : ℕ
most_bytes = standard_limits.bytes

-- The source lexes to the tokens within the standard limits.
abbrev pub LexesWithinLimits : List ℕ → List SpannedToken → Type 0
LexesWithinLimits = LexesWithin standard_limits
