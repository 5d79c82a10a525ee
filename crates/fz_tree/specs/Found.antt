-- What the private functions of the lexer promise each other. A reader need not believe this file:
-- what the crate promises doesn't speak of it.
use Rattle.std.specs.Prelude.{Bool, ◌⊎◌, Option, Some, None, ◌≡◌, ◌≢◌, ℕ, ◌+◌, ◌<◌, List, [], ◌∷◌, length, take, drop, slice_range, ℤ, ◌≤◌}
use Rattle.fz_tree.specs.Token.{Whole}
use Rattle.fz_tree.specs.Lexing.{SpannedToken, IsLongestSpelling, CutBetween, IsWithinLimit, IsTokenWithinLimit}
use Rattle.fz_tree.specs.Spanned.{NothingBegins, token_value, spanned, all_spanned, TextsAreSlices, IsLexicalFaultWithin, AreWithinLimit, LexesToSpanned}
use Rattle.fz_tree.specs.Scan.{found, none, front_of, signed}
use Rattle.fz_tree.specs.declared.token.TokenKind.TheVariants as kinds
use Rattle.fz_tree.specs.declared.limits.Limits.{Limits}
use Rattle.fz_tree.specs.declared.token.Token.{Token}
use Rattle.fz_tree.specs.declared.scanner.Front.{Front}
use Rattle.fz_tree.specs.declared.scanner.Front.TheVariants.{Found, OutsideLimit, Nothing}
use Rattle.fz_tree.specs.declared.error.SyntaxError.{SyntaxError}
use Rattle.fz_tree.specs.declared.error.SyntaxError.TheVariants.{TooLong, BadByte, TooLarge, Float, Syntax, TooDeep, TooMany, Memory}

-- Each span follows the one before, has at least one byte, and ends within the bytes.
abbrev pub AreInOrder : ℕ → ℕ → List SpannedToken → Type 0
AreInOrder from end [] = from ≤ end
AreInOrder from end (t ∷ tokens) =
    (from ≤ t.start) × (t.start < t.end) × AreInOrder t.end end tokens

-- What the code finds at the front of the bytes is what is there.
abbrev pub IsFrontOf : List ℕ → Front → Type 0
IsFrontOf bytes (Found kind n) = (front_of bytes ≡ found (token_value kind (take n bytes)) n)
    × IsTokenWithinLimit (token_value kind (take n bytes))
IsFrontOf bytes (OutsideLimit n) =
    (z : ℤ) × (front_of bytes ≡ found (Whole z) n) × ¬ (IsWithinLimit z)
IsFrontOf bytes Nothing = front_of bytes ≡ none

-- What is found of a number with this sign, length and, if it is an integer, magnitude.
abbrev pub IsNumberFound : Bool → ℕ → Option ℕ → Front → Type 0
IsNumberFound negative len None front = front ≡ Found kinds.FloatText len
IsNumberFound negative len (Some n) front =
    ((front ≡ Found (kinds.Whole (signed negative n)) len) × IsWithinLimit (signed negative n))
    ⊎ ((front ≡ OutsideLimit len) × ¬ (IsWithinLimit (signed negative n)))

-- From the first offset on come blanks and comments and then the next token, which ends at the
-- second; or blanks and comments up to the end of the source.
abbrev pub NextFrom : List ℕ → ℕ → ℕ → Option Token → Type 0
NextFrom source place end None = CutBetween source place (length source) []
NextFrom source place end (Some t) =
    CutBetween source place end (spanned t ∷ []) × IsTokenWithinLimit (spanned t).token
    × (t.text.now ≡ slice_range source t.span.start t.span.end) × (place < end)
    × (t.span.end ≡ end)

-- From the offset on come blanks and comments and then the fault.
abbrev pub FaultFrom : List ℕ → ℕ → SyntaxError → Type 0
FaultFrom source place TooLong = ⊥
FaultFrom source place (BadByte span) =
    CutBetween source place span.start [] × NothingBegins (drop span.start source)
    × (span.end ≡ span.start + 1)
FaultFrom source place (TooLarge span) =
    (n : ℕ) × (z : ℤ) × CutBetween source place span.start []
    × IsLongestSpelling (drop span.start source) n (Whole z) × (¬ (IsWithinLimit z))
    × (span.end ≡ span.start + n)
FaultFrom source place (Float span) = ⊥
FaultFrom source place (Syntax span) = ⊥
FaultFrom source place (TooDeep span) = ⊥
FaultFrom source place (TooMany span) = ⊥
FaultFrom source place Memory = ⊥

-- Tokens that the source lexes to, with their texts, or a fault of the source.
abbrev pub IsLexed : List ℕ → List Token → Type 0
IsLexed source tokens = LexesToSpanned source (all_spanned tokens)
    × AreWithinLimit (all_spanned tokens) × TextsAreSlices source tokens

-- The source lexes to some tokens with numbers within the limit.
abbrev pub IsScanned : List ℕ → Type 0
IsScanned source =
    (tokens : List SpannedToken) × LexesToSpanned source tokens × AreWithinLimit tokens

-- A fault of the source, neither its length nor out of memory.
abbrev pub IsScanFault : List ℕ → SyntaxError → Type 0
IsScanFault source e = ((limits : Limits) → IsLexicalFaultWithin limits source e) × (e ≢ Memory)
    × (e ≢ TooLong)
