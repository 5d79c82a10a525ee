-- Tokens and their texts. "Handbook" is the MiniZinc Handbook, FlatZinc grammar; "profile" is this
-- project's own choice where the Handbook leaves one or is narrowed.
use Rattle.std.specs.Prelude.{◌≡◌, ◌≢◌, ℕ, ◌+◌, ◌*◌, ◌<◌, ◌⊎◌, List, [], ◌∷◌, ◌++◌, length, ℤ, pos, neg_ℤ, IsTrue, codes, fold, Bool, ◌==◌, ◌||◌}
use Rattle.std.specs.List.{list_all}
use Rattle.std.specs.Char.{digit_value, is_digit, is_ascii_alphabetic, is_ascii_alphanumeric}
use Rattle.fz_tree.specs.declared.token.Mark.{Mark}
use Rattle.fz_tree.specs.declared.token.Mark.TheVariants.{OpenParen, CloseParen, OpenBracket, CloseBracket, OpenBrace, CloseBrace, Comma, Semicolon, Colon, ColonColon, Equals, DotDot}

-- A blank: space, tab, CR or LF.
abbrev pub is_blank : ℕ → Bool
is_blank b = b == 32 || b == 9 || b == 13 || b == 10

-- What a word begins with: `[A-Za-z_]`.
abbrev pub is_word_start : ℕ → Bool
is_word_start b = is_ascii_alphabetic b || b == 95

-- What a word goes on with: `[A-Za-z0-9_]`.
abbrev pub is_word_byte : ℕ → Bool
is_word_byte b = is_ascii_alphanumeric b || b == 95

-- LF, which ends a line.
abbrev pub is_line_feed : ℕ → Bool
is_line_feed b = b == 10

-- A token, without where it is in the source and how it is written: a word, an integer of any size,
-- the text of a float or of a string, which have no other value (profile), or a mark.
pub data TokenValue : Type 0 where
  Word : List ℕ → TokenValue
  Whole : ℤ → TokenValue
  FloatText : List ℕ → TokenValue
  StringText : List ℕ → TokenValue
  Marked : Mark → TokenValue

-- The text of a mark (Handbook).
abbrev pub mark_text : Mark → List ℕ
mark_text OpenParen = codes "("
mark_text CloseParen = codes ")"
mark_text OpenBracket = codes "["
mark_text CloseBracket = codes "]"
mark_text OpenBrace = codes "{"
mark_text CloseBrace = codes "}"
mark_text Comma = codes ","
mark_text Semicolon = codes ";"
mark_text Colon = codes ":"
mark_text ColonColon = codes "::"
mark_text Equals = codes "="
mark_text DotDot = codes ".."

-- A word: `[A-Za-z_][A-Za-z0-9_]*` (Handbook: identifiers and the words of the language).
abbrev pub IsWordText : List ℕ → Type 0
IsWordText [] = ⊥
IsWordText (b ∷ bytes) = IsTrue (is_word_start b) × IsTrue (list_all is_word_byte bytes)

-- One or more digits of a base: `[0-9]+` in base 10, `[0-7]+` in base 8, `[0-9A-Fa-f]+` in base 16
-- (Handbook: integer literals).
abbrev pub AreDigits : ℕ → List ℕ → Type 0
AreDigits base bytes = (0 < length bytes) × IsTrue (list_all (λ b. is_digit b base) bytes)

-- The number that digits write in a base, the first digit counting most.
abbrev pub number_of : ℕ → List ℕ → ℕ
number_of base digits = fold (λ n b. n * base + digit_value b) 0 digits

-- The bytes write the number without a sign: in decimal, or in hexadecimal after `0x`, or in octal
-- after `0o`. Leading zeros are allowed (Handbook: integer literals).
pub data WritesNatural (bytes : List ℕ) (n : ℕ) : Type 0 where
  decimal : AreDigits 10 bytes → n ≡ number_of 10 bytes → WritesNatural bytes n
  hexadecimal : (digits : List ℕ) → bytes ≡ codes "0x" ++ digits → AreDigits 16 digits
      → n ≡ number_of 16 digits → WritesNatural bytes n
  octal : (digits : List ℕ) → bytes ≡ codes "0o" ++ digits → AreDigits 8 digits
      → n ≡ number_of 8 digits → WritesNatural bytes n

-- The bytes write the integer: without a sign, or its negative after `-`. So `-0` writes 0
-- (Handbook: integer literals).
pub data WritesWhole (bytes : List ℕ) (z : ℤ) : Type 0 where
  unsigned : (n : ℕ) → WritesNatural bytes n → z ≡ pos n → WritesWhole bytes z
  negative : (natural : List ℕ) (n : ℕ) → bytes ≡ codes "-" ++ natural → WritesNatural natural n
      → z ≡ neg_ℤ (pos n) → WritesWhole bytes z

-- An exponent: `e` or `E`, an optional `+` or `-`, and one or more digits (Handbook: float
-- literals).
pub record IsExponent (bytes : List ℕ) : Type 0 where
  pub letter : List ℕ
  pub sign : List ℕ
  pub digits : List ℕ
  pub is_whole : bytes ≡ letter ++ (sign ++ digits)
  pub is_letter : (letter ≡ codes "e") ⊎ (letter ≡ codes "E")
  pub is_sign : (sign ≡ []) ⊎ ((sign ≡ codes "+") ⊎ (sign ≡ codes "-"))
  pub are_digits : AreDigits 10 digits

-- A float without a sign: digits, a decimal point, digits and an optional exponent; or digits and
-- an exponent (Handbook: float literals).
pub data IsUnsignedFloat (bytes : List ℕ) : Type 0 where
  pointed : (before after exponent : List ℕ) → bytes ≡ before ++ (codes "." ++ (after ++ exponent))
      → AreDigits 10 before → AreDigits 10 after → (exponent ≡ []) ⊎ IsExponent exponent
      → IsUnsignedFloat bytes
  scaled : (before exponent : List ℕ) → bytes ≡ before ++ exponent → AreDigits 10 before
      → IsExponent exponent → IsUnsignedFloat bytes

-- A float: one without a sign, or one after `-` (Handbook: float literals).
pub data IsFloatText (bytes : List ℕ) : Type 0 where
  unsigned_float : IsUnsignedFloat bytes → IsFloatText bytes
  negative_float : (rest : List ℕ) → bytes ≡ codes "-" ++ rest → IsUnsignedFloat rest
      → IsFloatText bytes

-- The rest of a string after its opening `"`: bytes other than `"`, `\` and LF, or pairs of `\` and
-- a byte other than LF, and then the closing `"` (Handbook: string literals; profile: `\(` is no
-- exception).
pub data IsStringRest : List ℕ → Type 0 where
  closed : (b : ℕ) → b ≡ 34 → IsStringRest (b ∷ [])
  plain : (b : ℕ) (rest : List ℕ) → b ≢ 34 → b ≢ 92 → b ≢ 10 → IsStringRest rest
      → IsStringRest (b ∷ rest)
  escaped : (b c : ℕ) (rest : List ℕ) → b ≡ 92 → c ≢ 10 → IsStringRest rest
      → IsStringRest (b ∷ (c ∷ rest))

-- A string with its quotes. Escapes have no meaning (this project's profile).
abbrev pub IsStringText : List ℕ → Type 0
IsStringText [] = ⊥
IsStringText (b ∷ rest) = (b ≡ 34) × IsStringRest rest

-- The bytes are a text of the token. A number has many texts, every other token has one. The cases
-- are those of the Handbook's grammar.
abbrev pub Spells : TokenValue → List ℕ → Type 0
Spells (Word text) bytes = (bytes ≡ text) × IsWordText bytes
Spells (Whole z) bytes = WritesWhole bytes z
Spells (FloatText text) bytes = (bytes ≡ text) × IsFloatText bytes
Spells (StringText text) bytes = (bytes ≡ text) × IsStringText bytes
Spells (Marked m) bytes = bytes ≡ mark_text m

-- The text that is in the token is one that the language has for it: a word's text is that of a
-- word, a float's that of a float, a string's that of a string. Numbers and marks have none.
abbrev pub IsTokenText : TokenValue → Type 0
IsTokenText (Word text) = IsWordText text
IsTokenText (FloatText text) = IsFloatText text
IsTokenText (StringText text) = IsStringText text
IsTokenText _ = Unit {0}
