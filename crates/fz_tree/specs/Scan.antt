-- The token at the front of some bytes, as a computation. The private functions of the lexer give
-- exactly this. That it is the longest text of any token is proved of it, so a reader need not
-- believe this file.
use Rattle.std.specs.Prelude.{ℕ, ◌+◌, List, [], ◌∷◌, take, drop, slice_index, Bool, true, false, ◌==◌, ◌&&◌, ◌||◌, if◌then◌else◌, Option, Some, None, option_map, ℤ, pos, neg_ℤ}
use Rattle.std.specs.List.{prefix_len}
use Rattle.std.specs.Char.{is_digit}
use Rattle.fz_tree.specs.Token.{is_word_start, is_word_byte, TokenValue, Word, Whole, FloatText, StringText, Marked, number_of}
use Rattle.fz_tree.specs.declared.token.Mark.{Mark}
use Rattle.fz_tree.specs.declared.token.Mark.TheVariants.{OpenParen, CloseParen, OpenBracket, CloseBracket, OpenBrace, CloseBrace, Comma, Semicolon, Colon, ColonColon, Equals, DotDot}

-- how many digits of a base are at the front, and the number that they write
abbrev pub digits_len : ℕ → List ℕ → ℕ
digits_len base bytes = prefix_len (λ b. is_digit b base) bytes

abbrev pub leading_number : ℕ → List ℕ → ℕ
leading_number base bytes = number_of base (take (digits_len base bytes) bytes)

-- the length of a decimal point and digits at the front, or 0
unfoldable pub fraction_len : List ℕ → ℕ
fraction_len bytes = if (slice_index bytes 0 == 46) && is_digit (slice_index bytes 1) 10
    then 1 + digits_len 10 (drop 1 bytes) else 0

-- the length of a sign at the front, or 0
abbrev pub sign_len : List ℕ → ℕ
sign_len bytes = if slice_index bytes 0 == 43 || slice_index bytes 0 == 45 then 1 else 0

-- the length of an optional sign and digits at the front, or 0
unfoldable pub signed_digits_len : List ℕ → ℕ
signed_digits_len bytes =
    if is_digit (slice_index bytes (sign_len bytes)) 10
    then sign_len bytes + digits_len 10 (drop (sign_len bytes) bytes) else 0

-- the length of an exponent at the front, or 0
unfoldable pub exponent_len : List ℕ → ℕ
exponent_len bytes =
    if slice_index bytes 0 == 101 || slice_index bytes 0 == 69
    then (if signed_digits_len (drop 1 bytes) == 0 then 0
    else 1 + signed_digits_len (drop 1 bytes)) else 0

-- a number without a sign at the front: its value where it is an integer, and its length
pub record NumberFront : Type 0 where
  pub natural : Option ℕ
  pub len : ℕ

-- whether `0`, the letter and a digit of the base are at the front
abbrev pub is_based : ℕ → ℕ → List ℕ → Bool
is_based letter base bytes = (slice_index bytes 0 == 48)
    && ((slice_index bytes 1 == letter) && is_digit (slice_index bytes 2) base)

abbrev pub based_number : ℕ → List ℕ → NumberFront
based_number base bytes = record {
  natural = Some (leading_number base (drop 2 bytes));
  len = 2 + digits_len base (drop 2 bytes);
}

abbrev pub decimal_number : List ℕ → NumberFront
decimal_number bytes =
    let whole_len = digits_len 10 bytes in
    let point_len = fraction_len (drop whole_len bytes) in
    let scale_len = exponent_len (drop (whole_len + point_len) bytes) in
    if point_len + scale_len == 0 then record {
      natural = Some (leading_number 10 bytes);
      len = whole_len;
    } else record { natural = None; len = whole_len + point_len + scale_len }

unfoldable pub number_front : List ℕ → NumberFront
number_front bytes =
    if is_based 120 16 bytes then based_number 16 bytes
    else (if is_based 111 8 bytes then based_number 8 bytes
    else decimal_number bytes)

-- the length of the rest of a string after its opening quote, where it is closed on its line
unfoldable pub string_rest_len : List ℕ → Option ℕ
string_rest_len [] = None
string_rest_len (b ∷ []) = if b == 34 then Some 1 else None
string_rest_len (b ∷ (c ∷ rest)) =
    if b == 34 then Some 1
    else (if b == 10 then None
    else (if b == 92 then (if c == 10 then None else option_map (λ n. 2 + n) (string_rest_len rest))
    else option_map (λ n. 1 + n) (string_rest_len (c ∷ rest))))

-- the token at the front and the length of its text
pub data FrontToken : Type 0 where
  found : TokenValue → ℕ → FrontToken
  none : FrontToken

-- the mark at the front and the length of its text
unfoldable pub mark_front : List ℕ → Option (Mark × ℕ)
mark_front bytes =
    let first = slice_index bytes 0 in
    let second = slice_index bytes 1 in
    if first == 40 then Some (OpenParen, 1)
    else (if first == 41 then Some (CloseParen, 1)
    else (if first == 91 then Some (OpenBracket, 1)
    else (if first == 93 then Some (CloseBracket, 1)
    else (if first == 123 then Some (OpenBrace, 1)
    else (if first == 125 then Some (CloseBrace, 1)
    else (if first == 44 then Some (Comma, 1)
    else (if first == 59 then Some (Semicolon, 1)
    else (if first == 58 then (if second == 58 then Some (ColonColon, 2) else Some (Colon, 1))
    else (if first == 61 then Some (Equals, 1)
    else (if (first == 46) && (second == 46) then Some (DotDot, 2)
    else None))))))))))

-- the natural, negated where there is a sign
abbrev pub signed : Bool → ℕ → ℤ
signed negative n = if negative then neg_ℤ (pos n) else pos n

abbrev pub number_token : Bool → ℕ → List ℕ → Option ℕ → FrontToken
number_token negative len bytes (Some n) = found (Whole (signed negative n)) len
number_token negative len bytes None = found (FloatText (take len bytes)) len

abbrev pub number_found : Bool → ℕ → List ℕ → NumberFront → FrontToken
number_found negative sign_len bytes n = number_token negative (sign_len + n.len) bytes n.natural

abbrev pub string_found : List ℕ → Option ℕ → FrontToken
string_found bytes None = none
string_found bytes (Some n) = found (StringText (take (1 + n) bytes)) (1 + n)

abbrev pub mark_found : Option (Mark × ℕ) → FrontToken
mark_found None = none
mark_found (Some m) = found (Marked m.0) m.1

unfoldable pub front_of : List ℕ → FrontToken
front_of bytes =
    let first = slice_index bytes 0 in
    let word_len = prefix_len is_word_byte bytes in
    if is_word_start first then found (Word (take word_len bytes)) word_len
    else (if is_digit first 10 then number_found false 0 bytes (number_front bytes)
    else (if (first == 45) && is_digit (slice_index bytes 1) 10
    then number_found true 1 bytes (number_front (drop 1 bytes))
    else (if first == 34 then string_found bytes (string_rest_len (drop 1 bytes))
    else mark_found (mark_front bytes))))
