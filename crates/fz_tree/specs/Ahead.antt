-- The tokens ahead of a byte offset of a source: those from there up to its end, or up to the first
-- fault. The contracts of `Tokens`, which reads tokens one by one, are stated with this list; that
-- a source without a fault lexes to it is proved.
use Rattle.std.specs.Prelude.{ℕ, zero, suc, ◌+◌, ◌^◌, List, [], ◌∷◌, length, drop, slice_index, Bool, true, nat_lt, ◌==◌, if◌then◌else◌, ℤ, pos, negsuc}
use Rattle.std.specs.List.{position_or_len}
use Rattle.fz_tree.specs.Token.{is_blank, is_line_feed, TokenValue, Word, Whole, FloatText, StringText, Marked}
use Rattle.fz_tree.specs.Lexing.{SpannedToken}
use Rattle.fz_tree.specs.declared.token.Mark.TheVariants.{Comma}
use Rattle.fz_tree.specs.Scan.{FrontToken, found, none, front_of}

-- the offset where the blanks and comments end that begin at an offset. The first argument bounds
-- the recursion: at most so many blanks and comments are skipped
unfoldable pub gap_from : ℕ → List ℕ → ℕ → ℕ
gap_from zero source place = place
gap_from (suc room) source place =
    if is_blank (slice_index source place) then gap_from room source (place + 1)
    else (if slice_index source place == 37
    then gap_from room source (place + position_or_len is_line_feed (drop place source))
    else place)

-- whether an integer is within the limit
abbrev pub is_whole_within : ℤ → Bool
is_whole_within (pos n) = nat_lt n (2 ^ 63)
is_whole_within (negsuc n) = nat_lt n (2 ^ 63)

-- whether a token is within the limit
abbrev pub is_within : TokenValue → Bool
is_within (Word text) = true
is_within (Whole z) = is_whole_within z
is_within (FloatText text) = true
is_within (StringText text) = true
is_within (Marked m) = true

-- the token that is found at an offset, and then the tokens from its end on
abbrev pub tokens_at : (ℕ → List SpannedToken) → ℕ → FrontToken → List SpannedToken
tokens_at from start none = []
tokens_at from start (found t n) =
    if is_within t then (record { token = t; start = start; end = start + n }) ∷ from (start + n)
    else []

-- the tokens from an offset on, at most so many
unfoldable pub tokens_from : ℕ → List ℕ → ℕ → List SpannedToken
tokens_from zero source place = []
tokens_from (suc room) source place =
    tokens_at (λ end. tokens_from room source end) (gap_from (length source) source place)
    (front_of (drop (gap_from (length source) source place) source))

-- the tokens ahead of an offset: each has at least one byte, so the bound takes none away
abbrev pub tokens_ahead : List ℕ → ℕ → List SpannedToken
tokens_ahead source place = tokens_from (length source) source place

-- the offset where the tokens from an offset on end: the end of the source, or the first fault from
-- there on
abbrev pub stop_at : (ℕ → ℕ) → ℕ → FrontToken → ℕ
stop_at from start none = start
stop_at from start (found t n) = if is_within t then from (start + n) else start

unfoldable pub stop_from : ℕ → List ℕ → ℕ → ℕ
stop_from zero source place = place
stop_from (suc room) source place =
    stop_at (λ end. stop_from room source end) (gap_from (length source) source place)
    (front_of (drop (gap_from (length source) source place) source))

abbrev pub stop_ahead : List ℕ → ℕ → ℕ
stop_ahead source place = stop_from (length source) source place

-- a comma at an offset
abbrev pub comma_at : ℕ → SpannedToken
comma_at place = record { token = Marked Comma; start = place; end = place + 1 }
