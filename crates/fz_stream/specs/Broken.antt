-- When a stream is broken: as a whole, or already at some bytes, which no further bytes can mend
-- (this project's profile).
use Rattle.std.specs.Prelude.{◌≡◌, ◌≢◌, ℕ, ◌+◌, List, [], ◌∷◌, ◌++◌, length, map}
use Rattle.std.specs.List.{AllByRecursion}
use Rattle.fz_syntax.specs.Limits.{Limits}
use Rattle.fz_syntax.specs.Places.{standard_limits}
use Rattle.fz_syntax.specs.Tree.{Printed}
use Rattle.fz_stream.specs.declared.error.StreamError.{StreamError}
use Rattle.fz_stream.specs.declared.line.LineKind.{LineKind}
use Rattle.fz_stream.specs.declared.line.LineKind.TheVariants.{Marker, Claim}
use Rattle.fz_stream.specs.Parts.{Line, lines_of, joined, kind_of, StreamPart, Frame, frame_of, IsBlockText, HasItems, Covers}
use Rattle.fz_stream.specs.Splitting.{EndsWithFeed}
use Rattle.fz_stream.specs.Telling.{TellsOf, first_kind}

-- A line of this kind can't follow an open block of this text: a claim, or a marker where the text
-- isn't one of a block within the limits.
abbrev pub CannotFollow : Limits → List ℕ → LineKind → Type 0
CannotFollow limits text (Claim kind) = Unit {0}
CannotFollow limits text Marker = (items : List Printed) → IsBlockText limits text items → ⊥
CannotFollow limits text _ = ⊥

-- what comes after an open block of this text can't follow it, whatever more comes: a line that
-- ends with LF
abbrev pub CannotGoOn : Limits → List ℕ → List Line → Type 0
CannotGoOn limits text [] = ⊥
CannotGoOn limits text (line ∷ lines) =
    EndsWithFeed line × CannotFollow limits text (kind_of line)

-- what comes after an open block of this text at the end of the stream: nothing, or a last line
-- without LF that can't follow it
abbrev pub CannotEnd : Limits → List ℕ → List Line → Type 0
CannotEnd limits text [] = Unit {0}
CannotEnd limits text (line ∷ []) =
    (EndsWithFeed line → ⊥) × CannotFollow limits text (kind_of line)
CannotEnd limits text (line ∷ next ∷ lines) = ⊥

-- what comes after an open block of this text breaks it: nothing, as the stream ends there, or a
-- line that can't follow it
abbrev pub BreaksText : Limits → List ℕ → List Line → Type 0
BreaksText limits text [] = Unit {0}
BreaksText limits text (line ∷ lines) = CannotFollow limits text (kind_of line)

-- After the frames a block is open, and what comes after it breaks it: `Breaks` of the block's text
-- and the lines after it. The fault says what is wrong.
pub record BreaksAfter (limits : Limits) (Breaks : Limits → List ℕ → List Line → Type 0)
    (bytes : List ℕ) (frames : List Frame) (fault : StreamError) : Type 0 where
  pub lines : List Line
  pub gap : List Line
  pub body : List Line
  pub rest : List Line
  pub whole : lines_of bytes ≡ lines ++ rest
  pub covers : Covers lines frames gap body
  pub begun : body ≢ []
  pub breaks : Breaks limits (joined body) rest
  pub tells : TellsOf limits (length (joined covers.covered) + length (joined gap)) (joined body)
      (first_kind rest) fault

-- The bytes are broken after the parts: a block is open, and then comes a line, which ends with LF
-- and can't follow it.
abbrev pub IsBrokenAfter : Limits → List ℕ → List StreamPart → StreamError → Type 0
IsBrokenAfter limits bytes parts fault = AllByRecursion (HasItems limits) parts
    × BreaksAfter limits CannotGoOn bytes (map frame_of parts) fault

-- The bytes are broken at their end after the parts: a block is open, and the stream ends there or
-- with a line that can't follow it.
abbrev pub IsBrokenAtEndAfter : Limits → List ℕ → List StreamPart → StreamError → Type 0
IsBrokenAtEndAfter limits bytes parts fault = AllByRecursion (HasItems limits) parts
    × BreaksAfter limits CannotEnd bytes (map frame_of parts) fault

-- The whole stream stops after the parts, at the standard limits: a block is open, which is broken
-- by what comes after it.
abbrev pub StopsAfter : List ℕ → List StreamPart → StreamError → Type 0
StopsAfter bytes parts fault = AllByRecursion (HasItems standard_limits) parts
    × BreaksAfter standard_limits BreaksText bytes (map frame_of parts) fault
