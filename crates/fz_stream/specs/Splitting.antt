-- The state of a splitter that is fed a stream in pieces, and what its calls do to it (this
-- project's profile).
use Rattle.std.specs.Prelude.{◌≡◌, ◌≢◌, ◌<◌, ℕ, ◌+◌, ◌^◌, List, [], ◌∷◌, ◌++◌, length, Option, Some, None, ◌⊎◌, take}
use Rattle.std.specs.List.{AllByRecursion}
use Rattle.fz_syntax.specs.Limits.{Limits}
use Rattle.fz_syntax.specs.Tree.{Printed}
use Rattle.fz_stream.specs.declared.error.StreamError.{StreamError}
use Rattle.fz_stream.specs.declared.error.StreamError.TheVariants.{Unfinished}
use Rattle.fz_stream.specs.declared.splitter.Stage.{Stage}
use Rattle.fz_stream.specs.declared.splitter.Stage.TheVariants.{Running}
use Rattle.fz_stream.specs.Parts.{Line, lines_of, joined, StreamPart, BlockPart, ClaimPart, Frame, IsBlockText, Closes, Covers, IsFramed}

-- no byte is LF
abbrev pub HasNoFeed : List ℕ → Type 0
HasNoFeed bytes = AllByRecursion (λ b. b ≢ 10) bytes

-- the line ends with LF, which is nowhere else in it
abbrev pub EndsWithFeed : Line → Type 0
EndsWithFeed line = (front : List ℕ) × HasNoFeed front × (line ≡ front ++ 10 ∷ [])

-- the most bytes that a splitter takes in all; it holds as many as its limits allow for a text
abbrev pub most_taken : ℕ
most_taken = 2 ^ 40

-- The bytes held (the text of the open block and the current line), where the current line begins
-- in them, the number of bytes taken, the frame that waits, whether it finished or failed, and its
-- limits.
pub record SplitterState : Type 0 where
  pub held : List ℕ
  pub line : ℕ
  pub taken : ℕ
  pub waits : Option Frame
  pub stage : Stage
  pub limits : Limits

-- the frame that waits, or none
abbrev pub frames_in : Option Frame → List Frame
frames_in None = []
frames_in (Some frame) = frame ∷ []

-- the frame that waits, if one does, is the last of the frames
abbrev pub WaitsForLast : Option Frame → List Frame → Type 0
WaitsForLast None frames = Unit {0}
WaitsForLast (Some frame) frames = (front : List Frame) × (frames ≡ front ++ frame ∷ [])

-- In the bytes these frames have ended. After their lines come blank lines and comments, then the
-- whole lines of an open block, if one is open, then the current line, which has no LF yet. The
-- bytes held are the last two.
pub record Holds (bytes : List ℕ) (frames : List Frame) (held : List ℕ) : Type 0 where
  pub lines : List Line
  pub gap : List Line
  pub body : List Line
  pub current : Line
  pub covers : Covers lines frames gap body
  pub whole : bytes ≡ joined lines ++ current
  pub ended : AllByRecursion EndsWithFeed lines
  pub goes_on : HasNoFeed current
  pub held_are : held ≡ joined body ++ current

-- The state is one of a splitter that took these bytes, in which these frames ended.
pub record Fits (s : SplitterState) (bytes : List ℕ) (frames : List Frame) : Type 0 where
  pub running : s.stage ≡ Running
  pub taken : s.taken ≡ length bytes
  pub holds : Holds bytes frames s.held
  pub line : s.line ≡ length (joined holds.body)
  pub waits : WaitsForLast s.waits frames

-- After the bytes, in which these frames ended, the piece has a byte that a splitter doesn't take:
-- none of the bytes of the piece before it ends a frame, and with them as many bytes are held, or
-- were taken in all, as may be.
pub record PassesLimit (most_held : ℕ) (bytes piece : List ℕ)
    (frames : List Frame) : Type 0 where
  pub n : ℕ
  pub within : n < length piece
  pub held : List ℕ
  pub holds : Holds (bytes ++ take n piece) frames held
  pub full : (length held ≡ most_held) ⊎ (length (bytes ++ take n piece) ≡ most_taken)

-- After the bytes and the first k of the piece no frame has ended but these, and there is room for
-- one more byte: fewer are held, and fewer were taken in all, than may be.
abbrev pub HasRoomAt : ℕ → List ℕ → List ℕ → List Frame → ℕ → Type 0
HasRoomAt most_held bytes piece frames k =
    (held : List ℕ) × Holds (bytes ++ take k piece) frames held
    × (length held < most_held) × (length (bytes ++ take k piece) < most_taken)

-- there is room for each of the first n bytes of the piece
abbrev pub HasRoomFor : ℕ → List ℕ → List ℕ → List Frame → ℕ → Type 0
HasRoomFor most_held bytes piece frames n =
    (k : ℕ) → k < n → HasRoomAt most_held bytes piece frames k

-- After the frames the last line of the bytes, which has no LF, ends one more.
pub record EndsLast (bytes : List ℕ) (frames : List Frame) (frame : Frame) : Type 0 where
  pub lines : List Line
  pub gap : List Line
  pub body : List Line
  pub line : Line
  pub whole : lines_of bytes ≡ lines ++ line ∷ []
  pub covers : Covers lines frames gap body
  pub unended : EndsWithFeed line → ⊥
  pub closes : Closes (length (joined covers.covered) + length (joined gap)) body line frame

-- The stream has ended: the bytes are cut into the frames and none waits, or into the frames and
-- one more, which waits.
abbrev pub EndsWith : Option Frame → List ℕ → List Frame → Type 0
EndsWith None bytes frames = IsFramed bytes frames
EndsWith (Some frame) bytes frames = EndsLast bytes frames frame

-- a block that is left unfinished begins with the bytes held
abbrev pub BeginsWithHeld : SplitterState → StreamError → Type 0
BeginsWithHeld s (Unfinished span) = span.start + length s.held ≡ s.taken
BeginsWithHeld s _ = Unit {0}

-- a block's text is one of its items, and of no others
abbrev pub IsPartOfItems : Limits → StreamPart → Type 0
IsPartOfItems limits (BlockPart block) =
    IsBlockText limits block.text block.items
    × ((others : List Printed) → IsBlockText limits block.text others → others ≡ block.items)
IsPartOfItems limits (ClaimPart kind) = Unit {0}
