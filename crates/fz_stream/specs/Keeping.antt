-- The text of an open block and the current line, as a splitter holds them. Only private functions
-- use this file: a reader of the public contracts need not believe it.
use Rattle.std.specs.Prelude.{◌≡◌, ◌≢◌, ℕ, ◌+◌, List, [], ◌∷◌, ◌++◌, length, take, Option, Some, None}
use Rattle.std.specs.List.{AllByRecursion}
use Rattle.fz_syntax.specs.Limits.{Limits}
use Rattle.fz_stream.specs.declared.error.StreamError.{StreamError}
use Rattle.fz_stream.specs.declared.held.Ended.{Ended}
use Rattle.fz_stream.specs.declared.held.Ended.TheVariants.{BlockEnded, ClaimEnded}
use Rattle.fz_stream.specs.declared.held.Held.{Held}
use Rattle.fz_stream.specs.Parts.{Line, lines_of, joined, kind_of, Frame, BlockFrame, ClaimFrame, Covers, Closes}
use Rattle.fz_stream.specs.Splitting.{HasNoFeed, EndsWithFeed}
use Rattle.fz_stream.specs.Broken.{CannotFollow}
use Rattle.fz_stream.specs.Telling.{TellsOf}

-- the frame that ended; of a block, with this offset and text
abbrev pub frame_at : Ended → ℕ → List ℕ → Frame
frame_at BlockEnded offset text = BlockFrame offset text
frame_at (ClaimEnded kind) offset text = ClaimFrame kind

-- After these lines, in which these frames ended, the buffer is the whole lines of the open block,
-- and one more line.
pub record HasLine (h : Held) (lines : List Line) (frames : List Frame)
    (line : Line) : Type 0 where
  pub gap : List Line
  pub body : List Line
  pub covers : Covers lines frames gap body
  pub bytes : h.buffer.items ≡ joined body ++ line
  pub place : h.line ≡ length (joined body)
  pub before : h.before ≡ length (joined covers.covered) + length (joined gap)

-- In the bytes these frames have ended, and the buffer has what follows them. Its last line has no
-- LF yet.
pub record Stands (h : Held) (bytes : List ℕ) (frames : List Frame) : Type 0 where
  pub lines : List Line
  pub current : Line
  pub has_line : HasLine h lines frames current
  pub whole : bytes ≡ joined lines ++ current
  pub ended : AllByRecursion EndsWithFeed lines
  pub goes_on : HasNoFeed current

-- the line was dropped, or joined the open block, and no frame has ended; or it ends the frame
abbrev pub EndsLine : Option Ended → Held → Held → Type 0
EndsLine None new old =
    (lines : List Line) (frames : List Frame) (line : Line) → HasLine old lines frames line
    → HasLine new (lines ++ line ∷ []) frames []
EndsLine (Some ended) new old =
    (lines : List Line) (frames : List Frame) (line : Line) (l : HasLine old lines frames line)
    → Closes (length (joined l.covers.covered) + length (joined l.gap)) l.body line
    (frame_at ended new.before (take new.line new.buffer.items))

-- the bytes end in no frame, or are the lines of the frames and of one more, which all end with LF
abbrev pub AfterBytes : Option Ended → Held → List ℕ → List Frame → Type 0
AfterBytes None h bytes frames = Stands h bytes frames
AfterBytes (Some ended) h bytes frames =
    Covers (lines_of bytes)
    (frames ++ frame_at ended h.before (take h.line h.buffer.items) ∷ []) [] []
    × AllByRecursion EndsWithFeed (lines_of bytes)

-- The line can't follow the open block, and the fault says what is wrong.
pub record BreaksBlock (limits : Limits) (lines : List Line) (frames : List Frame) (line : Line)
    (fault : StreamError) : Type 0 where
  pub gap : List Line
  pub body : List Line
  pub covers : Covers lines frames gap body
  pub begun : body ≢ []
  pub cannot : CannotFollow limits (joined body) (kind_of line)
  pub tells : TellsOf limits (length (joined covers.covered) + length (joined gap)) (joined body)
      (Some (kind_of line)) fault

-- the bytes that are held when the next bytes are taken: none where a frame waited
abbrev pub held_while : Option Ended → List ℕ → List ℕ
held_while None bytes = bytes
held_while (Some ended) bytes = []

-- and where their last line begins
abbrev pub line_while : Option Ended → ℕ → ℕ
line_while None line = line
line_while (Some ended) line = 0
