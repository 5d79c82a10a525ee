-- What is known of a stream while a reader gives its bytes (this project's profile). What a reader
-- still has to give is known or not, as `Consumes` and `IsAtEnd` have it: of a reader of which
-- nothing is known, such as a file, they say nothing.
use Rattle.std.specs.Prelude.{◌≡◌, ℕ, Bool, true, cond, ◌+◌, ◌*◌, ◌≤◌, List, [], ◌∷◌, ◌++◌, length, map, Option, Some, ◌⊎◌}
use Rattle.std.specs.List.{AllByRecursion}
use Rattle.std.specs.Io.KnownBytes.{Consumes, IsAtEnd}
use Rattle.fz_filling.specs.of_syntax.Limits.{Limits}
use Rattle.fz_filling.specs.of_stream.declared.error.StreamError.{StreamError}
use Rattle.fz_filling.specs.of_stream.declared.error.StreamError.TheVariants.{TooLong, Unfinished}
use Rattle.fz_filling.specs.of_stream.declared.splitter.Stage.{Stage}
use Rattle.fz_filling.specs.of_stream.declared.splitter.Stage.TheVariants.{Running, Finished, Failed}
use Rattle.fz_filling.specs.of_stream.Broken.{IsBrokenAfter, IsBrokenAtEndAfter}
use Rattle.fz_filling.specs.of_stream.Parts.{StreamPart, Frame, frame_of, HasItems, IsStreamTextWithin}
use Rattle.fz_filling.specs.of_stream.Splitting.{SplitterState, Holds, Fits, EndsLast, PassesLimit, most_taken}
use Rattle.fz_search.specs.of_model.Meaning.{Model}
use Rattle.fz_check.specs.Cutting.{IsCutOff}
use Rattle.fz_check.specs.declared.options.Ending.{Ending}
use Rattle.fz_check.specs.declared.options.Ending.TheVariants.{Whole, Cut}

-- What was read and not taken yet, how many more reads may be made, and whether the last one found
-- the end of the stream.
pub record PiecesState : Type 0 where
  pub pending : List ℕ
  pub reads : ℕ
  pub at_end : Bool

-- Of a reader of parts: its splitter, and what was read.
pub record ReaderState : Type 0 where
  pub splitter : SplitterState
  pub pieces : PiecesState

-- These bytes were read, and in those of them that the splitter took, under these limits, these
-- parts have ended.
pub record HasRead (limits : Limits) (s : ReaderState) (given : List ℕ)
    (parts : List StreamPart) : Type 0 where
  pub under : s.splitter.limits ≡ limits
  pub taken : List ℕ
  pub whole : given ≡ taken ++ s.pieces.pending
  pub fits : Fits s.splitter taken (map frame_of parts)
  pub items : AllByRecursion (HasItems limits) parts
  pub short : length taken ≤ most_taken

-- The stream has ended: these are all of its bytes, and they are a text of these parts.
pub record HasEnded (limits : Limits) (s : ReaderState) (given : List ℕ)
    (parts : List StreamPart) : Type 0 where
  pub finished : s.splitter.stage ≡ Finished
  pub text : IsStreamTextWithin limits given parts

-- These bytes were read and these parts have ended in them, where the reader has these bytes left.
abbrev pub StandsAt : Limits → ReaderState → Option (List ℕ) → List ℕ → List StreamPart → Type 0
StandsAt limits s left given parts =
    (HasRead limits s given parts × (s.pieces.at_end ≡ true → IsAtEnd left))
    ⊎ (IsAtEnd left × HasEnded limits s given parts)

-- These bytes were read, and in those of them that the splitter took these parts have ended and one
-- more frame, which waits to be read.
pub record WaitsInside (s : ReaderState) (given : List ℕ) (parts : List StreamPart)
    (frame : Frame) : Type 0 where
  pub taken : List ℕ
  pub whole : given ≡ taken ++ s.pieces.pending
  pub fits : Fits s.splitter taken (map frame_of parts ++ frame ∷ [])
  pub short : length taken ≤ most_taken

-- Behind these parts, which were read, one more frame has ended and waits, where the reader has
-- these bytes left: inside the bytes, or at their end.
pub record HasNext (limits : Limits) (s : ReaderState) (left : Option (List ℕ)) (given : List ℕ)
    (parts : List StreamPart) (frame : Frame) : Type 0 where
  pub under : s.splitter.limits ≡ limits
  pub waits : s.splitter.waits ≡ Some frame
  pub items : AllByRecursion (HasItems limits) parts
  pub ends : (WaitsInside s given parts frame × (s.pieces.at_end ≡ true → IsAtEnd left))
      ⊎ (IsAtEnd left × (s.splitter.stage ≡ Finished) × EndsLast given (map frame_of parts) frame)

-- Of the bytes the parts have ended, and no others.
abbrev pub HasNoMore : Limits → List ℕ → List StreamPart → Type 0
HasNoMore limits given parts =
    AllByRecursion (HasItems limits) parts
    × ((held : List ℕ) × Holds given (map frame_of parts) held)

-- With some of the bytes, in which the parts have ended and no others, a splitter holds or has
-- taken as many as may be, and there is one more.
pub record PassesLimitIn (limits : Limits) (given : List ℕ)
    (parts : List StreamPart) : Type 0 where
  pub taken : List ℕ
  pub piece : List ℕ
  pub whole : given ≡ taken ++ piece
  pub items : AllByRecursion (HasItems limits) parts
  pub passes : PassesLimit limits.bytes taken piece (map frame_of parts)

-- Why a stream is refused while it goes on, of which these bytes were read and these parts have
-- ended: it is too long, or it is broken after the parts, whatever may follow.
abbrev pub IsRefusedInside : Limits → List ℕ → List StreamPart → StreamError → Type 0
IsRefusedInside limits given parts e =
    ((e ≡ TooLong) × PassesLimitIn limits given parts) ⊎ IsBrokenAfter limits given parts e

-- Or its bytes have ended, and are broken at their end.
abbrev pub IsRefusedAfter : Limits → Option (List ℕ) → List ℕ → List StreamPart → StreamError
    → Type 0
IsRefusedAfter limits left given parts e =
    IsRefusedInside limits given parts e ⊎ (IsAtEnd left × IsBrokenAtEndAfter limits given parts e)

-- Where cutting is on, a block that the end leaves open is a reason only where it can't be cut off.
abbrev pub IsRefusedBy : Limits → Ending → Model → Option (List ℕ) → List ℕ → List StreamPart
    → StreamError → Type 0
IsRefusedBy limits Whole m left given parts e = IsRefusedAfter limits left given parts e
IsRefusedBy limits Cut m left given parts (Unfinished span) =
    IsRefusedInside limits given parts (Unfinished span)
    ⊎ (IsAtEnd left × IsBrokenAtEndAfter limits given parts (Unfinished span)
    × ((front text : List ℕ) → IsCutOff limits m given front span text → ⊥))
IsRefusedBy limits Cut m left given parts e = IsRefusedAfter limits left given parts e

-- the most bytes of one read
abbrev pub piece_size : ℕ
piece_size = 4096

-- Of so many reads that may be made, these bring nothing or are not made at all: the reader gives
-- no more bytes than the others can bring.
pub record SpendsReads (reads without : ℕ) (left left' : Option (List ℕ)) : Type 0 where
  pub given : List ℕ
  pub consumes : Consumes left left' given
  pub few : length given + without * piece_size ≤ reads * piece_size

-- the reads that bring nothing: those that may still be made, and the one that found the end
abbrev pub reads_without : PiecesState → ℕ
reads_without p = p.reads + cond p.at_end 1 0

-- a number that falls with each part and with each read
abbrev pub is_going : Stage → ℕ
is_going Running = 1
is_going Finished = 0
is_going Failed = 0

abbrev pub steps_left : ReaderState → ℕ
steps_left s = s.pieces.reads * 4098 + length s.pieces.pending + is_going s.splitter.stage
