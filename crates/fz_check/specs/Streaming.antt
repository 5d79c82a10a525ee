-- What a check over a reader and a writer answers, and what it writes (this project's profile). The
-- bytes that a reader still has and those that a writer got are options: where there is None, as
-- for a file, nothing is said of them. `o` are the options of the check, and `text` says which
-- bytes may be written of an event.
use Rattle.std.specs.Prelude.{◌≡◌, ◌≢◌, ℕ, suc, List, [], ◌∷◌, ◌++◌, ◌⊎◌, ⊤, length, Option}
use Rattle.std.specs.Io.KnownBytes.{Appends, Consumes, IsAtEnd}
use Rattle.fz_filling.specs.of_syntax.Limits.{Limits}
use Rattle.fz_search.specs.of_model.Meaning.{Model}
use Rattle.fz_filling.specs.of_stream.declared.block.Block as the_block
use Rattle.fz_filling.specs.of_stream.declared.error.StreamError.TheVariants.{Memory as StreamMemory}
use Rattle.fz_filling.specs.of_stream.Faults.{IsStreamFault}
use Rattle.fz_filling.specs.of_stream.Found.{HasPlaces, block_of}
use Rattle.fz_filling.specs.of_stream.Parts.{blocks_in, StreamPart, BlockPart, IsStreamTextWithin}
use Rattle.fz_filling.specs.Verdict.{Answer}
use Rattle.fz_filling.specs.declared.error.BlockError.{BlockError}
use Rattle.fz_filling.specs.declared.error.BlockError.TheVariants.{Memory}
use Rattle.fz_filling.specs.Judged.{IsBlockRefusal}
use Rattle.fz_check.specs.declared.options.Options.{Options}
use Rattle.fz_check.specs.declared.error.CheckError.{CheckError}
use Rattle.fz_check.specs.declared.error.CheckError.TheVariants as errors
use Rattle.fz_check.specs.Cutting.{HoldsOfJudged}
use Rattle.fz_check.specs.Reading.{HasNoMore, IsRefusedBy}
use Rattle.fz_check.specs.Refused.{IsModelRefusal}
use Rattle.fz_check.specs.Claims.{HasReportWith, HaveOutcomes, Outcome, answer_told, standard_options, told_of}
use Rattle.fz_check.specs.Report.{AreOf, Event, by, event_line}
use Rattle.fz_check.specs.Report.Event.{Answered}
use Rattle.fz_check.specs.Reported.{HoldsOfModelWithin}

-- the most reads of a stream
abbrev pub most_reads : ℕ
most_reads = 4294967296

-- the writer got bytes of these events, and nothing else
abbrev pub Writes : (Event → List ℕ → Type 0) → List Event → Option (List ℕ) → Option (List ℕ)
    → Type 0
Writes text events written written' =
    (bytes : List ℕ) × AreOf text events bytes × Appends written written' bytes

-- it got a front of such bytes, and nothing else
abbrev pub WritesFrontOf : (Event → List ℕ → Type 0) → List Event → Option (List ℕ)
    → Option (List ℕ) → Type 0
WritesFrontOf text events written written' = (front : List ℕ) × (rest : List ℕ)
    × AreOf text events (front ++ rest) × Appends written written' front

-- The writer got the report on these bytes, with this told before the answer, and nothing else, and
-- this is its answer.
pub record IsReportedWith (o : Options) (cut : List Event) (text : Event → List ℕ → Type 0)
    (model given : List ℕ) (written written' : Option (List ℕ)) (answer : Answer) : Type 0 where
  pub events : List Event
  pub has_report : HasReportWith o model given events answer
  pub writes : Writes text (events ++ (cut ++ Answered answer ∷ [])) written written'

-- at the standard options, as text, with nothing told but the report
abbrev pub IsReported : List ℕ → List ℕ → Option (List ℕ) → Option (List ℕ) → Answer → Type 0
IsReported = IsReportedWith standard_options [] (by event_line)

-- In the bytes, of which the reader gave the last where it is at its end, these parts end: they
-- have ended in a front of the bytes, and no others, or all of the bytes are a text of them.
abbrev pub EndInside : Limits → Option (List ℕ) → List ℕ → List StreamPart → Type 0
EndInside limits left given parts = ((front : List ℕ) × (rest : List ℕ) × (given ≡ front ++ rest)
    × HasNoMore limits front parts) ⊎ (IsAtEnd left × IsStreamTextWithin limits given parts)

-- The part that comes next after these is a block, which has the number, and this is its fault,
-- with its byte range in the stream.
pub record PartIsRefused (m : Model) (parts : List StreamPart) (part : StreamPart) (number : ℕ)
    (e : BlockError) : Type 0 where
  pub block : the_block.Block
  pub places : HasPlaces block
  pub part_is : part ≡ BlockPart (block_of block)
  pub number_is : number ≡ suc (length (blocks_in parts))
  pub not_memory : e ≢ Memory
  pub refused : IsBlockRefusal m block e

-- Why a check ends after these parts of the bytes that were given: the stream is refused behind
-- them, or the next block is, or a read failed and no further part has ended.
abbrev pub EndsFor : Options → Model → Option (List ℕ) → List ℕ → List StreamPart → CheckError
    → Type 0
EndsFor o m left given parts (errors.Stream e) =
    IsStreamFault e × (e ≢ StreamMemory) × IsRefusedBy o.limits o.ending m left given parts e
EndsFor o m left given parts (errors.Block n e) = (part : StreamPart)
    × EndInside o.limits left given (parts ++ part ∷ []) × PartIsRefused m parts part n e
EndsFor o m left given parts errors.Read = HasNoMore o.limits given parts
EndsFor o m left given parts _ = ⊥

-- The reader gave these bytes, and the writer got the events of all parts before the error, and
-- nothing else.
pub record StopsAfterEvents (o : Options) (text : Event → List ℕ → Type 0) (m : Model)
    (left left' written written' : Option (List ℕ)) (e : CheckError) : Type 0 where
  pub given : List ℕ
  pub reads : Consumes left left' given
  pub parts : List StreamPart
  pub outcomes : List Outcome
  pub have_outcomes : HaveOutcomes o m parts outcomes
  pub writes : Writes text (told_of m o.claims outcomes) written written'
  pub why : EndsFor o m left' given parts e

-- no event, or that of the answer where the bytes have ended, behind what was cut off
abbrev pub AreLast : Options → Model → Option (List ℕ) → List ℕ → List StreamPart → Answer
    → List Event → Type 0
AreLast o m left given parts answer events =
    (events ≡ []) ⊎ (IsAtEnd left × HoldsOfJudged o.limits o.ending m given (λ front cut.
    IsStreamTextWithin o.limits front parts × (events ≡ cut ++ Answered answer ∷ [])))

-- The reader gave these bytes, and the writer got a front of bytes of their events, and nothing
-- else.
pub record WritesFrontOfEvents (o : Options) (text : Event → List ℕ → Type 0) (m : Model)
    (left left' written written' : Option (List ℕ)) : Type 0 where
  pub given : List ℕ
  pub reads : Consumes left left' given
  pub parts : List StreamPart
  pub end_inside : EndInside o.limits left' given parts
  pub outcomes : List Outcome
  pub have_outcomes : HaveOutcomes o m parts outcomes
  pub last : List Event
  pub are_last : AreLast o m left' given parts (answer_told m o.claims outcomes) last
  pub writes : WritesFrontOf text (told_of m o.claims outcomes ++ last) written written'

-- a failed write, or out of memory
abbrev pub IsUnwritten : CheckError → Type 0
IsUnwritten errors.Write = ⊤
IsUnwritten errors.Memory = ⊤
IsUnwritten _ = ⊥

-- the check of a loaded model ends with this error
abbrev pub IsStopped : Options → (Event → List ℕ → Type 0) → Model → Option (List ℕ)
    → Option (List ℕ) → Option (List ℕ) → Option (List ℕ) → CheckError → Type 0
IsStopped o text m left left' written written' e =
    (IsUnwritten e × WritesFrontOfEvents o text m left left' written written')
    ⊎ StopsAfterEvents o text m left left' written written' e

-- nothing was read, and nothing was written
abbrev pub IsUntouched : Option (List ℕ) → Option (List ℕ) → Option (List ℕ) → Option (List ℕ)
    → Type 0
IsUntouched left left' written written' = (left' ≡ left) × (written' ≡ written)

-- The check of a model's text ends with this error: of the model, which is refused only where its
-- bytes are not a text of any tree, or with the first fault of its names, before anything is read
-- or written; or else behind it.
abbrev pub IsEndedWith : Options → (Event → List ℕ → Type 0) → List ℕ → Option (List ℕ)
    → Option (List ℕ) → Option (List ℕ) → Option (List ℕ) → CheckError → Type 0
IsEndedWith o text model left left' written written' e =
    (IsModelRefusal o.limits model e × IsUntouched left left' written written')
    ⊎ HoldsOfModelWithin o.limits model
    (λ m. IsStopped o text m left left' written written' e)

-- at the standard options, as text
abbrev pub IsEnded : List ℕ → Option (List ℕ) → Option (List ℕ) → Option (List ℕ)
    → Option (List ℕ) → CheckError → Type 0
IsEnded = IsEndedWith standard_options (by event_line)
