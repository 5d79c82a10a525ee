-- Where a stream is cut that ends inside a block, and what is judged of it (this project's
-- profile).
use Rattle.std.specs.Prelude.{◌≡◌, ℕ, List, [], ◌∷◌, ◌++◌, ◌⊎◌}
use Rattle.fz_filling.specs.of_syntax.Span.{Span}
use Rattle.fz_filling.specs.of_syntax.Limits.{Limits}
use Rattle.fz_filling.specs.of_stream.declared.error.StreamError.TheVariants.{Unfinished}
use Rattle.fz_filling.specs.of_stream.Broken.{BreaksAfter, CannotEnd}
use Rattle.fz_filling.specs.of_stream.Parts.{Frame, joined, StreamPart, IsStreamTextWithin}
use Rattle.fz_search.specs.of_model.Meaning.{Model}
use Rattle.fz_check.specs.declared.options.Ending.{Ending}
use Rattle.fz_check.specs.declared.options.Ending.TheVariants.{Whole, Cut}
use Rattle.fz_check.specs.Report.{Event}
use Rattle.fz_check.specs.Report.Event.{CutOff}
use Rattle.fz_cutting.specs.Short.{IsShort}

-- The bytes are broken at their end, since a block with this byte range is unfinished. The front is
-- all that comes before the block, and the text is the rest: only its end is missing.
pub record IsCutOff (limits : Limits) (m : Model) (given front : List ℕ) (span : Span)
    (text : List ℕ) : Type 0 where
  pub frames : List Frame
  pub breaks : BreaksAfter limits CannotEnd given frames (Unfinished span)
  pub front_is : front ≡ joined (breaks.covers.covered ++ breaks.gap)
  pub given_is : given ≡ front ++ text
  pub short : IsShort limits m text

-- This holds of the bytes that are judged and of what is told of the others: of all bytes, with
-- nothing to tell, or, where cutting is on, of those before the text that is cut off.
abbrev pub HoldsOfJudged : Limits → Ending → Model → List ℕ → (List ℕ → List Event → Type 0)
    → Type 0
HoldsOfJudged limits Whole m given Holds = Holds given []
HoldsOfJudged limits Cut m given Holds = Holds given []
    ⊎ ((front : List ℕ) × (span : Span) × (text : List ℕ) × IsCutOff limits m given front span text
    × Holds front (CutOff span text ∷ []))

-- bytes that are cut are a text of no parts, whatever the limits of the text
abbrev pub IsCutOnlyWhereOpen : Type 0
IsCutOnlyWhereOpen =
    (limits others : Limits) (m : Model) (given front : List ℕ) (span : Span) (text : List ℕ)
    (parts : List StreamPart) → IsCutOff limits m given front span text
    → IsStreamTextWithin others given parts → ⊥
