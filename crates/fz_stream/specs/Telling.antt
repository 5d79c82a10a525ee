-- What a refusal says about the open block at which a stream stops (this project's profile).
use Rattle.std.specs.Prelude.{◌≡◌, ℕ, ◌+◌, List, [], ◌∷◌, ◌++◌, length, Any, Option, Some, None}
use Rattle.fz_syntax.specs.declared.Printed.{Printed}
use Rattle.fz_syntax.specs.Limits.{Limits}
use Rattle.fz_syntax.specs.Placed.{ArePlacedIn, placed_items}
use Rattle.fz_syntax.specs.Places.{IsPlacedWithin}
use Rattle.fz_syntax.specs.Span.{Span}
use Rattle.fz_syntax.specs.SyntaxError.{SyntaxError}
use Rattle.fz_syntax.specs.Text.{IsTextOfItemsWithin}
use Rattle.fz_syntax.specs.Refusals.{IsRefusalWithin}
use Rattle.fz_syntax.specs.Tree.{Printed as PlainPrinted}
use Rattle.fz_syntax.specs.View.{bare_items}
use Rattle.fz_stream.specs.declared.error.StreamError.{StreamError}
use Rattle.fz_stream.specs.declared.error.StreamError.TheVariants.{Item, DuplicateName, Unfinished, Memory}
use Rattle.fz_stream.specs.declared.line.ClaimKind.{ClaimKind}
use Rattle.fz_stream.specs.declared.line.LineKind.{LineKind}
use Rattle.fz_stream.specs.declared.line.LineKind.TheVariants.{Marker, Claim}
use Rattle.fz_stream.specs.Faults.{IsItemFault}
use Rattle.fz_stream.specs.Parts.{Line, kind_of, HasDistinctNames}
use Rattle.fz_stream.specs.Moving.{moved_span, item_fault}

-- The item is the first that prints a name again: the names of the items before it are distinct,
-- and its own is one of them.
pub record PrintsAgain (items : List Printed) (again : Printed) : Type 0 where
  pub front : List Printed
  pub rest : List Printed
  pub items_are : items ≡ front ++ again ∷ rest
  pub distinct : HasDistinctNames (bare_items front)
  pub its_own : Any (λ p. p.name.text.now ≡ again.name.text.now) front

-- The span is the byte range in the stream where the text, which begins at the offset, prints a
-- name for the second time.
pub record IsSecondPrinting (limits : Limits) (offset : ℕ) (text : List ℕ)
    (span : Span) : Type 0 where
  pub items : List Printed
  pub again : Printed
  pub text_of : IsTextOfItemsWithin limits text (bare_items items)
  pub placed : ArePlacedIn text (placed_items items)
  pub prints : PrintsAgain items again
  pub span_is : span ≡ moved_span offset again.name.span

-- No items have this text within the limits, and the fault is one of the text: it is the first in
-- the order of faults, it is neither out of memory nor too many bytes, and its byte range is in the
-- text.
pub record IsFaultOfText (limits : Limits) (text : List ℕ) (fault : SyntaxError) : Type 0 where
  pub no_items : (items : List PlainPrinted) → IsTextOfItemsWithin limits text items → ⊥
  pub order : IsRefusalWithin limits text fault
  pub kind : IsItemFault fault
  pub place : IsPlacedWithin (length text) fault

-- what a fault says about a block's text, which begins at the offset
abbrev pub TellsOfText : Limits → ℕ → List ℕ → StreamError → Type 0
TellsOfText limits offset text (Item fault) =
    (own : SyntaxError) × IsFaultOfText limits text own × (Item fault ≡ item_fault offset own)
TellsOfText limits offset text (DuplicateName span) = IsSecondPrinting limits offset text span
TellsOfText limits offset text Memory = Unit {0}
TellsOfText limits offset text _ = ⊥

-- the kind of the first line, where there is one
abbrev pub first_kind : List Line → Option LineKind
first_kind [] = None
first_kind (line ∷ lines) = Some (kind_of line)

-- there is no line, or it is a claim
abbrev pub IsNoneOrClaim : Option LineKind → Type 0
IsNoneOrClaim None = Unit {0}
IsNoneOrClaim (Some kind) = (claim : ClaimKind) × (kind ≡ Claim claim)

-- What a fault says about an open block's text, which begins at the offset, and about the line
-- after it: an unfinished block ends at a claim or the end of the stream, and other faults are
-- those of a text that a marker closes.
abbrev pub TellsOf : Limits → ℕ → List ℕ → Option LineKind → StreamError → Type 0
TellsOf limits offset text behind (Unfinished span) =
    IsNoneOrClaim behind × (span.start ≡ offset) × (span.end ≡ offset + length text)
TellsOf limits offset text behind (Item fault) =
    (behind ≡ Some Marker) × TellsOfText limits offset text (Item fault)
TellsOf limits offset text behind (DuplicateName span) =
    (behind ≡ Some Marker) × TellsOfText limits offset text (DuplicateName span)
TellsOf limits offset text behind Memory = Unit {0}
TellsOf limits offset text behind _ = ⊥
