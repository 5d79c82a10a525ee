-- What a refusal may be, and the byte ranges of the names of printed items.
use Rattle.std.proofs.Common.{◌≡◌, ◌≢◌, ℕ, ◌+◌, ◌≤◌, List, length, Option, Some, Err, Vec, Global, refl, arith, ◌∷◌, ◌++◌, IfSome, sym, ap, ◌∙◌, subst}
use Rattle.fz_syntax.specs.declared.Printed.{Printed}
use Rattle.fz_syntax.specs.Places.{IsPlacedWithin, IsSpanWithin}
use Rattle.fz_syntax.specs.SyntaxError.{SyntaxError}
use Rattle.fz_syntax.specs.SyntaxError.TheVariants.{TooLong as TextTooLong, Memory as TextMemory}
use Rattle.fz_syntax.specs.Limits.{Limits}
use Rattle.fz_syntax.specs.Refusals.{IsValue, IsRefusalWithin}
use Rattle.fz_syntax.specs.Text.{IsTextOfItemsWithin}
use Rattle.fz_syntax.specs.Tree.{Printed as Plain}
use Rattle.fz_syntax.specs.View.{bare_items}
use Rattle.fz_stream.specs.declared.error.StreamError.{StreamError}
use Rattle.fz_stream.specs.declared.error.StreamError.TheVariants.{TooLong, Item, DuplicateName, Unfinished, Memory}
use Rattle.fz_stream.specs.Faults.{IsStreamFault, IsFaultWithin}
use Rattle.fz_stream.specs.Moving.{item_fault, moved_span}
use Rattle.fz_stream.specs.Telling.{TellsOfText, TellsOf, PrintsAgain, IsSecondPrinting}
use Rattle.fz_stream.specs.declared.line.LineKind.{LineKind}
use Rattle.fz_stream.specs.declared.line.LineKind.TheVariants.{Marker}
use Rattle.fz_stream.specs.Step.{IsLineFault}
use Rattle.std.proofs.lemmas.Grind.{flat_map-append}
use Rattle.fz_syntax.specs.Placed.{ArePlacedIn, placed_items, placed_printed}
use Rattle.fz_syntax.specs.Span.{Span}
use Rattle.fz_syntax.proofs.Standing.{LieBetween, lie_apart, lie_in, printed_lies}

-- a fault of a line is one of a stream
pub line_fault : (e : StreamError) → IsLineFault e → IsStreamFault e
line_fault TooLong h = tt
line_fault _ h = h

-- a byte range in some bytes is one in more
pub placed_more : (n m : ℕ) (e : SyntaxError) → n ≤ m → IsPlacedWithin n e → IsPlacedWithin m e
placed_more n m TextTooLong l h = tt
placed_more n m TextMemory l h = tt
placed_more n m _ l h = (h.0, omega (arith, h.1, l))

pub fault_more : (n m : ℕ) (e : StreamError) → n ≤ m → IsFaultWithin n e → IsFaultWithin m e
fault_more n m (Item e) l h = placed_more n m e l h
fault_more n m (DuplicateName span) l h = (h.0, omega (arith, h.1, l))
fault_more n m (Unfinished span) l h = (h.0, omega (arith, h.1, l))
fault_more n m _ l h = tt

-- a byte range in a text is one in the stream
pub placed_fault : (offset n : ℕ) (e : SyntaxError) → IsPlacedWithin n e
    → IsFaultWithin (offset + n) (item_fault offset e)
placed_fault offset n TextTooLong h = tt
placed_fault offset n TextMemory h = tt
placed_fault offset n _ h = (omega (arith, h.0), omega (arith, h.1))

-- what a refusal of a text tells of it
pub tells_text : (limits : Limits) (offset : ℕ) (text : List ℕ) (e : SyntaxError) → e ≢ TextTooLong
    → ((items : List Plain) → IsTextOfItemsWithin limits text items → IsValue {X = Vec Printed Global} (λ given. bare_items given.items) (Err e) items)
    → IsRefusalWithin limits text e → IsPlacedWithin (length text) e → TellsOfText limits offset text (item_fault offset e)
tells_text limits offset text TextTooLong short only order h = absurd (short refl)
tells_text limits offset text TextMemory short only order h = tt
tells_text limits offset text e short only order h = (e, record { no_items = only; order = order; kind = ((λ q. cc), short); place = h }, refl)

-- what it says where a marker comes after the text
pub tells_before_marker : (limits : Limits) (offset : ℕ) (text : List ℕ) (behind : Option LineKind) (e : StreamError)
    → behind ≡ Some Marker → TellsOfText limits offset text e → TellsOf limits offset text behind e
tells_before_marker limits offset text behind (Item f) marker h = (marker, h)
tells_before_marker limits offset text behind (DuplicateName span) marker h = (marker, h)
tells_before_marker limits offset text behind Memory marker h = tt
tells_before_marker limits offset text behind _ marker h = absurd h

-- what a text is refused as is a fault of a line, where the text isn't too long
pub block_fault : (offset : ℕ) (e : SyntaxError) → e ≢ TextTooLong
    → IsLineFault (item_fault offset e)
block_fault offset TextTooLong short = absurd (short refl)
block_fault offset TextMemory short = tt
block_fault offset _ short = ((λ q. cc), (λ q. cc))

-- what is refused while memory is left, is refused only where there is no value
pub no_value : (offset : ℕ) (e : SyntaxError) (value : List Plain) → item_fault offset e ≢ Memory → IsValue {X = Vec Printed Global} (λ given. bare_items given.items) (Err e) value → ⊥
no_value offset TextMemory value known h = known refl
no_value offset _ value known h = h

-- the byte range of the item after the front
placed_again : (upto : ℕ) (items : List Printed) (again : Printed) → PrintsAgain items again
    → LieBetween 0 upto (placed_items items) → IsSpanWithin upto again.name.span
placed_again upto items again p h =
    let split : placed_items items ≡ placed_items p.front ++ placed_items (again ∷ p.rest) =
    ap placed_items p.items_are ∙ flat_map-append placed_printed p.front (again ∷ p.rest) in
    let behind = (lie_apart 0 upto (placed_items p.front) (placed_items (again ∷ p.rest))
    (subst (LieBetween 0 upto) split h)).1 in
    (printed_lies again 0 upto
    (lie_apart 0 upto (placed_printed again) (placed_items p.rest) behind).0).0

abbrev AgainAt : List Printed → Span → Type 0
AgainAt items span = (again : Printed) × PrintsAgain items again × (span ≡ again.name.span)

-- what was found among equal items
pub again_in : (items others : List Printed) (found : Option Span) (span : Span) → found ≡ Some span
    → others ≡ items → IfSome found (λ span. (again : Printed) × PrintsAgain others again
    × (span ≡ again.name.span)) → AgainAt items span
again_in items others found span is same h = subst (λ (xs : List Printed). AgainAt xs span) same (subst (λ (o : Option Span). IfSome o (λ span. AgainAt others span)) is h)

-- its byte range is in the text
pub again_within : (text : List ℕ) (items : List Printed) (span : Span) → AgainAt items span
    → ArePlacedIn text (placed_items items) → IsSpanWithin (length text) span
again_within text items span w h = subst (IsSpanWithin (length text)) (sym w.2)
    (placed_again (length text) items w.0 w.1 (lie_in text (placed_items items) h))

-- and it is the second printing
pub second_printing : (limits : Limits) (offset : ℕ) (text : List ℕ) (items : List Printed) (span moved : Span)
    → AgainAt items span → IsTextOfItemsWithin limits text (bare_items items)
    → ArePlacedIn text (placed_items items)
    → moved ≡ moved_span offset span → IsSecondPrinting limits offset text moved
second_printing limits offset text items span moved w t h e = record {
  items = items;
  again = w.0;
  text_of = t;
  placed = h;
  prints = w.1;
  span_is = e ∙ ap (moved_span offset) w.2;
}
