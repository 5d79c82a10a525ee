-- How a byte range in a block's text, or a fault of it, becomes one of the stream (this project's
-- profile).
use Rattle.std.specs.Prelude.{ℕ, ◌+◌}
use Rattle.fz_syntax.specs.Span.{Span}
use Rattle.fz_syntax.specs.SyntaxError.{SyntaxError}
use Rattle.fz_syntax.specs.SyntaxError.TheVariants.{TooLong as TextTooLong, BadByte, TooLarge, Float, Syntax, TooDeep, TooMany, Memory as TextMemory}
use Rattle.fz_stream.specs.declared.error.StreamError.{StreamError}
use Rattle.fz_stream.specs.declared.error.StreamError.TheVariants.{Item as OfItem, Memory}

-- a byte range in a text that begins at the offset, as one of the stream
abbrev pub moved_span : ℕ → Span → Span
moved_span offset span = record { start = offset + span.start; end = offset + span.end }

-- the fault of a text that begins at the offset, as one of the stream
abbrev pub item_fault : ℕ → SyntaxError → StreamError
item_fault offset TextTooLong = OfItem TextTooLong
item_fault offset (BadByte span) = OfItem (BadByte (moved_span offset span))
item_fault offset (TooLarge span) = OfItem (TooLarge (moved_span offset span))
item_fault offset (Float span) = OfItem (Float (moved_span offset span))
item_fault offset (Syntax span) = OfItem (Syntax (moved_span offset span))
item_fault offset (TooDeep span) = OfItem (TooDeep (moved_span offset span))
item_fault offset (TooMany span) = OfItem (TooMany (moved_span offset span))
item_fault offset TextMemory = Memory
