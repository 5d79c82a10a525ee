-- What a refusal of a stream may be, and where its byte range is (this project's profile).
use Rattle.std.specs.Prelude.{◌≢◌, ℕ}
use Rattle.fz_syntax.specs.Places.{IsSpanWithin, IsPlacedWithin}
use Rattle.fz_syntax.specs.SyntaxError.{SyntaxError}
use Rattle.fz_syntax.specs.SyntaxError.TheVariants.{TooLong as TextTooLong, Memory as TextMemory}
use Rattle.fz_stream.specs.declared.error.StreamError.{StreamError}
use Rattle.fz_stream.specs.declared.error.StreamError.TheVariants.{TooLong, Item, DuplicateName, Unfinished, Memory, Failed}

-- a fault of a block's text: neither out of memory, nor too many bytes, which no block has
abbrev pub IsItemFault : SyntaxError → Type 0
IsItemFault e = (e ≢ TextMemory) × (e ≢ TextTooLong)

-- the errors by which a stream may be refused, where no call has failed before
abbrev pub IsStreamFault : StreamError → Type 0
IsStreamFault (Item e) = IsItemFault e
IsStreamFault Failed = ⊥
IsStreamFault _ = Unit {0}

-- the errors by which a splitter may refuse to cut a stream, where no call has failed before
abbrev pub IsCuttingFault : StreamError → Type 0
IsCuttingFault TooLong = Unit {0}
IsCuttingFault (Unfinished span) = Unit {0}
IsCuttingFault Memory = Unit {0}
IsCuttingFault _ = ⊥

-- the byte range that a refusal names, if it names one, is within the first bytes of the stream, as
-- many as given
abbrev pub IsFaultWithin : ℕ → StreamError → Type 0
IsFaultWithin n (Item e) = IsPlacedWithin n e
IsFaultWithin n (DuplicateName span) = IsSpanWithin n span
IsFaultWithin n (Unfinished span) = IsSpanWithin n span
IsFaultWithin n _ = Unit {0}
