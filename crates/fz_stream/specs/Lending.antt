-- A frame or a part that a splitter lends as the plain data that the definitions speak of.
use Rattle.std.specs.Prelude.{ℕ, ◌+◌, ◌≤◌, length}
use Rattle.fz_stream.specs.declared.splitter.Frame.{Frame as LentFrame}
use Rattle.fz_stream.specs.declared.splitter.Frame.TheVariants as lent
use Rattle.fz_stream.specs.declared.splitter.Part.{Part}
use Rattle.fz_stream.specs.declared.splitter.Part.TheVariants.{Block, Claim}
use Rattle.fz_stream.specs.Found.{block_of, HasPlaces, EndsWithin}
use Rattle.fz_stream.specs.Parts.{StreamPart, BlockPart, ClaimPart, Frame, BlockFrame, ClaimFrame}

abbrev pub plain_frame : LentFrame → Frame
plain_frame (lent.Block offset text) = BlockFrame offset text.now
plain_frame (lent.Claim kind) = ClaimFrame kind

abbrev pub part_of : Part → StreamPart
part_of (Block block) = BlockPart (block_of block)
part_of (Claim kind) = ClaimPart kind

-- a block's text has at most so many bytes
abbrev pub FrameIsShort : ℕ → LentFrame → Type 0
FrameIsShort n (lent.Block offset text) = length text.now ≤ n
FrameIsShort n (lent.Claim kind) = Unit {0}

-- and ends within the first bytes of the stream, as many as given
abbrev pub FrameEndsWithin : ℕ → LentFrame → Type 0
FrameEndsWithin n (lent.Block offset text) = offset + length text.now ≤ n
FrameEndsWithin n (lent.Claim kind) = Unit {0}

-- of a block, its items' byte ranges are those in its text
abbrev pub HasPlacesOfItems : Part → Type 0
HasPlacesOfItems (Block block) = HasPlaces block
HasPlacesOfItems (Claim kind) = Unit {0}

-- of a block, its text ends within the first bytes of the stream, as many as given
abbrev pub PartEndsWithin : ℕ → Part → Type 0
PartEndsWithin n (Block block) = EndsWithin n block
PartEndsWithin n (Claim kind) = Unit {0}
