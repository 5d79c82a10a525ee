-- The blocks and claims of the code as the plain data that the definitions speak of, and what they
-- say about the stream that was read.
use Rattle.std.specs.Prelude.{◌≡◌, ◌≤◌, ℕ, ◌+◌, List, [], ◌∷◌, ◌++◌, length}
use Rattle.fz_syntax.specs.Places.{standard_limits}
use Rattle.fz_syntax.specs.Placed.{ArePlacedIn, placed_items}
use Rattle.fz_syntax.specs.View.{bare_items}
use Rattle.fz_stream.specs.declared.block.Block.{Block}
use Rattle.fz_stream.specs.declared.line.LineKind.TheVariants.{Marker}
use Rattle.fz_stream.specs.declared.reading.Claim.{Claim}
use Rattle.fz_stream.specs.Parts.{Line, lines_of, joined, kind_of, SolutionBlock, StreamPart, BlockPart, ClaimPart, IsStreamTextWithin, blocks_in}

-- a text of the parts, at the standard limits
abbrev pub IsStreamText : List ℕ → List StreamPart → Type 0
IsStreamText = IsStreamTextWithin standard_limits

-- a block of the code without the byte ranges of its items
abbrev pub block_of : Block → SolutionBlock
block_of b = record { offset = b.offset; text = b.text.now; items = bare_items b.items.items }

-- the block's text is cut into the tokens of its items, and each name and literal has the byte
-- range of its own tokens
abbrev pub HasPlaces : Block → Type 0
HasPlaces b = ArePlacedIn b.text.now (placed_items b.items.items)

-- the block's text ends within the first bytes of the stream, as many as given
abbrev pub EndsWithin : ℕ → Block → Type 0
EndsWithin n b = b.offset + length b.text.now ≤ n

-- the claims among the parts, each with the number of blocks before it, of which n come before the
-- parts
abbrev pub claims_in : ℕ → List StreamPart → List Claim
claims_in n [] = []
claims_in n (BlockPart block ∷ parts) = claims_in (n + 1) parts
claims_in n (ClaimPart kind ∷ parts) = record { after = n; kind = kind } ∷ claims_in n parts

-- The stream has these blocks and claims, and no others: they are those of parts of which the bytes
-- are a text, and the bytes are a text of no other parts.
pub record IsReadAs (bytes : List ℕ) (blocks : List SolutionBlock)
    (claims : List Claim) : Type 0 where
  pub parts : List StreamPart
  pub text : IsStreamText bytes parts
  pub only : (others : List StreamPart) → IsStreamText bytes others → others ≡ parts
  pub blocks_are : blocks ≡ blocks_in parts
  pub claims_are : claims ≡ claims_in 0 parts

-- the numbers of blocks before the claims never decrease, and are between these two
abbrev pub AreInOrder : ℕ → ℕ → List Claim → Type 0
AreInOrder least most [] = Unit {0}
AreInOrder least most (claim ∷ claims) =
    (least ≤ claim.after) × (claim.after ≤ most) × AreInOrder claim.after most claims

-- The block's text is in the stream at its offset, and a marker line follows it.
pub record StandsBeforeMarker (bytes : List ℕ) (block : SolutionBlock) : Type 0 where
  pub before : List Line
  pub marker : Line
  pub after : List Line
  pub front : List ℕ
  pub lines : lines_of bytes ≡ before ++ (marker ∷ after)
  pub closes : kind_of marker ≡ Marker
  pub text : joined before ≡ front ++ block.text
  pub offset : block.offset ≡ length front
