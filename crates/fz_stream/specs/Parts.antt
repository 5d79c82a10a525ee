-- The parts of a stream of solver output: solution blocks and claims (MiniZinc Handbook, output of
-- a FlatZinc solver; this project's profile).
use Rattle.std.specs.Prelude.{◌≡◌, ◌≢◌, ℕ, ◌+◌, List, [], ◌∷◌, ◌++◌, length, map, reverse, if◌then◌else◌, ◌==◌, bytes_eq, codes, AllPairs}
use Rattle.std.specs.List.{AllByRecursion, onto_first}
use Rattle.fz_syntax.specs.Limits.{Limits}
use Rattle.fz_syntax.specs.Tree.{Printed}
use Rattle.fz_syntax.specs.Text.{IsTextOfItemsWithin}
use Rattle.fz_stream.specs.declared.line.ClaimKind.{ClaimKind}
use Rattle.fz_stream.specs.declared.line.LineKind.TheVariants.{Marker, Claim, Item, Blank, Comment}
use Rattle.fz_syntax.specs.Token.{is_blank}
use Rattle.fz_stream.specs.declared.line.ClaimKind.TheVariants.{Complete, Unsatisfiable, Unknown, Unbounded, UnsatOrUnbounded, Error}
use Rattle.fz_stream.specs.declared.line.LineKind.{LineKind}

-- a line, with the LF that ends it
abbrev pub Line : Type 0
Line = List ℕ

-- The lines of a stream: it is cut after each LF, and what follows the last LF is a line where it
-- isn't empty.
abbrev pub lines_of : List ℕ → List Line
lines_of [] = []
lines_of (b ∷ bytes) =
    if b == 10 then ((b ∷ []) ∷ lines_of bytes) else onto_first b (lines_of bytes)

-- the bytes of lines, one line after another
abbrev pub joined : List Line → List ℕ
joined [] = []
joined (line ∷ lines) = line ++ joined lines

-- the bytes without the blanks at their front
abbrev pub skip_blanks : List ℕ → List ℕ
skip_blanks [] = []
skip_blanks (b ∷ bytes) = if is_blank b then skip_blanks bytes else (b ∷ bytes)

-- a line without the blanks at its ends
abbrev pub trimmed : Line → List ℕ
trimmed line = reverse (skip_blanks (reverse (skip_blanks line)))

-- Ten dashes close a solution. Ten equality signs and the five named lines are claims on the
-- search. Any other line begins or continues an item.
abbrev pub kind_of_words : List ℕ → LineKind
kind_of_words words = if bytes_eq words (codes "----------") then Marker
    else (if bytes_eq words (codes "==========") then Claim Complete
    else (if bytes_eq words (codes "=====UNSATISFIABLE=====") then Claim Unsatisfiable
    else (if bytes_eq words (codes "=====UNKNOWN=====") then Claim Unknown
    else (if bytes_eq words (codes "=====UNBOUNDED=====") then Claim Unbounded
    else (if bytes_eq words (codes "=====UNSATorUNBOUNDED=====") then Claim UnsatOrUnbounded
    else (if bytes_eq words (codes "=====ERROR=====") then Claim Error
    else Item))))))

-- a comment begins with `%`
abbrev pub kind_of_trimmed : List ℕ → LineKind
kind_of_trimmed [] = Blank
kind_of_trimmed (b ∷ bytes) = if b == 37 then Comment else kind_of_words (b ∷ bytes)

-- the kind of a line; the blanks at its ends don't count
unfoldable pub kind_of : Line → LineKind
kind_of line = kind_of_trimmed (trimmed line)

abbrev pub IsFillerKind : LineKind → Type 0
IsFillerKind Blank = Unit {0}
IsFillerKind Comment = Unit {0}
IsFillerKind _ = ⊥

-- a blank line or a comment
abbrev pub IsFiller : Line → Type 0
IsFiller line = IsFillerKind (kind_of line)

abbrev pub IsInnerKind : LineKind → Type 0
IsInnerKind Marker = ⊥
IsInnerKind (Claim kind) = ⊥
IsInnerKind _ = Unit {0}

-- a line that is neither a marker nor a claim
abbrev pub IsInner : Line → Type 0
IsInner line = IsInnerKind (kind_of line)

-- a solution block: the byte offset of its text in the stream, its text, and what it prints
pub record SolutionBlock : Type 0 where
  pub offset : ℕ
  pub text : List ℕ
  pub items : List Printed

-- a block or a claim
pub data StreamPart : Type 0 where
  BlockPart : SolutionBlock → StreamPart
  ClaimPart : ClaimKind → StreamPart

-- a part as lines tell it: the offset and the text of a block, or a claim
pub data Frame : Type 0 where
  BlockFrame : ℕ → List ℕ → Frame
  ClaimFrame : ClaimKind → Frame

abbrev pub frame_of : StreamPart → Frame
frame_of (BlockPart block) = BlockFrame block.offset block.text
frame_of (ClaimPart kind) = ClaimFrame kind

-- no two items have one name
abbrev pub HasDistinctNames : List Printed → Type 0
HasDistinctNames items = AllPairs (λ a b. a.name ≢ b.name) items

-- within the limits the text is one of the items, and no name is printed twice
abbrev pub IsBlockText : Limits → List ℕ → List Printed → Type 0
IsBlockText limits text items = IsTextOfItemsWithin limits text items × HasDistinctNames items

-- a block's text is one of its items
abbrev pub HasItems : Limits → StreamPart → Type 0
HasItems limits (BlockPart block) = IsBlockText limits block.text block.items
HasItems limits (ClaimPart kind) = Unit {0}

-- the lines of a block before its marker: none, or an item line, and then item lines, blank lines
-- and comments
abbrev pub AreBlockLines : List Line → Type 0
AreBlockLines [] = Unit {0}
AreBlockLines (line ∷ lines) = (kind_of line ≡ Item) × AllByRecursion IsInner lines

-- the line ends the frame: a marker after the lines of its block, the body, which begins at byte
-- `start`, or a claim outside a block
abbrev pub Closes : ℕ → List Line → Line → Frame → Type 0
Closes start body line (BlockFrame offset text) =
    (kind_of line ≡ Marker) × (offset ≡ start) × (text ≡ joined body)
Closes start body line (ClaimFrame kind) = (kind_of line ≡ Claim kind) × (body ≡ [])

-- The lines, of which the first begins at byte `start`, are those of the frame: blank lines and
-- comments, a block's own lines, and the line that ends it.
pub record AreLinesOfFrame (start : ℕ) (lines : List Line) (frame : Frame) : Type 0 where
  pub gap : List Line
  pub body : List Line
  pub line : Line
  pub whole : lines ≡ gap ++ (body ++ line ∷ [])
  pub fillers : AllByRecursion IsFiller gap
  pub own : AreBlockLines body
  pub closes : Closes (start + length (joined gap)) body line frame

-- The lines, of which the first begins at byte `start`, are those of the frames, one after another.
abbrev pub AreLinesOf : ℕ → List Line → List Frame → Type 0
AreLinesOf start lines [] = lines ≡ []
AreLinesOf start lines (frame ∷ frames) =
    (own : List Line) × (others : List Line) × (lines ≡ own ++ others)
    × AreLinesOfFrame start own frame × AreLinesOf (start + length (joined own)) others frames

-- The lines are those of the frames; then come blank lines and comments, `gap`, and then `body`,
-- the lines of a block that no marker has closed, which are none where no block is open.
pub record Covers (lines : List Line) (frames : List Frame) (gap body : List Line) : Type 0 where
  pub covered : List Line
  pub whole : lines ≡ covered ++ (gap ++ body)
  pub of_frames : AreLinesOf 0 covered frames
  pub fillers : AllByRecursion IsFiller gap
  pub own : AreBlockLines body

-- the bytes are cut into these frames: behind them come only blank lines and comments
abbrev pub IsFramed : List ℕ → List Frame → Type 0
IsFramed bytes frames = (gap : List Line) × Covers (lines_of bytes) frames gap []

-- The bytes are a text of the parts: they are cut into their frames, and each block, whose text is
-- within the limits, has its items.
pub record IsStreamTextWithin (limits : Limits) (bytes : List ℕ)
    (parts : List StreamPart) : Type 0 where
  pub framed : IsFramed bytes (map frame_of parts)
  pub items : AllByRecursion (HasItems limits) parts

-- the blocks among the parts
abbrev pub blocks_in : List StreamPart → List SolutionBlock
blocks_in [] = []
blocks_in (BlockPart block ∷ parts) = block ∷ blocks_in parts
blocks_in (ClaimPart kind ∷ parts) = blocks_in parts
