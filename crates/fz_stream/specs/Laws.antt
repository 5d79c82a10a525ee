-- Laws of the definitions of streams (this project's profile). Each law is the contract of a public
-- function of this crate.
use Rattle.std.specs.Prelude.{◌≡◌, ℕ, List}
use Rattle.fz_syntax.specs.Limits.{Limits}
use Rattle.fz_stream.specs.Parts.{StreamPart, IsStreamTextWithin}

-- The bytes are a text of one list of parts, if of any, whatever the limits.
abbrev pub StreamHasOneListOfParts : Type 0
StreamHasOneListOfParts = (a b : Limits) (bytes : List ℕ) (parts others : List StreamPart)
    → IsStreamTextWithin a bytes parts → IsStreamTextWithin b bytes others → others ≡ parts
