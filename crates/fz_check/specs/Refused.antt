-- What holds where a check is refused (this project's profile).
use Rattle.std.specs.Prelude.{◌≡◌, ◌≢◌, ◌↔◌, ℕ, ◌+◌, ◌<◌, ◌≤◌, List, ◌∷◌, ◌++◌, length, map, ⊤}
use Rattle.std.specs.List.{AllByRecursion}
use Rattle.fz_filling.specs.of_syntax.Limits.{Limits}
use Rattle.fz_filling.specs.of_syntax.Places.{most_bytes, standard_limits, IsPlacedWithin}
use Rattle.fz_filling.specs.of_syntax.SyntaxError.{SyntaxError}
use Rattle.fz_filling.specs.of_syntax.SyntaxError.TheVariants.{TooLong as TextTooLong, Memory as TextMemory}
use Rattle.fz_filling.specs.of_syntax.Text.{IsTextOfTreeWithin}
use Rattle.fz_filling.specs.of_syntax.Refusals.{IsRefusalWithin}
use Rattle.fz_filling.specs.of_syntax.Tree.{Tree}
use Rattle.fz_filling.specs.of_syntax.View.{bare_items}
use Rattle.fz_filling.specs.of_stream.Broken.{StopsAfter}
use Rattle.fz_filling.specs.of_stream.Faults.{IsStreamFault}
use Rattle.fz_filling.specs.of_stream.Found.{HasPlaces, block_of, IsStreamText}
use Rattle.fz_filling.specs.of_stream.Parts.{blocks_in, StreamPart}
use Rattle.fz_filling.specs.of_stream.declared.block.Block as the_block
use Rattle.fz_filling.specs.of_stream.declared.error.StreamError.{StreamError}
use Rattle.fz_filling.specs.of_stream.declared.error.StreamError.TheVariants as stream
use Rattle.fz_search.specs.of_model.Meaning.{Model}
use Rattle.fz_search.specs.of_model.Texts.{IsNameFaultWithin}
use Rattle.fz_search.specs.of_model.declared.ModelError.{ModelError}
use Rattle.fz_search.specs.of_model.declared.ModelError.TheVariants.{Memory as NameMemory}
use Rattle.fz_filling.specs.BlockFaults.{AllFit}
use Rattle.fz_filling.specs.Judged.{IsBlockRefusal}
use Rattle.fz_filling.specs.declared.error.BlockError.{BlockError}
use Rattle.fz_filling.specs.declared.error.BlockError.TheVariants.{Memory as BlockMemory}
use Rattle.fz_check.specs.declared.error.CheckError.{CheckError}
use Rattle.fz_check.specs.declared.error.CheckError.TheVariants as errors
use Rattle.fz_check.specs.Reported.{HoldsOfModel}

-- Within the limits the model's bytes are not a text of any tree. The fault is `TooLong` exactly
-- where they are too many. It comes in the order of faults, one of the lexer before one of the
-- grammar, and its byte range is within them.
pub record HasTextFault (limits : Limits) (model : List ℕ) (e : SyntaxError) : Type 0 where
  pub no_tree : (t : Tree) → IsTextOfTreeWithin limits model t → ⊥
  pub too_long : (e ≡ TextTooLong) ↔ (limits.bytes < length model)
  pub order : IsRefusalWithin limits model e
  pub place : IsPlacedWithin (length model) e
  pub not_memory : e ≢ TextMemory

-- Within the limits the model's bytes are a text of a tree whose names and literals have their byte
-- ranges in it, and this is the tree's first fault.
pub record HasNameFault (limits : Limits) (model : List ℕ) (e : ModelError) : Type 0 where
  pub fault : IsNameFaultWithin limits model e
  pub not_memory : e ≢ NameMemory

-- The stream's bytes are not too many, and not a text of parts. The fault is that of the first
-- block that is broken.
pub record IsBroken (bytes : List ℕ) (e : StreamError) : Type 0 where
  pub short : length bytes ≤ most_bytes
  pub no_parts : (parts : List StreamPart) → IsStreamText bytes parts → ⊥
  pub before : List StreamPart
  pub stops : StopsAfter bytes before e
  pub fault : IsStreamFault e

-- the stream's bytes are too many, or not a text of parts
abbrev pub HasStreamFault : List ℕ → StreamError → Type 0
HasStreamFault bytes stream.TooLong = most_bytes < length bytes
HasStreamFault bytes stream.Memory = ⊥
HasStreamFault bytes e = IsBroken bytes e

-- The block with this number, from 1, is the first that has a fault, and this is its first fault.
pub record IsFirstFault (m : Model) (blocks : List the_block.Block) (number : ℕ)
    (e : BlockError) : Type 0 where
  pub before : List the_block.Block
  pub block : the_block.Block
  pub after : List the_block.Block
  pub blocks_are : blocks ≡ before ++ block ∷ after
  pub numbered : number ≡ length before + 1
  pub none_before : AllByRecursion (λ b. AllFit m (bare_items b.items.items)) before
  pub tells : IsBlockRefusal m block e
  pub not_memory : e ≢ BlockMemory

-- The stream's bytes are not too many, and a text of parts. Of their blocks, with the byte ranges
-- of names and literals, the one with this number is the first that doesn't fit the model, and this
-- is its first fault.
pub record HasBlockFault (m : Model) (stream : List ℕ) (number : ℕ) (e : BlockError) : Type 0 where
  pub short : length stream ≤ most_bytes
  pub parts : List StreamPart
  pub text_of_stream : IsStreamText stream parts
  pub blocks : List the_block.Block
  pub blocks_are : map block_of blocks ≡ blocks_in parts
  pub places : AllByRecursion HasPlaces blocks
  pub first : IsFirstFault m blocks number e

-- the refusals of a model's text: of its bytes, and of its names; or memory ran out
abbrev pub IsModelRefusal : Limits → List ℕ → CheckError → Type 0
IsModelRefusal limits model (errors.Model e) = HasTextFault limits model e
IsModelRefusal limits model (errors.Names e) = HasNameFault limits model e
IsModelRefusal limits model errors.Memory = ⊤
IsModelRefusal limits model _ = ⊥

-- and those of a stream that is read whole, where the model has no fault: first of the stream, then
-- of its blocks
abbrev pub IsRefusal : List ℕ → List ℕ → CheckError → Type 0
IsRefusal model stream (errors.Stream e) = HoldsOfModel model (λ _. HasStreamFault stream e)
IsRefusal model stream (errors.Block n e) =
    HoldsOfModel model (λ m. HasBlockFault m stream n e)
IsRefusal model stream e = IsModelRefusal standard_limits model e
