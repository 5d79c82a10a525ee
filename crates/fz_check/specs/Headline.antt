-- What an accepted stream has (this project's profile).
use Rattle.std.specs.Prelude.{◌≡◌, ℕ, ◌≤◌, List, length, Option}
use Rattle.fz_filling.specs.of_syntax.Limits.{Limits}
use Rattle.fz_filling.specs.of_syntax.Text.{IsTextOfTreeWithin}
use Rattle.fz_filling.specs.of_stream.Parts.{StreamPart, IsStreamTextWithin, blocks_in}
use Rattle.fz_search.specs.of_model.Located.{LocatedTree, bare_of}
use Rattle.fz_search.specs.of_model.Names.{HasNoFault}
use Rattle.fz_filling.specs.Solutions.{HaveSolutions}
use Rattle.std.specs.Io.KnownBytes.{Consumes, IsAtEnd}

-- The reader gave these bytes up to its end, and this holds of them.
pub record HoldsOfStream (left left' : Option (List ℕ)) (Holds : List ℕ → Type 0) : Type 0 where
  pub given : List ℕ
  pub reads : Consumes left left' given
  pub end : IsAtEnd left'
  pub holds : Holds given

-- Within the limits the model's bytes are a text of a tree without faults; the stream's bytes are a
-- text of parts, of which `count` are blocks, at least one; and for these blocks there are
-- assignments, one per block, each of which extends its block, lies inside all declared domains,
-- satisfies every definition and constraint, and has an objective strictly better than the block
-- before it.
pub record HasSolutionsWithin (limits : Limits) (model stream : List ℕ)
    (count : ℕ) : Type 0 where
  pub tree : LocatedTree
  pub text_of_model : IsTextOfTreeWithin limits model (bare_of tree)
  pub no_fault : HasNoFault tree
  pub parts : List StreamPart
  pub text_of_stream : IsStreamTextWithin limits stream parts
  pub counted : length (blocks_in parts) ≡ count
  pub at_least_one : 1 ≤ count
  pub solutions : HaveSolutions tree (blocks_in parts)
