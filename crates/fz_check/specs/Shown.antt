-- What `show` gives of a model (this project's profile).
use Rattle.std.specs.Prelude.{◌≡◌, ℕ, List}
use Rattle.fz_filling.specs.of_syntax.Limits.{Limits}
use Rattle.fz_filling.specs.of_syntax.AnyLength.{LexesWithNumbersInLimit}
use Rattle.fz_filling.specs.of_syntax.Print.{tree_text}
use Rattle.fz_filling.specs.of_syntax.Text.{IsTextOfTreeWithin}
use Rattle.fz_filling.specs.of_syntax.Tokens.{toks}
use Rattle.fz_search.specs.of_model.Located.{LocatedTree, bare_of}
use Rattle.fz_search.specs.of_model.Names.{HasNoFault, model_of}
use Rattle.fz_check.specs.Outputs.{with_all_printed}

-- Within the limits the model's bytes are a text of a tree without faults, and what is shown is
-- that tree's canonical text, which lexes to its tokens.
pub record IsShown (limits : Limits) (model shown : List ℕ) : Type 0 where
  pub tree : LocatedTree
  pub text_of_model : IsTextOfTreeWithin limits model (bare_of tree)
  pub no_fault : HasNoFault tree
  pub layout : shown ≡ tree_text (bare_of tree)
  pub reads_back : LexesWithNumbersInLimit shown (toks (bare_of tree))

-- The same, where a solver is to print every scalar variable: what is shown is the canonical text
-- of the tree with the annotation output_var at each, which lexes to its tokens. That tree has no
-- fault either, and its model is the same.
pub record IsShownPrintingAll (limits : Limits) (model shown : List ℕ) : Type 0 where
  pub tree : LocatedTree
  pub text_of_model : IsTextOfTreeWithin limits model (bare_of tree)
  pub no_fault : HasNoFault tree
  pub layout : shown ≡ tree_text (bare_of (with_all_printed tree))
  pub reads_back : LexesWithNumbersInLimit shown (toks (bare_of (with_all_printed tree)))
  pub no_fault_then : HasNoFault (with_all_printed tree)
  pub same_model : model_of (with_all_printed tree) ≡ model_of tree
