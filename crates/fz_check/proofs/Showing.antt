-- What is shown of a model.
use Rattle.std.proofs.Common.{◌≡◌, ◌∙◌, ℕ, List, sym, ap, subst}
use Rattle.fz_filling.specs.of_syntax.AnyLength.{LexesWithNumbersInLimit}
use Rattle.fz_filling.specs.of_syntax.Limits.{Limits}
use Rattle.fz_filling.specs.of_syntax.Print.{CanBeWritten, tree_text}
use Rattle.fz_filling.specs.of_syntax.Text.{IsTextOfTreeWithin}
use Rattle.fz_filling.specs.of_syntax.Tokens.{toks}
use Rattle.fz_filling.specs.of_syntax.View.{bare}
use Rattle.fz_filling.specs.of_syntax.declared.Ast as the_ast
use Rattle.fz_filling.proofs.of_syntax.PrintBack.{read_can_be_written}
use Rattle.fz_search.specs.of_model.Names.{HasNoFault}
use Rattle.fz_search.specs.of_model.Located.{bare_of}
use Rattle.fz_search.specs.of_model.View.{located}
use Rattle.fz_search.proofs.of_model.Places.{located_is_bare}
use Rattle.fz_check.specs.Outputs.{with_all_printed}
use Rattle.fz_check.proofs.Tokens.{can_be_written}
use Rattle.fz_check.proofs.Same.{same_model}
use Rattle.fz_check.proofs.Sound.{no_fault_still}
use Rattle.fz_check.specs.Shown.{IsShown, IsShownPrintingAll}

pub shown_of : {limits : Limits} → (model shown : List ℕ) (a : the_ast.Ast) → IsTextOfTreeWithin limits model (bare a)
    → HasNoFault (located a) → shown ≡ tree_text (bare a)
    → (CanBeWritten (bare a) → LexesWithNumbersInLimit shown (toks (bare a))) → IsShown limits model shown
shown_of {limits} model shown a text sound layout back = record {
  tree = located a;
  text_of_model = subst (IsTextOfTreeWithin limits model) (sym (located_is_bare a)) text;
  no_fault = sound;
  layout = layout ∙ ap tree_text (sym (located_is_bare a));
  reads_back = subst (λ t. LexesWithNumbersInLimit shown (toks t)) (sym (located_is_bare a)) (back (read_can_be_written limits model (bare a) text));
}

-- of a tree that was read, and of what became of it
pub shown_printing_all : {limits : Limits} → (model shown : List ℕ) (a b : the_ast.Ast) → IsTextOfTreeWithin limits model (bare a)
    → HasNoFault (located a) → located b ≡ with_all_printed (located a) → shown ≡ tree_text (bare b)
    → (CanBeWritten (bare b) → LexesWithNumbersInLimit shown (toks (bare b))) → IsShownPrintingAll limits model shown
shown_printing_all {limits} model shown a b text sound is layout back =
    let same : bare b ≡ bare_of (with_all_printed (located a)) = sym (located_is_bare b) ∙ ap bare_of is in
    let read : CanBeWritten (bare_of (located a)) = subst CanBeWritten (sym (located_is_bare a)) (read_can_be_written limits model (bare a) text) in
    let written : CanBeWritten (bare b) = subst CanBeWritten (sym same) (can_be_written (located a) read) in
    record {
      tree = located a;
      text_of_model = subst (IsTextOfTreeWithin limits model) (sym (located_is_bare a)) text;
      no_fault = sound;
      layout = layout ∙ ap tree_text same;
      reads_back = subst (λ t. LexesWithNumbersInLimit shown (toks t)) same (back written);
      no_fault_then = no_fault_still (located a) sound;
      same_model = same_model (located a);
    }
