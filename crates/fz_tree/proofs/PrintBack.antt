-- The canonical text of a tree lexes to the tree's tokens, so it is a text of the tree where it is
-- short enough.
use Rattle.std.proofs.Common.{◌≡◌, ◌≤◌, ℕ, false, List, length, sym, subst}
use Rattle.fz_tree.specs.declared.limits.Limits.{Limits}
use Rattle.fz_tree.specs.AnyLength.{LexesWithNumbersInLimit}
use Rattle.fz_tree.proofs.Joined.{joined_lexes}
use Rattle.fz_tree.proofs.Texts.{lexed_texts, text_lexes, text_of_tokens}
use Rattle.fz_tree.specs.Tree.{Tree}
use Rattle.fz_tree.specs.Tokens.{toks}
use Rattle.fz_tree.specs.Text.{IsTextOfTreeWithin, IsTree}
use Rattle.fz_tree.specs.Print.{tree_text, CanBeWritten}
use Rattle.fz_tree.proofs.PrintLaws.{tokens_join}

pub printed_lexes : (t : Tree) (text : List ℕ) → text ≡ tree_text t → CanBeWritten t
    → LexesWithNumbersInLimit text (toks t)
printed_lexes t text e w =
    subst (λ bytes. LexesWithNumbersInLimit bytes (toks t)) (sym e) (record { lexes = joined_lexes (tree_text t) (toks t) (tokens_join false (toks t) w.texts w.numbers); numbers = w.numbers })

-- a tree that was read can be written
pub read_can_be_written : (limits : Limits) (source : List ℕ) (t : Tree)
    → IsTextOfTreeWithin limits source t → CanBeWritten t
read_can_be_written limits source t h =
    let l = text_lexes limits source (toks t) h.lexes in
    record { texts = lexed_texts source (toks t) l.lexes; numbers = l.numbers }

-- what lexes to the tokens of a tree is a text of it, where it isn't too long
pub printed_is_text : (limits : Limits) (t : Tree) (text : List ℕ)
    → LexesWithNumbersInLimit text (toks t) → IsTree limits t → length text ≤ limits.bytes
    → IsTextOfTreeWithin limits text t
printed_is_text limits t text l is short = record { lexes = text_of_tokens limits text (toks t) short l; of_grammar = is }

pub printed_again : (t : Tree) (text : List ℕ) → text ≡ tree_text t → (limits : Limits)
    (source : List ℕ) → IsTextOfTreeWithin limits source t → length text ≤ limits.bytes
    → IsTextOfTreeWithin limits text t
printed_again t text e limits source h short = printed_is_text limits t text (printed_lexes t text e (read_can_be_written limits source t h)) h.of_grammar short
