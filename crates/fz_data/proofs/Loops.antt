-- Loops over parts of the tree: what was found so far, and the first answer.
use Rattle.std.proofs.Common.{◌≡◌, ℕ, ◌+◌, ◌<◌, ◌≤◌, true, false, List, [], ◌∷◌, ◌++◌, map, length, take, get_or, Option, Some, None, option_map, is_some, refl, sym, ap, ◌∙◌, arith}
use Rattle.std.proofs.lemmas.List.{map-append}
use Rattle.fz_store.specs.of_meaning.Meaning.{first_some}
use Rattle.fz_store.proofs.of_meaning.ScanSteps.{first_stops, take_one_more, first_more}
use Rattle.fz_tree.specs.Tree as tree
use Rattle.fz_tree.specs.View.{arg_list, bare_arg}
use Rattle.fz_tree.specs.declared.tree.NoteArg.{NoteArg}
use Rattle.fz_store.specs.of_meaning.Names.{only_name}

pub two_more : {A B C : Type 0} (f : B → C) (g : A → B) (xs : List A) (i : ℕ) (x : A)
    → i < length xs → x ≡ get_or xs i x
    → map f (map g (take (i + 1) xs)) ≡ map f (map g (take i xs)) ++ f (g x) ∷ []
two_more f g xs i x lt at = ap (map f) (take_one_more g xs i x lt at) ∙ map-append f (map g (take i xs)) (g x ∷ [])

-- a name has a kind where it is declared
pub has_kind : {A B C : Type 0} (f : B → C) (g : A → B) (o : Option A)
    → is_some (option_map f (option_map g o)) ≡ is_some o
has_kind f g None = refl
has_kind f g (Some x) = refl

-- the first answer
some_answer : {A : Type 0} (o : Option A) → is_some o ≡ true → (y : A) × (o ≡ Some y)
some_answer None e = cc
some_answer (Some y) e = (y, refl)

pub no_answer : {A : Type 0} (o : Option A) → is_some o ≡ false → o ≡ None
no_answer None e = refl
no_answer (Some y) e = cc

pub answer_found : {A B C : Type 0} (f : B → Option C) (g : A → B) (xs : List A) (i : ℕ) (x : A)
    (o : Option C) → i < length xs → x ≡ get_or xs i x → first_some f (map g (take i xs)) ≡ None
    → o ≡ f (g x) → is_some o ≡ true → o ≡ first_some f (map g xs)
answer_found f g xs i x o lt at none is some =
    let (y, found) = some_answer o some in
    found ∙ sym (first_stops f g xs i x y lt at none (sym is ∙ found))

-- of two arguments or more none is the only one
two_arguments : (a b : tree.NoteArg) (args : tree.NoteArgs)
    → ◌≡◌ {A = Option (List ℕ)} None (only_name (tree.MoreArgs a (tree.MoreArgs b args)))
two_arguments (tree.OneBasic (tree.Inner (tree.Called x tree.NoMoreArgs))) b args = refl
two_arguments (tree.OneBasic (tree.Inner (tree.Called x (tree.MoreArgs c cs)))) b args = refl
two_arguments (tree.OneBasic (tree.NoteLiteral l)) b args = refl
two_arguments (tree.OneBasic (tree.NoteFloat t)) b args = refl
two_arguments (tree.OneBasic (tree.NoteString t)) b args = refl
two_arguments (tree.ListOf bs) b args = refl

pub not_only : (args : List NoteArg) → 2 ≤ length args
    → ◌≡◌ {A = Option (List ℕ)} None (only_name (arg_list (map bare_arg args)))
not_only (a ∷ b ∷ args) h = two_arguments (bare_arg a) (bare_arg b) (arg_list (map bare_arg args))
not_only _ h = absurd (omega arith)

-- what `target_of` cites
pub ruleset first_found = (answer_found, first_more, no_answer)
