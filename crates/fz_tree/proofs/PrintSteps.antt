-- What the printer's methods print: parts one behind another, and the parts of annotations.
use Rattle.std.proofs.Common.{◌≡◌, ◌≤◌, ◌-◌, ℕ, List, [], ◌∷◌, ◌++◌, length, get_or, map, take, drop, fold, refl, sym, ap, ◌∙◌, arith}
use Rattle.std.proofs.lemmas.List.{take_all, drop_more, length-drop}
use Rattle.std.proofs.lemmas.List.Sums.{fold-append}
use Rattle.fz_tree.specs.declared.token.Mark.TheVariants.{OpenParen, CloseParen, Comma}
use Rattle.fz_tree.specs.Token.{TokenValue, Marked}
use Rattle.fz_tree.specs.Tree.{NoteArg, NoteBasic}
use Rattle.fz_tree.specs.Tokens.{mark, in_parens, after_commas, args_toks, more_args_toks, arg_toks, basics_toks, more_basics_toks, note_basic_toks}
use Rattle.fz_tree.specs.View.{arg_list, basic_list}
use Rattle.fz_tree.specs.Printing.{Page, with_token}

-- a part behind a part
pub behind : (p q r : Page) (s t : List TokenValue) → q ≡ fold with_token p s
    → r ≡ fold with_token q t → r ≡ fold with_token p (s ++ t)
behind p q r s t e f = f ∙ (ap (λ x. fold with_token x t) e ∙ sym (fold-append with_token p s t))

-- what stands behind the first part of such a list, as a list with commas
pub more_args_are : (args : List NoteArg) → more_args_toks (arg_list args) ≡ after_commas arg_toks args
more_args_are [] = refl
more_args_are (a ∷ rest) = ap (λ (ys : List TokenValue). (Marked Comma ∷ arg_toks a) ++ ys) (more_args_are rest)

pub more_basics_are : (bs : List NoteBasic)
    → more_basics_toks (basic_list bs) ≡ after_commas note_basic_toks bs
more_basics_are [] = refl
more_basics_are (b ∷ rest) = ap (λ (ys : List TokenValue). (Marked Comma ∷ note_basic_toks b) ++ ys) (more_basics_are rest)

-- what stands behind the first element, as a pattern gives it
abbrev pub behind_first : {A : Type 0} → List A → List A
behind_first xs = take (length xs - 1) (drop 1 xs)

-- a list that is not empty, by its first element and the others
all_elements : {A : Type 0} (xs : List A) (first : A) (i : ℕ) → 1 ≤ length xs
    → first ≡ get_or xs 0 first → length (behind_first xs) ≤ i
    → first ∷ take i (behind_first xs) ≡ xs
all_elements xs first i some is all =
    let others : take i (behind_first xs) ≡ drop 1 xs = take_all i (behind_first xs) all ∙ take_all (length xs - 1) (drop 1 xs) (omega (arith, length-drop 1 xs)) in
    ap (λ ys. first ∷ ys) others ∙ sym (drop_more xs 0 first some ∙ ap (λ y. y ∷ drop 1 xs) (sym is))

-- the arguments of an annotation
pub args_printed : {A : Type 0} (view : A → NoteArg) (xs : List A) (first : A) (i : ℕ)
    (p0 p1 p2 p3 p4 : Page) → 1 ≤ length xs → first ≡ get_or xs 0 first
    → length (behind_first xs) ≤ i → p1 ≡ fold with_token p0 (mark OpenParen)
    → p2 ≡ fold with_token p1 (arg_toks (view first))
    → p3 ≡ fold with_token p2 (after_commas arg_toks (map view (take i (behind_first xs))))
    → p4 ≡ fold with_token p3 (mark CloseParen)
    → p4 ≡ fold with_token p0 (args_toks (arg_list (map view xs)))
args_printed view xs first i p0 p1 p2 p3 p4 some is all e1 e2 e3 e4 =
    let others = map view (take i (behind_first xs)) in
    let inside = behind p1 p2 p3 (arg_toks (view first)) (after_commas arg_toks others) e2 e3 in
    let closed = behind p1 p3 p4 (arg_toks (view first) ++ after_commas arg_toks others) (mark CloseParen) inside e4 in
    behind p0 p1 p4 (mark OpenParen) ((arg_toks (view first) ++ after_commas arg_toks others) ++ mark CloseParen) e1 closed
    ∙ (ap (λ t. fold with_token p0 (in_parens (arg_toks (view first) ++ t))) (sym (more_args_are others)) ∙ ap (λ ys. fold with_token p0 (args_toks (arg_list (map view ys)))) (all_elements xs first i some is all))

-- the elements of a list among them
pub basics_printed : {A : Type 0} (view : A → NoteBasic) (xs : List A) (first : A) (i : ℕ)
    (p0 p1 p2 : Page) → 1 ≤ length xs → first ≡ get_or xs 0 first
    → length (behind_first xs) ≤ i → p1 ≡ fold with_token p0 (note_basic_toks (view first))
    → p2 ≡ fold with_token p1 (after_commas note_basic_toks (map view (take i (behind_first xs))))
    → p2 ≡ fold with_token p0 (basics_toks (basic_list (map view xs)))
basics_printed view xs first i p0 p1 p2 some is all e1 e2 =
    let others = map view (take i (behind_first xs)) in
    behind p0 p1 p2 (note_basic_toks (view first)) (after_commas note_basic_toks others) e1 e2
    ∙ (ap (λ t. fold with_token p0 (note_basic_toks (view first) ++ t)) (sym (more_basics_are others)) ∙ ap (λ ys. fold with_token p0 (basics_toks (basic_list (map view ys)))) (all_elements xs first i some is all))
