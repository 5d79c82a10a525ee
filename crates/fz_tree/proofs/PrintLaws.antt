-- The canonical text of a tree lexes to the tree's tokens.
use Rattle.std.proofs.Common.{◌≡◌, ℕ, Bool, true, false, List, [], ◌∷◌, ◌++◌, cond, refl, sym, ap, ◌∙◌, append_assoc, arith, fold}
use Rattle.std.proofs.lemmas.List.{append-nil}
use Rattle.std.specs.Prelude.{codes, ◌&&◌}
use Rattle.std.specs.List.{AllByRecursion}
use Rattle.std.specs.Fmt.{signed_decimal}
use Rattle.fz_tree.specs.Token.{TokenValue, mark_text, Word, Whole, FloatText, StringText, Marked, IsTokenText}
use Rattle.fz_tree.specs.Lexing.{IsTokenWithinLimit}
use Rattle.fz_tree.specs.declared.token.Mark.TheVariants.{OpenParen, Semicolon, Colon, DotDot}
use Rattle.fz_tree.specs.Scan.{fraction_len}
use Rattle.fz_tree.proofs.Covers.{EndsNumber}
use Rattle.fz_tree.proofs.Joined.{Joins, done, gap, text}
use Rattle.fz_tree.proofs.Spelling.{signed_decimal_writes}
use Rattle.fz_tree.specs.Print.{token_text, blanks, tokens_text}
use Rattle.fz_tree.specs.Printing.{Page, page, with_token, Prints}
use Rattle.fz_tree.specs.declared.printer.Printer.{Printer}

-- a word and a number end before any token
ends_before : (t : TokenValue) (rest : List ℕ)
    → EndsNumber (cond (true && (blanks t).0) (codes " ") [] ++ (token_text t ++ rest))
unfolding fraction_len
ends_before (Marked OpenParen) rest = record { no_word = refl; no_fraction = refl }
ends_before (Marked DotDot) rest = record { no_word = refl; no_fraction = refl }
ends_before t rest = record { no_word = refl; no_fraction = refl }

ends : (T : List TokenValue) → EndsNumber (tokens_text true T)
unfolding fraction_len
ends [] = record { no_word = refl; no_fraction = refl }
ends (t ∷ T) = ends_before t (tokens_text (blanks t).1 T)

token_joins : (t : TokenValue) (T : List TokenValue) → IsTokenText t → IsTokenWithinLimit t
    → Joins (tokens_text (blanks t).1 T) T
    → Joins (token_text t ++ tokens_text (blanks t).1 T) (t ∷ T)
token_joins (Word w) T h k j = text (Word w) w _ _ T refl (refl, h) (ends T).no_word j
token_joins (Whole z) T h k j = text (Whole z) (signed_decimal z) _ _ T refl (signed_decimal_writes z k) (ends T) j
token_joins (FloatText f) T h k j = text (FloatText f) f _ _ T refl (refl, h) (ends T) j
token_joins (StringText s) T h k j = text (StringText s) s _ _ T refl (refl, h) tt j
token_joins (Marked Colon) T h k j = text (Marked Colon) (codes ":") _ _ T refl refl (λ e. omega arith) (gap 32 _ T refl j)
token_joins (Marked Semicolon) T h k j = text (Marked Semicolon) (codes ";") _ _ T refl refl tt (gap 10 _ T refl j)
token_joins (Marked m) T h k j = text (Marked m) (mark_text m) _ _ T refl refl tt j

gap_joins : (b : Bool) (bytes : List ℕ) (T : List TokenValue) → Joins bytes T
    → Joins (cond b (codes " ") [] ++ bytes) T
gap_joins true bytes T j = gap 32 bytes T refl j
gap_joins false bytes T j = j

pub tokens_join : (apart : Bool) (T : List TokenValue) → AllByRecursion IsTokenText T
    → AllByRecursion IsTokenWithinLimit T → Joins (tokens_text apart T) T
tokens_join apart [] h k = done
tokens_join apart (t ∷ T) h k = gap_joins (apart && (blanks t).0) _ _ (token_joins t T h.0 k.0 (tokens_join (blanks t).1 T h.1 k.1))

-- what a page has with more tokens
pub more_tokens : (p : Page) (T : List TokenValue)
    → (fold with_token p T).text ≡ p.text ++ tokens_text p.apart T
unfolding with_token
more_tokens p [] = sym (append-nil p.text)
more_tokens p (t ∷ T) =
    more_tokens (with_token p t) T ∙ simp (append_assoc, append-nil)

-- the text of a printer that began with none
pub all_printed : (old new : Printer) (T : List TokenValue) → old.text.items ≡ []
    → old.apart ≡ false → Prints old new T → new.text.items ≡ tokens_text false T
unfolding page
all_printed old new T none close h =
    ap (λ p. p.text) h ∙ (more_tokens (page old) T ∙ rw (none, close) refl)
