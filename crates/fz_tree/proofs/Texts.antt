-- What a text of tokens tells of its tokens, for the crates above: each token has its text where
-- its span says, the text that is in it is one of its kind, and a source has one list of tokens.
use Rattle.std.proofs.Common.{◌≡◌, ℕ, ◌-◌, ◌≤◌, List, [], ◌∷◌, length, take, drop, slice_range, map, sym, ap, ◌∙◌, subst, arith}
use Rattle.std.specs.List.{AllByRecursion}
use Rattle.fz_tree.specs.Token.{TokenValue, Word, FloatText, StringText, Spells, IsTokenText, IsWordText, IsFloatText, IsStringText}
use Rattle.fz_tree.specs.Lexing.{SpannedToken, CutBetween, nothing, blank, comment, spelling, IsTokenWithinLimit, IsTextOfTokensWithin}
use Rattle.fz_tree.specs.declared.limits.Limits.{Limits}
use Rattle.fz_tree.specs.AnyLength.{LexesTo, LexesWithNumbersInLimit}
use Rattle.fz_tree.specs.Spanned.{IsSpelledAtSpan, LexesToSpanned}

pub spelled_text : (t : TokenValue) (b : List ℕ) → Spells t b → IsTokenText t
spelled_text (Word text) b s = subst IsWordText s.0 s.1
spelled_text (FloatText text) b s = subst IsFloatText s.0 s.1
spelled_text (StringText text) b s = subst IsStringText s.0 s.1
spelled_text _ b s = tt

pub cut_spelled : {source : List ℕ} {p r : ℕ} {T : List SpannedToken} → CutBetween source p r T
    → AllByRecursion (IsSpelledAtSpan source) T
cut_spelled (nothing p) = tt
cut_spelled (blank p r T l b c) = cut_spelled c
cut_spelled (comment p n r T w c) = cut_spelled c
cut_spelled {source} (spelling p n r t T s e l c) =
    let len : n ≡ t.end - t.start = omega arith in
    let text : take n (drop p source) ≡ slice_range source t.start t.end = ap (λ k. take k (drop p source)) len ∙ ap (λ q. take (t.end - t.start) (drop q source)) (sym s) in
    (subst (Spells t.token) text l.spelled, cut_spelled c)

pub cut_texts : {source : List ℕ} {p r : ℕ} {T : List SpannedToken} → CutBetween source p r T
    → AllByRecursion (λ t. IsTokenText t.token) T
cut_texts (nothing p) = tt
cut_texts (blank p r T l b c) = cut_texts c
cut_texts (comment p n r T w c) = cut_texts c
cut_texts {source} (spelling p n r t T s e l c) = (spelled_text t.token (take n (drop p source)) l.spelled, cut_texts c)

pub words_are_words : (source : List ℕ) (tokens : List SpannedToken) → LexesToSpanned source tokens
    → AllByRecursion (λ t. IsTokenText t.token) tokens
words_are_words source tokens l = cut_texts l

-- a fact of each token of a list with spans is one of each token of the list without them, and the
-- other way round
pub all_values : (P : TokenValue → Type 0) (tokens : List SpannedToken)
    → AllByRecursion (λ t. P t.token) tokens → AllByRecursion P (map (λ t. t.token) tokens)
all_values P [] h = tt
all_values P (t ∷ tokens) h = (h.0, all_values P tokens h.1)

pub all_spans : (P : TokenValue → Type 0) (tokens : List SpannedToken)
    → AllByRecursion P (map (λ t. t.token) tokens) → AllByRecursion (λ t. P t.token) tokens
all_spans P [] h = tt
all_spans P (t ∷ tokens) h = (h.0, all_spans P tokens h.1)

-- ---- A source has one list of tokens.

pub lexed_texts : (source : List ℕ) (tokens : List TokenValue) → LexesTo source tokens
    → AllByRecursion IsTokenText tokens
lexed_texts source tokens l = subst (AllByRecursion IsTokenText) l.2 (all_values IsTokenText l.0 (words_are_words source l.0 l.1))

-- ---- A text of tokens is one that lexes to them, short and with numbers within the limit.

pub text_of_tokens : (limits : Limits) (source : List ℕ) (tokens : List TokenValue)
    → length source ≤ limits.bytes → LexesWithNumbersInLimit source tokens
    → IsTextOfTokensWithin limits source tokens
text_of_tokens limits source tokens h l =
    let lexes = l.lexes in
    let numbers : AllByRecursion IsTokenWithinLimit (map (λ t. t.token) lexes.0) = subst (AllByRecursion IsTokenWithinLimit) (sym lexes.2) l.numbers in
    (lexes.0, record { short = h; lexes = lexes.1; numbers = all_spans IsTokenWithinLimit lexes.0 numbers }, lexes.2)

pub text_lexes : (limits : Limits) (source : List ℕ) (tokens : List TokenValue)
    → IsTextOfTokensWithin limits source tokens → LexesWithNumbersInLimit source tokens
text_lexes limits source tokens h = record {
  lexes = (h.0, h.1.lexes, h.2);
  numbers = subst (AllByRecursion IsTokenWithinLimit) h.2 (all_values IsTokenWithinLimit h.0 h.1.numbers);
}
