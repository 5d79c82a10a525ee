use Rattle.std.proofs.Common.{◌≡◌, ℕ, ◌<◌, ◌≤◌, Bool, cond, eqb, List, [], ◌∷◌, length, get_or, reverse, refl, sym, ap, ◌∙◌, arith}
use Rattle.std.proofs.lemmas.Bool.{eq-eqb, ne_eqb}
use Rattle.fz_stream.specs.declared.line.LineKind.TheVariants.{Blank, Comment}
use Rattle.fz_stream.specs.Parts.{skip_blanks, kind_of_words, kind_of_trimmed, kind_of}
use Rattle.fz_stream.proofs.line.line_kind.Goals as goal

no_words : (words : List ℕ) → length words < 1 → Blank ≡ kind_of_trimmed words
no_words [] l = refl
no_words (b ∷ words) l = absurd (omega (arith, l))

by_first : (words : List ℕ) → 1 ≤ length words
    → kind_of_trimmed words ≡ cond (eqb (get_or words 0 0) 37) Comment (kind_of_words words)
by_first [] l = absurd (omega (arith, l))
by_first (b ∷ words) l = refl

module _ (line front words : List ℕ) (is : front ≡ skip_blanks line) (cut : words ≡ reverse (skip_blanks (reverse front))) where
  of_words : kind_of_trimmed words ≡ kind_of line
  unfolding kind_of
  of_words = ap kind_of_trimmed (cut ∙ ap (λ (xs : List ℕ). reverse (skip_blanks (reverse xs))) is)

  choose : {b : Bool} → 1 ≤ length words → eqb (get_or words 0 0) 37 ≡ b
      → cond b Comment (kind_of_words words) ≡ kind_of line
  choose {b} l e = ap (λ t. cond t Comment (kind_of_words words)) (sym e) ∙ sym (by_first words l) ∙ of_words

pub returns-in-empty : goal.returns-in-empty
returns-in-empty c = no_words _ c.in-empty.len_below ∙ of_words _ _ _ c.after_blanks.ensures c.before_blanks-words.ensures

pub returns-then-first-eq37 : goal.returns-then-first-eq37
returns-then-first-eq37 c = choose _ _ _ c.after_blanks.ensures c.before_blanks-words.ensures c.in-len1-up.len_at_least (eq-eqb _ 37 c.if-first-eq37.true)

pub returns-else-first-eq37 : goal.returns-else-first-eq37
returns-else-first-eq37 c = c.kind_by_words.ensures ∙ choose _ _ _ c.after_blanks.ensures c.before_blanks-words.ensures c.in-len1-up.len_at_least (ne_eqb _ 37 c.if-first-eq37.false)
