-- What `front_of` gives, by the first byte.
use Rattle.std.proofs.Common.{◌≡◌, ℕ, ◌+◌, ◌<◌, ◌≤◌, List, take, drop, get_or, true, false, ◌⊎◌, ⊎_elim, refl, ap, ◌∙◌, inr, arith}
use Rattle.std.proofs.lemmas.Bool.Decides.{nat_tests}
use Rattle.std.specs.Char.{is_digit}
use Rattle.std.specs.List.{prefix_len}
use Rattle.fz_tree.specs.Token.{is_blank, is_word_start, is_word_byte, Word, Marked}
use Rattle.fz_tree.specs.Scan.{front_of, mark_front, number_front, number_token, found, none}
use Rattle.fz_tree.specs.declared.token.Mark.TheVariants.{Comma}

pub decimal_digit : (b : ℕ) → 48 ≤ b → b < 58 → is_digit b 10 ≡ true
decimal_digit b l h = grind (arith, nat_tests)

pub digit_no_word_start : (b : ℕ) → 48 ≤ b → b < 58 → is_word_start b ≡ false
digit_no_word_start b l h = grind (arith, nat_tests)

pub front_natural : (bytes : List ℕ) → is_word_start (get_or bytes 0 0) ≡ false
    → is_digit (get_or bytes 0 0) 10 ≡ true → front_of bytes
    ≡ number_token false (number_front bytes).len bytes (number_front bytes).natural
unfolding front_of
front_natural bytes w d = rw (w, d) (ap (λ n. number_token false n bytes (number_front bytes).natural) (omega arith))

pub front_negative : (bytes : List ℕ) → get_or bytes 0 0 ≡ 45
    → is_digit (get_or bytes 1 0) 10 ≡ true → front_of bytes
    ≡ number_token true (1 + (number_front (drop 1 bytes)).len) bytes
    (number_front (drop 1 bytes)).natural
unfolding front_of
front_negative bytes e d = rw (e, d) refl

byte_none : (bytes : List ℕ) (b : ℕ) → get_or bytes 0 0 ≡ b
    → (b ≡ 32) ⊎ ((b ≡ 9) ⊎ ((b ≡ 13) ⊎ ((b ≡ 10) ⊎ (b ≡ 37)))) → front_of bytes ≡ none
unfolding front_of mark_front
byte_none bytes b e h =
    let byte_is : (n : ℕ) → b ≡ n → get_or bytes 0 0 ≡ n = λ n f. e ∙ f in
    ⊎_elim (λ f. rw (byte_is 32 f) refl)
    (⊎_elim (λ f. rw (byte_is 9 f) refl)
    (⊎_elim (λ f. rw (byte_is 13 f) refl)
    (⊎_elim (λ f. rw (byte_is 10 f) refl) (λ f. rw (byte_is 37 f) refl)))) h

blank_cases : (b : ℕ) → is_blank b ≡ true
    → (b ≡ 32) ⊎ ((b ≡ 9) ⊎ ((b ≡ 13) ⊎ ((b ≡ 10) ⊎ (b ≡ 37))))
blank_cases b h = grind (arith, nat_tests)

-- where a blank or a comment begins, no token is found
pub blank_none : (bytes : List ℕ) → is_blank (get_or bytes 0 0) ≡ true → front_of bytes ≡ none
blank_none bytes h = byte_none bytes (get_or bytes 0 0) refl (blank_cases (get_or bytes 0 0) h)

pub comment_none : (bytes : List ℕ) → get_or bytes 0 0 ≡ 37 → front_of bytes ≡ none
comment_none bytes h = byte_none bytes 37 h (inr (inr (inr (inr refl))))

-- a comma
pub comma_front : (bytes : List ℕ) → get_or bytes 0 0 ≡ 44
    → front_of bytes ≡ found (Marked Comma) 1
unfolding front_of mark_front
comma_front bytes e = rw e refl

-- a word
pub word_front : (bytes : List ℕ) (n : ℕ) → is_word_start (get_or bytes 0 0) ≡ true
    → n ≡ prefix_len is_word_byte bytes → front_of bytes ≡ found (Word (take n bytes)) n
unfolding front_of
word_front bytes n w e = rw (e, w) refl
