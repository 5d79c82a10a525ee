-- A number that shows as whole and decimal from its digits and the byte behind them.
use Rattle.std.proofs.Common.{◌≡◌, ◌≢◌, ℕ, ◌+◌, ◌^◌, ◌<◌, ◌≤◌, ℤ, pos, neg_ℤ, List, [], ◌∷◌, drop, get_or, true, false, Some, refl, ap, ◌∙◌, arith}
use Rattle.std.specs.Char.{is_digit}
use Rattle.std.proofs.lemmas.Bool.{ne_eqb}
use Rattle.std.proofs.lemmas.Bool.Decides.{nat_tests}
use Rattle.std.proofs.lemmas.Int.{ints}
use Rattle.fz_tree.specs.Token.{Whole}
use Rattle.fz_tree.specs.Lexing.{IsWithinLimit}
use Rattle.fz_tree.specs.Scan.{found, front_of, digits_len, leading_number, fraction_len, exponent_len, is_based, decimal_number, number_front}
use Rattle.fz_tree.proofs.Cuts.{at_place}
use Rattle.fz_tree.proofs.Fronts.{decimal_digit, digit_no_word_start, front_natural, front_negative}

-- no number in another base begins where no letter of a base comes after the digits
no_base : (bytes : List ℕ) (letter base : ℕ) → is_digit letter 10 ≡ false → 0 < letter
    → get_or bytes (digits_len 10 bytes) 0 ≢ letter → is_based letter base bytes ≡ false
no_base [] letter base l p n = refl
no_base (x ∷ []) letter base l p n = grind (arith, nat_tests)
no_base (x ∷ (y ∷ rest)) letter base l p n =
    let one : x ≡ 48 → y ≡ letter → digits_len 10 (x ∷ (y ∷ rest)) ≡ 1 = λ e f. let no : is_digit y 10 ≡ false = rw f l in rw (e, no) (omega arith) in
    let behind : x ≡ 48 → y ≡ letter → ⊥ = λ e f. n (ap (λ k. get_or (x ∷ (y ∷ rest)) k 0) (one e f) ∙ f) in
    grind (arith, nat_tests)

no_fraction : (bytes : List ℕ) (place : ℕ) → get_or bytes place 0 ≢ 46
    → fraction_len (drop place bytes) ≡ 0
unfolding fraction_len
no_fraction bytes place n = rw (at_place bytes place, ne_eqb (get_or bytes place 0) 46 n) refl

no_exponent : (bytes : List ℕ) (place : ℕ) → get_or bytes place 0 ≢ 101 → get_or bytes place 0 ≢ 69
    → exponent_len (drop place bytes) ≡ 0
unfolding exponent_len
no_exponent bytes place n m = rw (at_place bytes place, ne_eqb (get_or bytes place 0) 101 n, ne_eqb (get_or bytes place 0) 69 m) refl

decimal_alone : (bytes : List ℕ) → fraction_len (drop (digits_len 10 bytes) bytes) ≡ 0 → exponent_len (drop (digits_len 10 bytes + fraction_len (drop (digits_len 10 bytes) bytes)) bytes) ≡ 0 → decimal_number bytes ≡ record { natural = Some (leading_number 10 bytes); len = digits_len 10 bytes }
decimal_alone bytes f e = rw (e, f) refl

-- The byte after the digits decides that they are the integer.
pub digits_are_number : (bytes : List ℕ) → get_or bytes (digits_len 10 bytes) 0 ≢ 46 → get_or bytes (digits_len 10 bytes) 0 ≢ 101 → get_or bytes (digits_len 10 bytes) 0 ≢ 69 → get_or bytes (digits_len 10 bytes) 0 ≢ 120 → get_or bytes (digits_len 10 bytes) 0 ≢ 111 → number_front bytes ≡ record { natural = Some (leading_number 10 bytes); len = digits_len 10 bytes }
unfolding number_front
digits_are_number bytes point small_e large_e x o =
    let f = no_fraction bytes (digits_len 10 bytes) point in
    let place : digits_len 10 bytes + fraction_len (drop (digits_len 10 bytes) bytes) ≡ digits_len 10 bytes = omega arith in
    let e = ap (λ n. exponent_len (drop n bytes)) place ∙ no_exponent bytes (digits_len 10 bytes) small_e large_e in
    let hexadecimal = no_base bytes 120 16 refl (omega arith) x in
    let octal = no_base bytes 111 8 refl (omega arith) o in
    rw (hexadecimal, octal) (decimal_alone bytes f e)

-- The same of what the code counts.
pub short_is : (bytes : List ℕ) (n v b : ℕ) → n ≡ digits_len 10 bytes → v ≡ leading_number 10 bytes → b ≡ get_or bytes n 0 → (b ≢ 46) × (b ≢ 101) × (b ≢ 69) × (b ≢ 120) × (b ≢ 111) → number_front bytes ≡ record { natural = Some v; len = n }
short_is bytes n v b len value byte none =
    let at : b ≡ get_or bytes (digits_len 10 bytes) 0 = byte ∙ ap (λ k. get_or bytes k 0) len in
    rw (len, value) (digits_are_number bytes (λ e. none.0 (at ∙ e)) (λ e. none.1 (at ∙ e)) (λ e. none.2 (at ∙ e)) (λ e. none.3 (at ∙ e)) (λ e. none.4 (at ∙ e)))

-- What is at the front is the number, where its first byte is a digit.
pub whole_front : (bytes : List ℕ) (n v : ℕ) (z : ℤ) → 48 ≤ get_or bytes 0 0 → get_or bytes 0 0 < 58 → number_front bytes ≡ record { natural = Some v; len = n } → v < 2 ^ 63 → z ≡ pos v → (front_of bytes ≡ found (Whole z) n) × IsWithinLimit z
whole_front bytes n v z low high is small value =
    let front = front_natural bytes (digit_no_word_start (get_or bytes 0 0) low high) (decimal_digit (get_or bytes 0 0) low high) in
    rw value (rw is at front, (omega (arith, ints), omega (arith, ints)))

-- The same behind a minus.
pub whole_front_negative : (bytes : List ℕ) (n v : ℕ) (z : ℤ) → get_or bytes 0 0 ≡ 45 → is_digit (get_or bytes 1 0) 10 ≡ true → number_front (drop 1 bytes) ≡ record { natural = Some v; len = n } → v < 2 ^ 63 → z ≡ neg_ℤ (pos v) → (front_of bytes ≡ found (Whole z) (1 + n)) × IsWithinLimit z
whole_front_negative bytes n v z minus digit is small value =
    let front = front_negative bytes minus digit in
    rw value (rw is at front, (omega (arith, ints), omega (arith, ints)))
