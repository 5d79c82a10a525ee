-- What the scanner counts is at least as long as any token's text at the front, and is that text
-- where it is no longer.
use Rattle.std.proofs.Common.{◌≡◌, ◌≢◌, ℕ, ◌+◌, ◌<◌, ◌≤◌, List, [], ◌∷◌, ◌++◌, length, drop, get_or, true, false, eqb, ◌&&◌, ◌||◌, Option, Some, None, option_map, ◌⊎◌, ⊎_elim, inl, inr, refl, sym, ap, ◌∙◌, subst, arith}
use Rattle.std.specs.Prelude.{codes}
use Rattle.std.specs.Char.{is_digit}
use Rattle.std.proofs.lemmas.List.{length-append, append_assoc, get_or_append_left, take_at, drop_at}
use Rattle.std.proofs.lemmas.Bool.{and_parts, ne_eqb, eqb-true, eqb-false, cases_Bool}
use Rattle.std.proofs.lemmas.Bool.Decides.{nat_tests}
use Rattle.std.proofs.Math.Seq.{drop-append-add}
use Rattle.fz_tree.specs.Token.{is_word_byte, AreDigits, number_of, WritesNatural, decimal, hexadecimal, octal, IsExponent, IsUnsignedFloat, pointed, scaled, IsStringRest, closed, plain, escaped}
use Rattle.fz_tree.specs.Scan.{digits_len, fraction_len, signed_digits_len, exponent_len, NumberFront, is_based, based_number, decimal_number, number_front, string_rest_len}
use Rattle.fz_tree.proofs.Runs.{digits_cover, first_digit}
use Rattle.fz_tree.proofs.StringRest.{quote_first, plain_first, escape_first}

-- the first digit is the first byte, whatever follows
pub starts_with_digit : (base : ℕ) (b after : List ℕ) → AreDigits base b
    → is_digit (get_or (b ++ after) 0 0) base ≡ true
starts_with_digit base b after d = rw (get_or_append_left b after 0 0 d.0) (first_digit base b d)

-- a byte that is no digit ends the digits
digits_end : (b tail : List ℕ) → AreDigits 10 b → is_digit (get_or tail 0 0) 10 ≡ false
    → digits_len 10 (b ++ tail) ≡ length b
digits_end b [] d e = digits_cover 10 b [] d ∙ omega arith
digits_end b (c ∷ tail) d e = digits_cover 10 b (c ∷ tail) d ∙ rw e (omega arith)

digit_not_sign : (c : ℕ) → is_digit c 10 ≡ true → (eqb c 43 || eqb c 45) ≡ false
digit_not_sign c h = grind (arith, nat_tests)

-- an exponent at the front
signed_covers : (sign digits after : List ℕ) → (sign ≡ [])
    ⊎ ((sign ≡ codes "+") ⊎ (sign ≡ codes "-")) → AreDigits 10 digits
    → signed_digits_len (sign ++ (digits ++ after))
    ≡ length sign + (length digits + digits_len 10 after)
unfolding signed_digits_len
signed_covers sign digits after s d =
    let digit = starts_with_digit 10 digits after d in
    let count = digits_cover 10 digits after d in
    ⊎_elim
    (λ e. rw e (rw (digit_not_sign (get_or (digits ++ after) 0 0) digit, digit) (omega arith)))
    (⊎_elim (λ e. rw e (rw digit (omega arith))) (λ e. rw e (rw digit (omega arith))))
    s

pub exponent_covers : (exponent after : List ℕ) → IsExponent exponent
    → exponent_len (exponent ++ after) ≡ length exponent + digits_len 10 after
unfolding exponent_len
exponent_covers exponent after e =
    let behind = signed_covers e.sign e.digits after e.is_sign e.are_digits in
    let digits = e.are_digits.0 in
    let some = ne_eqb (signed_digits_len (e.sign ++ (e.digits ++ after))) 0 (λ z. absurd (omega arith)) in
    rw e.is_whole (simp (append_assoc, length-append) (⊎_elim (λ l. rw l (rw some (omega arith))) (λ l. rw l (rw some (omega arith))) e.is_letter))

-- what an exponent begins with
exponent_first : (exponent after : List ℕ) → IsExponent exponent
    → (get_or (exponent ++ after) 0 0 ≡ 101) ⊎ (get_or (exponent ++ after) 0 0 ≡ 69)
exponent_first exponent after e =
    rw e.is_whole (⊎_elim (λ l. inl (rw l refl)) (λ l. inr (rw l refl)) e.is_letter)

exponent_positive : (exponent : List ℕ) → IsExponent exponent → 0 < length exponent
exponent_positive exponent e = rw e.is_whole (⊎_elim (λ l. rw l (omega arith)) (λ l. rw l (omega arith)) e.is_letter)

-- a number doesn't go on in the bytes: neither a byte of a word nor a point with a digit comes
pub record EndsNumber (after : List ℕ) : Type 0 where
  pub no_word : is_word_byte (get_or after 0 0) ≡ false
  pub no_fraction : fraction_len after ≡ 0

no_word_no_digit : (base c : ℕ) → base ≤ 36 → is_word_byte c ≡ false → is_digit c base ≡ false
no_word_no_digit base c h n = grind (arith, nat_tests)

no_more_digits : (base : ℕ) (after : List ℕ) → base ≤ 36 → EndsNumber after
    → digits_len base after ≡ 0
no_more_digits base [] h e = refl
no_more_digits base (c ∷ rest) h e = rw (no_word_no_digit base c h e.no_word) refl

no_word_no_letter : (c : ℕ) → is_word_byte c ≡ false → (eqb c 101 || eqb c 69) ≡ false
no_word_no_letter c n = grind (arith, nat_tests)

no_exponent : (after : List ℕ) → EndsNumber after → exponent_len after ≡ 0
unfolding exponent_len
no_exponent [] e = refl
no_exponent (c ∷ rest) e = rw (no_word_no_letter c e.no_word) refl

-- the number at the front is at least as long as any number's text there, and as long where that
-- ends
pub record NumberCovers (b after : List ℕ) (natural : Option ℕ) (front : NumberFront) : Type 0 where
  pub long : length b ≤ front.len
  pub same : front.len ≡ length b → front.natural ≡ natural
  pub ends : EndsNumber after → front.len ≡ length b

-- digits begin no number in another base, unless they are one digit and a letter follows
not_based : (b : List ℕ) (c letter base : ℕ) (tail : List ℕ) → AreDigits 10 b
    → is_digit letter 10 ≡ false → c ≢ letter → is_based letter base (b ++ (c ∷ tail)) ≡ false
not_based [] c letter base tail d l n = absurd (omega (arith, d.0))
not_based (x ∷ []) c letter base tail d l n = grind (arith, nat_tests)
not_based (x ∷ (y ∷ rest)) c letter base tail d l n = grind (arith, nat_tests)

-- where a number in another base begins, there is only one decimal digit
based_short : (b after : List ℕ) (letter base : ℕ) → AreDigits 10 b → is_digit letter 10 ≡ false
    → is_based letter base (b ++ after) ≡ true → length b ≤ 1
based_short (x ∷ (y ∷ rest)) after letter base d l h = grind (arith, nat_tests)
based_short _ after letter base d l h = omega arith

based_ends : (b after : List ℕ) (letter base : ℕ) → AreDigits 10 b → is_digit letter 10 ≡ false
    → is_word_byte letter ≡ true → is_based letter base (b ++ after) ≡ true → EndsNumber after → ⊥
based_ends [] after letter base d l w h e = omega (arith, d.0)
based_ends (x ∷ []) after letter base d l w h e =
    let tests = and_parts (eqb x 48) (eqb (get_or after 0 0) letter && is_digit (get_or after 1 0) base) h in
    let same = eqb-true (get_or after 0 0) letter (and_parts (eqb (get_or after 0 0) letter) (is_digit (get_or after 1 0) base) tests.1).0 in
    let no_word = rw same at e.no_word in
    cc w
based_ends (x ∷ (y ∷ rest)) after letter base d l w h e =
    let short = based_short (x ∷ (y ∷ rest)) after letter base d l h in
    omega arith

decimal_covers : (b after : List ℕ) → AreDigits 10 b
    → NumberCovers b after (Some (number_of 10 b)) (decimal_number (b ++ after))
decimal_covers b after d =
    let bytes = b ++ after in
    let w = digits_len 10 bytes in
    let p = fraction_len (drop w bytes) in
    let s = exponent_len (drop (w + p) bytes) in
    let count = digits_cover 10 b after d in
    ⊎_elim
    (λ z. rw z (record {
      long = omega arith;
      same = λ e. ap (λ x. Some (number_of 10 x)) (take_at b after w (sym e));
      ends = λ e. let more = no_more_digits 10 after (omega arith) e in omega arith;
    }))
    (λ z.
    let some = eqb-false (p + s) 0 z in
    rw z (record {
      long = omega arith;
      same = λ e. absurd (omega arith);
      ends = λ e.
          let more = no_more_digits 10 after (omega arith) e in
          let w_is : w ≡ length b = omega arith in
          let rest : drop w bytes ≡ after = drop_at b after w (sym w_is) in
          let p_is : p ≡ 0 = ap fraction_len rest ∙ e.no_fraction in
          let rest_p : drop (w + p) bytes ≡ after = drop_at b after (w + p) (omega arith) in
          let s_is : s ≡ 0 = ap exponent_len rest_p ∙ no_exponent after e in
          absurd (omega arith);
    }))
    (cases_Bool (eqb (p + s) 0))

natural_covers_decimal : (b after : List ℕ) → AreDigits 10 b
    → NumberCovers b after (Some (number_of 10 b)) (number_front (b ++ after))
unfolding number_front
natural_covers_decimal b after d =
    ⊎_elim
    (λ t.
    let short = based_short b after 120 16 d refl t in
    rw t (record { long = omega arith; same = λ e. absurd (omega arith); ends = λ e. absurd (based_ends b after 120 16 d refl refl t e) }))
    (λ t. rw t (
    ⊎_elim
    (λ o.
    let short = based_short b after 111 8 d refl o in
    rw o (record { long = omega arith; same = λ e. absurd (omega arith); ends = λ e. absurd (based_ends b after 111 8 d refl refl o e) }))
    (λ o. rw o (decimal_covers b after d))
    (cases_Bool (is_based 111 8 (b ++ after)))))
    (cases_Bool (is_based 120 16 (b ++ after)))

based_covers : (base x y : ℕ) (digits after : List ℕ) → base ≤ 36 → AreDigits base digits
    → NumberCovers (x ∷ (y ∷ digits)) after (Some (number_of base digits))
    (based_number base (x ∷ (y ∷ (digits ++ after))))
based_covers base x y digits after h d =
    let count = digits_cover base digits after d in
    record {
      long = omega arith;
      same = λ e. ap (λ z. Some (number_of base z)) (take_at digits after _ (omega arith));
      ends = λ e. let more = no_more_digits base after h e in omega arith;
    }

hexadecimal_covers : (digits after : List ℕ) → AreDigits 16 digits
    → NumberCovers (codes "0x" ++ digits) after (Some (number_of 16 digits))
    (number_front ((codes "0x" ++ digits) ++ after))
unfolding number_front
hexadecimal_covers digits after d = rw (starts_with_digit 16 digits after d) (based_covers 16 48 120 digits after (omega arith) d)

octal_covers : (digits after : List ℕ) → AreDigits 8 digits
    → NumberCovers (codes "0o" ++ digits) after (Some (number_of 8 digits))
    (number_front ((codes "0o" ++ digits) ++ after))
unfolding number_front
octal_covers digits after d = rw (starts_with_digit 8 digits after d) (based_covers 8 48 111 digits after (omega arith) d)

pub natural_covers : (b after : List ℕ) (n : ℕ) → WritesNatural b n
    → NumberCovers b after (Some n) (number_front (b ++ after))
natural_covers b after n (decimal d e) = rw e (natural_covers_decimal b after d)
natural_covers b after n (hexadecimal digits t d e) = rw (e, t) (hexadecimal_covers digits after d)
natural_covers b after n (octal digits t d e) = rw (e, t) (octal_covers digits after d)

-- a float at the front: what the digits before the point or the exponent leave
tail_number : (before : List ℕ) (c : ℕ) (tail : List ℕ) → AreDigits 10 before
    → is_digit c 10 ≡ false → c ≢ 120 → c ≢ 111
    → number_front (before ++ (c ∷ tail)) ≡ decimal_number (before ++ (c ∷ tail))
unfolding number_front
tail_number before c tail d n x o =
    rw (not_based before c 120 16 tail d refl x, not_based before c 111 8 tail d refl o) refl

-- what is read behind the digits of a number
behind_digits : (before : List ℕ) (c : ℕ) (tail : List ℕ) → AreDigits 10 before
    → is_digit c 10 ≡ false → c ≢ 120 → c ≢ 111 → 0 < fraction_len (c ∷ tail) + exponent_len
    (drop (fraction_len (c ∷ tail)) (c ∷ tail)) → (length before + fraction_len
    (c ∷ tail) + exponent_len (drop (fraction_len (c ∷ tail)) (c ∷ tail))
    ≡ (number_front (before ++ (c ∷ tail))).len)
    × ((number_front (before ++ (c ∷ tail))).natural ≡ None)
behind_digits before c tail d n x o some =
    let rest = c ∷ tail in
    let w_is = digits_end before rest d n in
    let rest_is : drop (length before) (before ++ rest) ≡ rest = drop_at before rest (length before) refl in
    let p = fraction_len rest in
    let rest_p : drop (length before + p) (before ++ rest) ≡ drop p rest = drop-append-add before rest p in
    let not_whole = ne_eqb (p + exponent_len (drop p rest)) 0 (λ z. absurd (omega arith)) in
    rw (tail_number before c tail d n x o, w_is, rest_is, rest_p, not_whole) (omega arith, refl)

no_digits : (xs : List ℕ) → is_digit (get_or xs 0 0) 10 ≡ false → digits_len 10 xs ≡ 0
no_digits [] e = refl
no_digits (x ∷ xs) e = rw e refl

fraction_value : (digits rest : List ℕ) → AreDigits 10 digits
    → fraction_len (46 ∷ (digits ++ rest)) ≡ 1 + (length digits + digits_len 10 rest)
unfolding fraction_len
fraction_value digits rest d = rw (starts_with_digit 10 digits rest d) (ap (λ n. 1 + n) (digits_cover 10 digits rest d))

exponent_no_digit : (exponent after : List ℕ) → IsExponent exponent
    → is_digit (get_or (exponent ++ after) 0 0) 10 ≡ false
exponent_no_digit exponent after e =
    ⊎_elim (λ f. rw f refl) (λ f. rw f refl) (exponent_first exponent after e)

pub fraction_of_byte : (c : ℕ) (tail : List ℕ) → c ≢ 46 → fraction_len (c ∷ tail) ≡ 0
unfolding fraction_len
fraction_of_byte c tail n = rw (ne_eqb c 46 n) refl

pointed_covers : (before digits exponent after : List ℕ) → AreDigits 10 before → AreDigits 10 digits
    → (exponent ≡ []) ⊎ IsExponent exponent → NumberCovers
    (before ++ (codes "." ++ (digits ++ exponent))) after None
    (number_front (before ++ (46 ∷ (digits ++ (exponent ++ after)))))
pointed_covers before digits exponent after d f e =
    let tail = digits ++ (exponent ++ after) in
    let front = number_front (before ++ (46 ∷ tail)) in
    let value = fraction_value digits (exponent ++ after) f in
    let behind = behind_digits before 46 tail d refl (λ e. absurd (omega arith)) (λ e. absurd (omega arith)) (omega arith) in
    let len : length (before ++ (codes "." ++ (digits ++ exponent))) ≡ length before + (1 + (length digits + length exponent)) = simp length-append (omega arith) in
    let long_and_ends : (length before + (1 + (length digits + length exponent)) ≤ front.len) × (EndsNumber after → front.len ≡ length before + (1 + (length digits + length exponent))) =
    ⊎_elim
    (λ z. (
      (let none_there : length exponent ≡ 0 = ap length z in let least = behind.0 in omega arith),
      (λ n.
          let more = no_more_digits 10 after (omega arith) n in
          let none_there : length exponent ≡ 0 = ap length z in
          let behind_exponent : exponent ++ after ≡ after = ap (λ x. x ++ after) z in
          let no_more : digits_len 10 (exponent ++ after) ≡ 0 = ap (digits_len 10) behind_exponent ∙ more in
          let rest : drop (fraction_len (46 ∷ tail)) (46 ∷ tail) ≡ exponent ++ after = drop_at (46 ∷ digits) (exponent ++ after) _ (omega arith) in
          let scale : exponent_len (drop (fraction_len (46 ∷ tail)) (46 ∷ tail)) ≡ 0 = ap exponent_len (rest ∙ behind_exponent) ∙ no_exponent after n in
          let least = behind.0 in
          omega arith),
    ))
    (λ x.
    let none_more = no_digits (exponent ++ after) (exponent_no_digit exponent after x) in
    let rest : drop (fraction_len (46 ∷ tail)) (46 ∷ tail) ≡ exponent ++ after = drop_at (46 ∷ digits) (exponent ++ after) _ (omega arith) in
    let scale = exponent_covers exponent after x in
    let least = rw rest at behind.0 in
    (omega arith, λ n. let more = no_more_digits 10 after (omega arith) n in omega arith))
    e in
    record {
      long = omega (arith, len, long_and_ends.0);
      same = λ _. behind.1;
      ends = λ n. long_and_ends.1 n ∙ sym len;
    }

scaled_covers : (before exponent after : List ℕ) → AreDigits 10 before → IsExponent exponent
    → NumberCovers (before ++ exponent) after None (number_front (before ++ (exponent ++ after)))
scaled_covers before [] after d e = absurd (let p = exponent_positive [] e in omega arith)
scaled_covers before (c ∷ cs) after d e =
    let first = exponent_first (c ∷ cs) after e in
    let no_digit = exponent_no_digit (c ∷ cs) after e in
    let not_point : c ≢ 46 = λ z. absurd (⊎_elim (λ f. omega arith) (λ f. omega arith) first) in
    let not_x : c ≢ 120 = λ z. absurd (⊎_elim (λ f. omega arith) (λ f. omega arith) first) in
    let not_o : c ≢ 111 = λ z. absurd (⊎_elim (λ f. omega arith) (λ f. omega arith) first) in
    let zero_there = fraction_of_byte c (cs ++ after) not_point in
    let scale = exponent_covers (c ∷ cs) after e in
    let positive = exponent_positive (c ∷ cs) e in
    let len = length-append before (c ∷ cs) in
    let same_rest : drop (fraction_len (c ∷ (cs ++ after))) (c ∷ (cs ++ after)) ≡ c ∷ (cs ++ after) = ap (λ n. drop n (c ∷ (cs ++ after))) zero_there in
    let same_scale : exponent_len (drop (fraction_len (c ∷ (cs ++ after))) (c ∷ (cs ++ after))) ≡ exponent_len (c ∷ (cs ++ after)) = ap exponent_len same_rest in
    let behind = behind_digits before c (cs ++ after) d no_digit not_x not_o (omega arith) in
    let least = behind.0 in
    record {
      long = omega arith;
      same = λ _. behind.1;
      ends = λ n. let more = no_more_digits 10 after (omega arith) n in omega arith;
    }

pub float_covers : (b after : List ℕ) → IsUnsignedFloat b
    → NumberCovers b after None (number_front (b ++ after))
float_covers b after (pointed before digits exponent t d f e) =
    let split : b ++ after ≡ before ++ (46 ∷ (digits ++ (exponent ++ after))) = ap (λ x. x ++ after) t ∙ (append_assoc before (codes "." ++ (digits ++ exponent)) after ∙ ap (λ x. before ++ (46 ∷ x)) (append_assoc digits exponent after)) in
    let covers = pointed_covers before digits exponent after d f e in
    subst (λ x. NumberCovers b after None (number_front x)) (sym split) (subst (λ x. NumberCovers x after None (number_front (before ++ (46 ∷ (digits ++ (exponent ++ after)))))) (sym t) covers)
float_covers b after (scaled before exponent t d e) =
    let split : b ++ after ≡ before ++ (exponent ++ after) = ap (λ x. x ++ after) t ∙ append_assoc before exponent after in
    let covers = scaled_covers before exponent after d e in
    subst (λ x. NumberCovers b after None (number_front x)) (sym split) (subst (λ x. NumberCovers x after None (number_front (before ++ (exponent ++ after)))) (sym t) covers)

-- a number begins with a digit
pub natural_digit : (b after : List ℕ) (n : ℕ) → WritesNatural b n
    → is_digit (get_or (b ++ after) 0 0) 10 ≡ true
natural_digit b after n (decimal d e) = starts_with_digit 10 b after d
natural_digit b after n (hexadecimal digits t d e) = rw t refl
natural_digit b after n (octal digits t d e) = rw t refl

pub float_digit : (b after : List ℕ) → IsUnsignedFloat b
    → is_digit (get_or (b ++ after) 0 0) 10 ≡ true
float_digit b after (pointed before digits exponent t d f e) = subst (λ x. is_digit (get_or x 0 0) 10 ≡ true) (sym (ap (λ x. x ++ after) t ∙ append_assoc before _ after)) (starts_with_digit 10 before _ d)
float_digit b after (scaled before exponent t d e) = subst (λ x. is_digit (get_or x 0 0) 10 ≡ true) (sym (ap (λ x. x ++ after) t ∙ append_assoc before _ after)) (starts_with_digit 10 before _ d)

-- the rest of a string at the front is all that is read of it
pub string_covers : {rest : List ℕ} (after : List ℕ) → IsStringRest rest
    → string_rest_len (rest ++ after) ≡ Some (length rest)
string_covers after (closed b e) = quote_first b after e
string_covers after (plain b rest q s l k) =
    plain_first b (rest ++ after) q l s ∙ (ap (option_map (λ n. 1 + n)) (string_covers after k) ∙ ap Some (omega arith))
string_covers after (escaped b c rest e l k) =
    escape_first b c (rest ++ after) e l ∙ (ap (option_map (λ n. 2 + n)) (string_covers after k) ∙ ap Some (omega arith))
