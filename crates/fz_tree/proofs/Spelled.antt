-- What the scanner counts is a text of what it finds.
use Rattle.std.proofs.Common.{◌≡◌, ◌≢◌, ℕ, suc, ◌+◌, ◌<◌, ◌≤◌, List, [], ◌∷◌, ◌++◌, length, take, drop, get_or, true, cond, eqb, ◌&&◌, ◌||◌, Option, Some, None, option_map, ◌⊎◌, ⊎_elim, inl, inr, refl, sym, ap, ◌∙◌, subst, arith, one-add}
use Rattle.std.specs.Prelude.{codes, IfSome}
use Rattle.std.specs.Char.{is_digit}
use Rattle.std.proofs.lemmas.List.{length-drop, length-append, append_assoc}
use Rattle.std.proofs.lemmas.List.Sums.{prefix_len-le-length}
use Rattle.std.proofs.lemmas.Bool.{and_parts, or_cases, eqb-true, eqb-false, cases_Bool, cases_eq, cond_both}
use Rattle.std.proofs.Math.Seq.{take-add, take-append-add}
use Rattle.std.proofs.Math.Nat.{zero-add}
use Rattle.fz_tree.specs.Token.{AreDigits, WritesNatural, decimal, hexadecimal, octal, IsExponent, IsUnsignedFloat, pointed, scaled, IsStringRest, closed, plain, escaped, mark_text}
use Rattle.fz_tree.specs.Scan.{digits_len, fraction_len, signed_digits_len, exponent_len, NumberFront, is_based, decimal_number, number_front, string_rest_len, mark_front}
use Rattle.fz_tree.specs.declared.token.Mark.{Mark}
use Rattle.fz_tree.specs.declared.token.Mark.TheVariants.{OpenParen, CloseParen, OpenBracket, CloseBracket, OpenBrace, CloseBrace, Comma, Semicolon, Colon, ColonColon, Equals, DotDot}
use Rattle.fz_tree.proofs.Runs.{digits_front, digits_positive}

pub take_one_more : (n x : ℕ) (xs : List ℕ) → take (1 + n) (x ∷ xs) ≡ x ∷ take n xs
take_one_more n x xs = rw one-add refl

pub take_two_more : (n x y : ℕ) (xs : List ℕ) → take (2 + n) (x ∷ (y ∷ xs)) ≡ x ∷ (y ∷ take n xs)
take_two_more n x y xs = rw (let e : 2 + n ≡ suc (suc n) = omega arith in e) refl

-- the first n bytes are a point and digits, unless n is 0
pub record FractionAt (xs : List ℕ) (n : ℕ) : Type 0 where
  pub within : n ≤ length xs
  pub text : 0 < n → (digits : List ℕ) × (take n xs ≡ codes "." ++ digits) × AreDigits 10 digits

pub fraction_at : (xs : List ℕ) → FractionAt xs (fraction_len xs)
unfolding fraction_len
fraction_at [] = record { within = omega arith; text = λ h. absurd (omega arith) }
fraction_at (a ∷ rest) =
    ⊎_elim
    (λ t.
    let parts = and_parts (eqb a 46) (is_digit (get_or rest 0 0) 10) t in
    let point = eqb-true a 46 parts.0 in
    let l = prefix_len-le-length (λ b. is_digit b 10) rest in
    let positive = digits_positive 10 rest (omega arith) parts.1 in
    rw t (record {
      within = omega arith;
      text = λ h. (take (digits_len 10 rest) rest, take_one_more _ a rest ∙ ap (λ x. x ∷ take (digits_len 10 rest) rest) point, digits_front 10 rest positive);
    }))
    (λ t. rw t (record { within = omega arith; text = λ h. absurd (omega arith) }))
    (cases_Bool (eqb a 46 && is_digit (get_or rest 0 0) 10))

-- the first n bytes are an optional sign and digits, unless n is 0
pub record SignedAt (xs : List ℕ) (n : ℕ) : Type 0 where
  pub within : n ≤ length xs
  pub text : 0 < n → (sign digits : List ℕ) × (take n xs ≡ sign ++ digits)
      × ((sign ≡ []) ⊎ ((sign ≡ codes "+") ⊎ (sign ≡ codes "-"))) × AreDigits 10 digits

none_signed : (xs : List ℕ) → SignedAt xs 0
none_signed xs = record { within = omega arith; text = λ h. absurd (omega arith) }

sign_cases : (c : ℕ) → (eqb c 43 || eqb c 45) ≡ true
    → ((c ∷ []) ≡ codes "+") ⊎ ((c ∷ []) ≡ codes "-")
sign_cases c t = ⊎_elim (λ h. inl (ap (λ x. x ∷ []) (eqb-true c 43 h))) (λ h. inr (ap (λ x. x ∷ []) (eqb-true c 45 h))) (or_cases _ _ t)

pub signed_at : (xs : List ℕ) → SignedAt xs (signed_digits_len xs)
unfolding signed_digits_len
signed_at [] = none_signed []
signed_at (c ∷ cs) =
    let rest_within = prefix_len-le-length (λ b. is_digit b 10) cs in
    let within = prefix_len-le-length (λ b. is_digit b 10) (c ∷ cs) in
    ⊎_elim
    (λ t. rw t (
    ⊎_elim
    (λ d.
    let positive = digits_positive 10 cs (omega arith) d in
    rw d (record {
      within = omega arith;
      text = λ h. (c ∷ [], take (digits_len 10 cs) cs, take_one_more _ c cs, inr (sign_cases c t), digits_front 10 cs positive);
    }))
    (λ d. rw d (none_signed (c ∷ cs)))
    (cases_Bool (is_digit (get_or cs 0 0) 10))))
    (λ t. rw t (
    ⊎_elim
    (λ d.
    let positive = digits_positive 10 (c ∷ cs) (omega arith) d in
    let at : SignedAt (c ∷ cs) (digits_len 10 (c ∷ cs)) = record {
      within = within;
      text = λ h. ([], take (digits_len 10 (c ∷ cs)) (c ∷ cs), refl, inl refl, digits_front 10 (c ∷ cs) positive);
    } in
    rw (d, zero-add) (rw d at at))
    (λ d. rw d (none_signed (c ∷ cs)))
    (cases_Bool (is_digit c 10))))
    (cases_Bool (eqb c 43 || eqb c 45))

-- the first n bytes are an exponent, unless n is 0
pub record ExponentAt (xs : List ℕ) (n : ℕ) : Type 0 where
  pub within : n ≤ length xs
  pub text : 0 < n → IsExponent (take n xs)

none_exponent : (xs : List ℕ) → ExponentAt xs 0
none_exponent xs = record { within = omega arith; text = λ h. absurd (omega arith) }

letter_cases : (c : ℕ) → (eqb c 101 || eqb c 69) ≡ true
    → ((c ∷ []) ≡ codes "e") ⊎ ((c ∷ []) ≡ codes "E")
letter_cases c t = ⊎_elim (λ h. inl (ap (λ x. x ∷ []) (eqb-true c 101 h))) (λ h. inr (ap (λ x. x ∷ []) (eqb-true c 69 h))) (or_cases _ _ t)

pub exponent_at : (xs : List ℕ) → ExponentAt xs (exponent_len xs)
unfolding exponent_len
exponent_at [] = none_exponent []
exponent_at (a ∷ rest) =
    ⊎_elim
    (λ t. rw t (
    ⊎_elim
    (λ z. rw z (none_exponent (a ∷ rest)))
    (λ z.
    let at = signed_at rest in
    let some : signed_digits_len rest ≢ 0 = eqb-false (signed_digits_len rest) 0 z in
    let text = at.text (omega arith) in
    let within = at.within in
    rw z (record {
      within = omega arith;
      text = λ h. record {
        letter = a ∷ [];
        sign = text.0;
        digits = text.1;
        is_whole = take_one_more _ a rest ∙ ap (λ x. a ∷ x) text.2;
        is_letter = letter_cases a t;
        is_sign = text.3;
        are_digits = text.4;
      };
    }))
    (cases_Bool (eqb (signed_digits_len rest) 0))))
    (λ t. rw t (none_exponent (a ∷ rest)))
    (cases_Bool (eqb a 101 || eqb a 69))

-- the bytes write the natural, or are a float where there is none
abbrev pub NumberText : Option ℕ → List ℕ → Type 0
NumberText (Some n) bytes = WritesNatural bytes n
NumberText None bytes = IsUnsignedFloat bytes

-- the number is as its front says
pub record NumberAt (bytes : List ℕ) (front : NumberFront) : Type 0 where
  pub positive : 0 < front.len
  pub within : front.len ≤ length bytes
  pub text : NumberText front.natural (take front.len bytes)

pub record BasedAt (letter base : ℕ) (bytes : List ℕ) : Type 0 where
  pub within : 2 + digits_len base (drop 2 bytes) ≤ length bytes
  pub text : take (2 + digits_len base (drop 2 bytes)) bytes
      ≡ 48 ∷ (letter ∷ take (digits_len base (drop 2 bytes)) (drop 2 bytes))
  pub digits : AreDigits base (take (digits_len base (drop 2 bytes)) (drop 2 bytes))

based_at : (letter base : ℕ) (bytes : List ℕ) → 0 < letter → base ≤ 36
    → is_based letter base bytes ≡ true → BasedAt letter base bytes
based_at letter base [] l h e = cc e
based_at letter base (a ∷ []) l h e = absurd (let parts = and_parts (eqb a 48) (eqb 0 letter && is_digit 0 base) e in let z = eqb-true 0 letter (and_parts (eqb 0 letter) (is_digit 0 base) parts.1).0 in omega arith)
based_at letter base (a ∷ (b ∷ rest)) l h e =
    let parts = and_parts (eqb a 48) (eqb b letter && is_digit (get_or rest 0 0) base) e in
    let more = and_parts (eqb b letter) (is_digit (get_or rest 0 0) base) parts.1 in
    let a_is = eqb-true a 48 parts.0 in
    let b_is = eqb-true b letter more.0 in
    let positive = digits_positive base rest h more.1 in
    let shorter = prefix_len-le-length (λ x. is_digit x base) rest in
    record {
      within = omega arith;
      text = take_two_more _ a b rest ∙ (ap (λ x. x ∷ (b ∷ take (digits_len base rest) rest)) a_is ∙ ap (λ x. 48 ∷ (x ∷ take (digits_len base rest) rest)) b_is);
      digits = digits_front base rest positive;
    }

float_at : (bytes : List ℕ) (w p s : ℕ) → AreDigits 10 (take w bytes) → FractionAt (drop w bytes) p
    → ExponentAt (drop (w + p) bytes) s → p + s ≢ 0 → IsUnsignedFloat (take (w + p + s) bytes)
float_at bytes w p s d f e some =
    ⊎_elim
    (λ z.
    let none_there : take (w + p) bytes ≡ take w bytes = ap (λ n. take n bytes) (omega arith) in
    let positive : 0 < s = omega arith in
    scaled (take w bytes) (take s (drop (w + p) bytes)) (take-add (w + p) s bytes ∙ ap (λ x. x ++ take s (drop (w + p) bytes)) none_there) d (e.text positive))
    (λ z.
    let text = f.text (omega arith) in
    let exponent = take s (drop (w + p) bytes) in
    let before : take (w + p) bytes ≡ take w bytes ++ (codes "." ++ text.0) = take-add w p bytes ∙ ap (λ x. take w bytes ++ x) text.1 in
    let whole : take (w + p + s) bytes ≡ take w bytes ++ (codes "." ++ (text.0 ++ exponent)) = take-add (w + p) s bytes ∙ (ap (λ x. x ++ exponent) before ∙ append_assoc (take w bytes) (codes "." ++ text.0) exponent) in
    pointed (take w bytes) text.0 exponent whole d text.2
    (⊎_elim (λ n. inl (ap (λ k. take k (drop (w + p) bytes)) n)) (λ n. inr (e.text (omega arith))) (cases_eq s 0)))
    (cases_eq p 0)

decimal_at : (bytes : List ℕ) → is_digit (get_or bytes 0 0) 10 ≡ true
    → NumberAt bytes (decimal_number bytes)
decimal_at bytes h =
    let w = digits_len 10 bytes in
    let p = fraction_len (drop w bytes) in
    let s = exponent_len (drop (w + p) bytes) in
    let positive = digits_positive 10 bytes (omega arith) h in
    let digits = digits_front 10 bytes positive in
    let shorter = prefix_len-le-length (λ x. is_digit x 10) bytes in
    let f = fraction_at (drop w bytes) in
    let e = exponent_at (drop (w + p) bytes) in
    let point_within = f.within in
    let scale_within = e.within in
    let left = length-drop w bytes in
    let left_more = length-drop (w + p) bytes in
    ⊎_elim
    (λ z. rw z (record { positive = positive; within = shorter; text = decimal digits refl }))
    (λ z. rw z (record { positive = omega arith; within = omega arith; text = float_at bytes w p s digits f e (eqb-false (p + s) 0 z) }))
    (cases_Bool (eqb (p + s) 0))

pub number_at : (bytes : List ℕ) → is_digit (get_or bytes 0 0) 10 ≡ true
    → NumberAt bytes (number_front bytes)
unfolding number_front
number_at bytes h =
    ⊎_elim
    (λ t.
    let at = based_at 120 16 bytes (omega arith) (omega arith) t in
    rw t (record { positive = omega arith; within = at.within; text = hexadecimal _ at.text at.digits refl }))
    (λ t. rw t (
    ⊎_elim
    (λ o.
    let at = based_at 111 8 bytes (omega arith) (omega arith) o in
    rw o (record { positive = omega arith; within = at.within; text = octal _ at.text at.digits refl }))
    (λ o. rw o (decimal_at bytes h))
    (cases_Bool (is_based 111 8 bytes))))
    (cases_Bool (is_based 120 16 bytes))

-- the first n bytes are the rest of a string
pub record StringAt (rest : List ℕ) (n : ℕ) : Type 0 where
  pub positive : 0 < n
  pub within : n ≤ length rest
  pub text : IsStringRest (take n rest)

closed_at : (b : ℕ) (rest : List ℕ) → b ≡ 34 → StringAt (b ∷ rest) 1
closed_at b rest q = record { positive = omega arith; within = omega arith; text = closed b q }

-- one or two bytes more are before the rest of a string
string_more : (before rest : List ℕ) (o : Option ℕ)
    → ((m : ℕ) → IsStringRest (take m rest) → IsStringRest (before ++ take m rest))
    → IfSome o (StringAt rest) → IfSome (option_map (λ n. length before + n) o) (StringAt (before ++ rest))
string_more before rest None more at = tt
string_more before rest (Some m) more at =
    let positive = at.positive in
    let within = at.within in
    record {
      positive = omega arith;
      within = omega (arith, length-append before rest);
      text = rw take-append-add (more m at.text);
    }

string_found : (rest : List ℕ) → IfSome (string_rest_len rest) (StringAt rest)
unfolding string_rest_len
string_found [] = tt
string_found (b ∷ []) = cond_both (eqb b 34) (Some 1) None (λ o. IfSome o (StringAt (b ∷ []))) (λ q. closed_at b [] (eqb-true b 34 q)) (λ q. tt)
string_found (b ∷ (c ∷ rest)) =
    let P : Option ℕ → Type 0 = λ o. IfSome o (StringAt (b ∷ (c ∷ rest))) in
    cond_both (eqb b 34) _ _ P (λ q. closed_at b (c ∷ rest) (eqb-true b 34 q)) (λ q.
    cond_both (eqb b 10) _ _ P (λ l. tt) (λ l.
    cond_both (eqb b 92) _ _ P
    (λ e. cond_both (eqb c 10) _ _ P (λ k. tt) (λ k. string_more (b ∷ (c ∷ [])) rest (string_rest_len rest) (λ m. escaped b c (take m rest) (eqb-true b 92 e) (eqb-false c 10 k)) (string_found rest)))
    (λ s. string_more (b ∷ []) (c ∷ rest) (string_rest_len (c ∷ rest)) (λ m. plain b (take m (c ∷ rest)) (eqb-false b 34 q) (eqb-false b 92 s) (eqb-false b 10 l)) (string_found (c ∷ rest)))))

pub string_at : (rest : List ℕ) (n : ℕ) → string_rest_len rest ≡ Some n → StringAt rest n
string_at rest n e = subst (λ o. IfSome o (StringAt rest)) e (string_found rest)

-- the first bytes are the text of the mark
pub record MarkAt (bytes : List ℕ) (mark : Mark) (n : ℕ) : Type 0 where
  pub positive : 0 < n
  pub within : n ≤ length bytes
  pub text : take n bytes ≡ mark_text mark

one_byte : (bytes : List ℕ) (b : ℕ) (m : Mark) → get_or bytes 0 0 ≡ b → 0 < b → mark_text m ≡ b ∷ []
    → MarkAt bytes m 1
one_byte [] b m e h t = absurd (omega arith)
one_byte (x ∷ rest) b m e h t = record { positive = omega arith; within = omega arith; text = ap (λ y. y ∷ []) e ∙ sym t }

two_bytes : (bytes : List ℕ) (b c : ℕ) (m : Mark) → get_or bytes 0 0 ≡ b → get_or bytes 1 0 ≡ c
    → 0 < b → 0 < c → mark_text m ≡ b ∷ (c ∷ []) → MarkAt bytes m 2
two_bytes (x ∷ (y ∷ rest)) b c m e f h k t = record { positive = omega arith; within = omega arith; text = ap (λ z. z ∷ (y ∷ [])) e ∙ (ap (λ z. b ∷ (z ∷ [])) f ∙ sym t) }
two_bytes _ b c m e f h k t = absurd (omega arith)

-- the mark that is read, if one is, is at the front
IsRead : List ℕ → Option (Mark × ℕ) → Type 0
IsRead bytes o = IfSome o (λ p. MarkAt bytes p.0 p.1)

read_one : (bytes : List ℕ) (b : ℕ) (m : Mark) (other : Option (Mark × ℕ)) → 0 < b
    → mark_text m ≡ b ∷ [] → IsRead bytes other
    → IsRead bytes (cond (eqb (get_or bytes 0 0) b) (Some (m, 1)) other)
unfolding IsRead
read_one bytes b m other h t at =
    cond_both (eqb (get_or bytes 0 0) b) _ other (IsRead bytes) (λ e. one_byte bytes b m (eqb-true (get_or bytes 0 0) b e) h t) (λ _. at)

pub mark_at : (bytes : List ℕ) (p : Mark × ℕ) → mark_front bytes ≡ Some p → MarkAt bytes p.0 p.1
unfolding mark_front IsRead
mark_at bytes p e =
    let first = get_or bytes 0 0 in
    let second = get_or bytes 1 0 in
    subst (IsRead bytes) e (
    read_one bytes 40 OpenParen _ (omega arith) refl (
    read_one bytes 41 CloseParen _ (omega arith) refl (
    read_one bytes 91 OpenBracket _ (omega arith) refl (
    read_one bytes 93 CloseBracket _ (omega arith) refl (
    read_one bytes 123 OpenBrace _ (omega arith) refl (
    read_one bytes 125 CloseBrace _ (omega arith) refl (
    read_one bytes 44 Comma _ (omega arith) refl (
    read_one bytes 59 Semicolon _ (omega arith) refl (
    cond_both (eqb first 58) _ _ (IsRead bytes)
    (λ h. cond_both (eqb second 58) _ _ (IsRead bytes)
    (λ k. two_bytes bytes 58 58 ColonColon (eqb-true first 58 h) (eqb-true second 58 k) (omega arith) (omega arith) refl)
    (λ k. one_byte bytes 58 Colon (eqb-true first 58 h) (omega arith) refl)) (λ _.
    read_one bytes 61 Equals _ (omega arith) refl (
    cond_both (eqb first 46 && eqb second 46) _ _ (IsRead bytes)
    (λ h. let both = and_parts (eqb first 46) (eqb second 46) h in two_bytes bytes 46 46 DotDot (eqb-true first 46 both.0) (eqb-true second 46 both.1) (omega arith) (omega arith) refl)
    (λ _. tt))))))))))))
