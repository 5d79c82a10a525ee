-- What `front_of` gives is the longest text of any token, and there is no other.
use Rattle.std.proofs.Common.{◌≡◌, ◌≢◌, ℕ, ◌+◌, ◌<◌, ◌≤◌, List, [], ◌∷◌, ◌++◌, length, take, drop, get_or, ℤ, Bool, true, false, eqb, ◌&&◌, Option, Some, None, ⊎_elim, refl, sym, ap, ◌∙◌, subst, arith}
use Rattle.std.proofs.lemmas.List.{take-append-drop, length-take-le, take_at}
use Rattle.std.proofs.lemmas.List.Sums.{prefix_len-le-length}
use Rattle.std.proofs.lemmas.Bool.{and_parts, and_from, eqb-true, cases_Bool, cond_both}
use Rattle.std.proofs.lemmas.Bool.Decides.{nat_tests}
use Rattle.std.proofs.Math.Nat.{zero-add}
use Rattle.std.specs.Prelude.{codes}
use Rattle.std.specs.List.{prefix_len, list_all}
use Rattle.std.specs.Char.{is_digit}
use Rattle.fz_tree.specs.Token.{is_word_start, is_word_byte, TokenValue, Word, Whole, FloatText, StringText, Marked, Spells, IsWordText, IsStringText, WritesWhole, unsigned, negative, IsFloatText, unsigned_float, negative_float, mark_text}
use Rattle.fz_tree.specs.declared.token.Mark.{Mark}
use Rattle.fz_tree.specs.declared.token.Mark.TheVariants.{Colon, ColonColon}
use Rattle.fz_tree.proofs.Runs.{prefix_all, prefix_covers}
use Rattle.fz_tree.proofs.Fronts.{front_natural, front_negative}
use Rattle.fz_tree.specs.Lexing.{IsLongestSpelling}
use Rattle.fz_tree.specs.Scan.{FrontToken, found, none, front_of, signed, number_token, number_found, string_found, mark_found, number_front, string_rest_len, mark_front}
use Rattle.fz_tree.proofs.Covers.{EndsNumber, NumberCovers, natural_covers, float_covers, natural_digit, float_digit, string_covers}
use Rattle.fz_tree.proofs.Spelled.{NumberText, take_one_more, number_at, string_at, mark_at}

-- a mark doesn't go on: behind `:` no other `:` comes
abbrev pub EndsMark : Mark → List ℕ → Type 0
EndsMark Colon after = get_or after 0 0 ≢ 58
EndsMark other after = Unit {0}

-- the text of the token doesn't go on in the bytes that follow it
abbrev pub EndsBefore : TokenValue → List ℕ → Type 0
EndsBefore (Word text) after = is_word_byte (get_or after 0 0) ≡ false
EndsBefore (Whole z) after = EndsNumber after
EndsBefore (FloatText text) after = EndsNumber after
EndsBefore (StringText text) after = Unit {0}
EndsBefore (Marked m) after = EndsMark m after

-- what is found is at least the text b of t, and it is t where it is no longer
pub record Covers (t : TokenValue) (b after : List ℕ) (front : FrontToken) : Type 0 where
  pub token : TokenValue
  pub len : ℕ
  pub is : front ≡ found token len
  pub long : length b ≤ len
  pub same : len ≡ length b → token ≡ t
  pub ends : EndsBefore t after → len ≡ length b

pub record IsSpelled (t : TokenValue) (n : ℕ) (bytes : List ℕ) : Type 0 where
  pub positive : 0 < n
  pub within : n ≤ length bytes
  pub spelled : Spells t (take n bytes)

word_start_is_byte : (b : ℕ) → is_word_start b ≡ true → is_word_byte b ≡ true
word_start_is_byte b h = grind (arith, nat_tests)

digit_no_start : (b : ℕ) → is_digit b 10 ≡ true → is_word_start b ≡ false
digit_no_start b h = grind (arith, nat_tests)

-- ---- What is found is spelled.

-- what is found, if anything is, is at the front
abbrev IsFound : List ℕ → FrontToken → Type 0
IsFound bytes none = Unit {0}
IsFound bytes (found t n) = IsSpelled t n bytes

word_at : (bytes : List ℕ) → is_word_start (get_or bytes 0 0) ≡ true
    → IsSpelled (Word (take (prefix_len is_word_byte bytes) bytes))
    (prefix_len is_word_byte bytes) bytes
word_at [] h = absurd (cc h)
word_at (b ∷ rest) h =
    let byte = word_start_is_byte b h in
    let len : prefix_len is_word_byte (b ∷ rest) ≡ 1 + prefix_len is_word_byte rest = rw byte refl in
    let shorter = prefix_len-le-length is_word_byte (b ∷ rest) in
    let text : take (prefix_len is_word_byte (b ∷ rest)) (b ∷ rest) ≡ b ∷ take (prefix_len is_word_byte rest) rest = ap (λ n. take n (b ∷ rest)) len ∙ take_one_more _ b rest in
    let is_text : IsWordText (b ∷ take (prefix_len is_word_byte rest) rest) = (h, prefix_all is_word_byte rest) in
    record { positive = omega arith; within = shorter; spelled = (refl, subst IsWordText (sym text) is_text) }

-- the bytes write the number with its sign, or are a float where it isn't whole
abbrev SignedText : Bool → Option ℕ → List ℕ → Type 0
SignedText sign (Some n) bytes = WritesWhole bytes (signed sign n)
SignedText sign None bytes = IsFloatText bytes

unsigned_text : (natural : Option ℕ) (bytes : List ℕ) → NumberText natural bytes
    → SignedText false natural bytes
unsigned_text None bytes h = unsigned_float h
unsigned_text (Some n) bytes h = unsigned n h refl

negative_text : (natural : Option ℕ) (rest bytes : List ℕ) → bytes ≡ codes "-" ++ rest
    → NumberText natural rest → SignedText true natural bytes
negative_text None rest bytes e h = negative_float rest e h
negative_text (Some n) rest bytes e h = negative rest n e h refl

number_spelled : (bytes : List ℕ) (sign : Bool) (len : ℕ) (natural : Option ℕ) → 0 < len
    → len ≤ length bytes → SignedText sign natural (take len bytes)
    → IsFound bytes (number_token sign len bytes natural)
number_spelled bytes sign len None p w s = record { positive = p; within = w; spelled = (refl, s) }
number_spelled bytes sign len (Some m) p w s = record { positive = p; within = w; spelled = s }

natural_spelled : (bytes : List ℕ) → is_digit (get_or bytes 0 0) 10 ≡ true
    → IsFound bytes (number_found false 0 bytes (number_front bytes))
natural_spelled bytes d =
    let at = number_at bytes d in
    let front = number_front bytes in
    subst (λ k. IsFound bytes (number_token false k bytes front.natural)) (sym (zero-add front.len)) (number_spelled bytes false front.len front.natural at.positive at.within (unsigned_text front.natural (take front.len bytes) at.text))

negative_spelled : (bytes : List ℕ) → get_or bytes 0 0 ≡ 45 → is_digit (get_or bytes 1 0) 10 ≡ true
    → IsFound bytes (number_found true 1 bytes (number_front (drop 1 bytes)))
negative_spelled [] m d = absurd (omega arith)
negative_spelled (b ∷ rest) m d =
    let at = number_at rest d in
    let front = number_front rest in
    let within = at.within in
    number_spelled (b ∷ rest) true (1 + front.len) front.natural (omega arith) (omega arith) (negative_text front.natural (take front.len rest) _ (take_one_more front.len b rest ∙ ap (λ x. x ∷ take front.len rest) m) at.text)

string_spelled : (bytes : List ℕ) (len : Option ℕ) → get_or bytes 0 0 ≡ 34
    → string_rest_len (drop 1 bytes) ≡ len → IsFound bytes (string_found bytes len)
string_spelled bytes None q l = tt
string_spelled [] (Some m) q l = absurd (omega arith)
string_spelled (b ∷ rest) (Some m) q l =
    let at = string_at rest m l in
    let within = at.within in
    let is_text : IsStringText (b ∷ take m rest) = (q, at.text) in
    record { positive = omega arith; within = omega arith; spelled = (refl, subst IsStringText (sym (take_one_more m b rest)) is_text) }

mark_spelled : (bytes : List ℕ) (m : Option (Mark × ℕ)) → mark_front bytes ≡ m
    → IsFound bytes (mark_found m)
mark_spelled bytes None l = tt
mark_spelled bytes (Some m) l = let at = mark_at bytes m l in record { positive = at.positive; within = at.within; spelled = at.text }

front_found : (bytes : List ℕ) → IsFound bytes (front_of bytes)
unfolding front_of
front_found bytes =
    let first = get_or bytes 0 0 in
    let second = get_or bytes 1 0 in
    cond_both (is_word_start first) _ _ (IsFound bytes) (word_at bytes) (λ _.
    cond_both (is_digit first 10) _ _ (IsFound bytes) (natural_spelled bytes) (λ _.
    cond_both (eqb first 45 && is_digit second 10) _ _ (IsFound bytes) (λ h. let both = and_parts (eqb first 45) (is_digit second 10) h in negative_spelled bytes (eqb-true first 45 both.0) both.1) (λ _.
    cond_both (eqb first 34) _ _ (IsFound bytes) (λ h. string_spelled bytes (string_rest_len (drop 1 bytes)) (eqb-true first 34 h) refl) (λ _. mark_spelled bytes (mark_front bytes) refl))))

pub front_spelled : (bytes : List ℕ) (t : TokenValue) (n : ℕ) → front_of bytes ≡ found t n
    → IsSpelled t n bytes
front_spelled bytes t n e = subst (IsFound bytes) e (front_found bytes)

-- ---- What is spelled is covered.

no_word_bytes : (after : List ℕ) → is_word_byte (get_or after 0 0) ≡ false
    → prefix_len is_word_byte after ≡ 0
no_word_bytes [] e = refl
no_word_bytes (c ∷ rest) e = rw e refl

word_covers : (x : ℕ) (xs after : List ℕ) → IsWordText (x ∷ xs)
    → Covers (Word (x ∷ xs)) (x ∷ xs) after (front_of (x ∷ (xs ++ after)))
unfolding front_of
word_covers x xs after h =
    let start = h.0 in
    let len = prefix_len is_word_byte (x ∷ (xs ++ after)) in
    let count = prefix_covers is_word_byte (x ∷ xs) after (and_from (is_word_byte x) (list_all is_word_byte xs) (word_start_is_byte x start) h.1) in
    let is : front_of (x ∷ (xs ++ after)) ≡ found (Word (take len (x ∷ (xs ++ after)))) len = rw start refl in
    record {
      token = Word (take len (x ∷ (xs ++ after)));
      len = len;
      is = is;
      long = omega arith;
      same = λ e. ap Word (take_at (x ∷ xs) after len (sym e));
      ends = λ e. let none_more = no_word_bytes after e in omega arith;
    }

token_covers : (t : TokenValue) (b after bytes : List ℕ) (sign : Bool) (len : ℕ)
    (got want : Option ℕ) → length b ≤ len → (len ≡ length b → got ≡ want)
    → (len ≡ length b → number_token sign len bytes want ≡ found t len)
    → (EndsBefore t after → len ≡ length b) → Covers t b after (number_token sign len bytes got)
token_covers t b after bytes sign len None want l g w ends =
    record {
      token = FloatText (take len bytes);
      len = len;
      is = refl;
      long = l;
      same = λ e. let f = ap (number_token sign len bytes) (g e) ∙ w e in cc f;
      ends = ends;
    }
token_covers t b after bytes sign len (Some m) want l g w ends =
    record {
      token = Whole (signed sign m);
      len = len;
      is = refl;
      long = l;
      same = λ e. let f = ap (number_token sign len bytes) (g e) ∙ w e in cc f;
      ends = ends;
    }

-- a number without a sign, and one behind `-`
unsigned_covers : (t : TokenValue) (b after : List ℕ) (want : Option ℕ)
    → is_digit (get_or (b ++ after) 0 0) 10 ≡ true → NumberCovers b after want
    (number_front (b ++ after)) → ((len : ℕ) → len ≡ length b
    → number_token false len (b ++ after) want ≡ found t len)
    → (EndsBefore t after → EndsNumber after) → Covers t b after (front_of (b ++ after))
unsigned_covers t b after want d c w ends =
    let front = number_front (b ++ after) in
    rw (front_natural (b ++ after) (digit_no_start (get_or (b ++ after) 0 0) d) d) (token_covers t b after (b ++ after) false front.len front.natural want c.long c.same (w front.len) (λ e. c.ends (ends e)))

negative_covers : (t : TokenValue) (b after : List ℕ) (want : Option ℕ)
    → is_digit (get_or (b ++ after) 0 0) 10 ≡ true → NumberCovers b after want
    (number_front (b ++ after)) → ((len : ℕ) → len ≡ length (45 ∷ b)
    → number_token true len (45 ∷ (b ++ after)) want ≡ found t len)
    → (EndsBefore t after → EndsNumber after)
    → Covers t (45 ∷ b) after (front_of (45 ∷ (b ++ after)))
negative_covers t b after want d c w ends =
    let front = number_front (b ++ after) in
    let long = c.long in
    rw (front_negative (45 ∷ (b ++ after)) refl d) (token_covers t (45 ∷ b) after (45 ∷ (b ++ after)) true (1 + front.len) front.natural want (omega arith) (λ e. c.same (omega arith)) (w (1 + front.len)) (λ e. let n = c.ends (ends e) in omega arith))

whole_covers : (z : ℤ) (b after : List ℕ) → WritesWhole b z
    → Covers (Whole z) b after (front_of (b ++ after))
whole_covers z b after (unsigned n w e) =
    unsigned_covers (Whole z) b after (Some n) (natural_digit b after n w) (natural_covers b after n w) (λ len l. ap (λ y. found (Whole y) len) (sym e)) (λ e. e)
whole_covers z b after (negative rest n t w e) =
    let covers = negative_covers (Whole z) rest after (Some n) (natural_digit rest after n w) (natural_covers rest after n w) (λ len l. ap (λ y. found (Whole y) len) (sym e)) (λ e. e) in
    subst (λ x. Covers (Whole z) x after (front_of (x ++ after))) (sym t) covers

float_text_covers : (b after : List ℕ) → IsFloatText b
    → Covers (FloatText b) b after (front_of (b ++ after))
float_text_covers b after (unsigned_float f) =
    unsigned_covers (FloatText b) b after None (float_digit b after f) (float_covers b after f) (λ len l. ap (λ y. found (FloatText y) len) (take_at b after len (sym l))) (λ e. e)
float_text_covers b after (negative_float rest t f) =
    let covers = negative_covers (FloatText (45 ∷ rest)) rest after None (float_digit rest after f) (float_covers rest after f) (λ len l. ap (λ y. found (FloatText y) len) (take_at (45 ∷ rest) after len (sym l))) (λ e. e) in
    subst (λ x. Covers (FloatText x) x after (front_of (x ++ after))) (sym t) covers

string_text_covers : (b : ℕ) (rest after : List ℕ) → IsStringText (b ∷ rest)
    → Covers (StringText (b ∷ rest)) (b ∷ rest) after (front_of ((b ∷ rest) ++ after))
unfolding front_of
string_text_covers b rest after h =
    let covers = string_covers after h.1 in
    let at_quote : Covers (StringText (34 ∷ rest)) (34 ∷ rest) after (front_of (34 ∷ (rest ++ after))) =
    rw covers (record {
      token = StringText (take (1 + length rest) (34 ∷ (rest ++ after)));
      len = 1 + length rest;
      is = refl;
      long = omega arith;
      same = λ e. ap StringText (take_at (34 ∷ rest) after (1 + length rest) (omega arith));
      ends = λ e. omega arith;
    }) in
    subst (λ x. Covers (StringText (x ∷ rest)) (x ∷ rest) after (front_of (x ∷ (rest ++ after)))) (sym h.0) at_quote

colon_covers : (after : List ℕ) → Covers (Marked Colon) (58 ∷ []) after (front_of (58 ∷ after))
unfolding front_of mark_front
colon_covers after =
    ⊎_elim
    (λ h. rw h (record { token = Marked ColonColon; len = 2; is = refl; long = omega arith; same = λ e. absurd (omega arith); ends = λ e. absurd (e (eqb-true (get_or after 0 0) 58 h)) }))
    (λ h. rw h (record { token = Marked Colon; len = 1; is = refl; long = omega arith; same = λ e. refl; ends = λ e. refl }))
    (cases_Bool (eqb (get_or after 0 0) 58))

mark_covers : (m : Mark) (after : List ℕ)
    → Covers (Marked m) (mark_text m) after (front_of (mark_text m ++ after))
unfolding front_of mark_front
mark_covers Colon after = colon_covers after
mark_covers m after = record { token = Marked m; len = length (mark_text m); is = refl; long = omega arith; same = λ e. refl; ends = λ e. refl }

pub front_covers : (t : TokenValue) (b after : List ℕ) → Spells t b
    → Covers t b after (front_of (b ++ after))
front_covers (Word text) (x ∷ xs) after h = subst (λ y. Covers (Word y) (x ∷ xs) after (front_of (x ∷ (xs ++ after)))) h.0 (word_covers x xs after h.1)
front_covers (Whole z) b after h = whole_covers z b after h
front_covers (FloatText text) b after h = subst (λ y. Covers (FloatText y) b after (front_of (b ++ after))) h.0 (float_text_covers b after h.1)
front_covers (StringText text) (x ∷ xs) after h = subst (λ y. Covers (StringText y) (x ∷ xs) after (front_of (x ∷ (xs ++ after)))) h.0 (string_text_covers x xs after h.1)
front_covers (Marked m) b after h = subst (λ y. Covers (Marked m) y after (front_of (y ++ after))) (sym h) (mark_covers m after)
front_covers _ [] after h = absurd h.1

covers_take : (bytes : List ℕ) (t : TokenValue) (n : ℕ) → n ≤ length bytes → Spells t (take n bytes)
    → Covers t (take n bytes) (drop n bytes) (front_of bytes)
covers_take bytes t n h s =
    let c = front_covers t (take n bytes) (drop n bytes) s in
    subst (λ x. Covers t (take n bytes) (drop n bytes) (front_of x)) (take-append-drop n bytes) c

pub found_is_longest : (bytes : List ℕ) (t : TokenValue) (n : ℕ) → front_of bytes ≡ found t n
    → IsLongestSpelling bytes n t
found_is_longest bytes t n e =
    let s = front_spelled bytes t n e in
    record {
      within = s.within;
      spelled = s.spelled;
      longest = λ u m h k.
          let c = covers_take bytes u m h k in
          let l = length-take-le m bytes h in
          let i : c.len ≡ n = cc (c.is, e) in
          let j = c.long in
          omega arith;
    }

pub none_begins : (bytes : List ℕ) → front_of bytes ≡ none → (t : TokenValue) (n : ℕ)
    → n ≤ length bytes → Spells t (take n bytes) → ⊥
none_begins bytes e t n h s =
    let c = covers_take bytes t n h s in
    let i = c.is in
    cc (e, i)

pub longest_is_found : (bytes : List ℕ) (t : TokenValue) (n : ℕ) → IsLongestSpelling bytes n t
    → front_of bytes ≡ found t n
longest_is_found bytes t n h =
    let c = covers_take bytes t n h.within h.spelled in
    let s = front_spelled bytes c.token c.len c.is in
    let l = length-take-le n bytes h.within in
    let shorter : c.len ≤ n = h.longest c.token c.len s.within s.spelled in
    let long = c.long in
    let same_len : c.len ≡ n = omega arith in
    let same : c.token ≡ t = c.same (omega arith) in
    let is = c.is in
    cc (is, same, same_len)

pub longest_is_positive : (bytes : List ℕ) (t : TokenValue) (n : ℕ) → IsLongestSpelling bytes n t
    → 0 < n
longest_is_positive bytes t n h = (front_spelled bytes t n (longest_is_found bytes t n h)).positive

-- a text of a token that doesn't go on in what follows is the longest
pub ended_is_longest : (t : TokenValue) (b after : List ℕ) → Spells t b → EndsBefore t after
    → IsLongestSpelling (b ++ after) (length b) t
ended_is_longest t b after h e =
    let c = front_covers t b after h in
    let same_len = c.ends e in
    let same : c.token ≡ t = c.same same_len in
    let is : front_of (b ++ after) ≡ found c.token c.len = c.is in
    found_is_longest (b ++ after) t (length b) (is ∙ (ap (found c.token) same_len ∙ ap (λ u. found u (length b)) same))
