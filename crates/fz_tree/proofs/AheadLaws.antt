-- Laws of `tokens_ahead`: each step of the lexer takes the first of these tokens, and those of a
-- source without a fault are the ones that it lexes to.
use Rattle.std.proofs.Common.{◌≡◌, ◌≢◌, ℕ, zero, suc, ◌+◌, ◌<◌, ◌≤◌, ◌^◌, List, [], ◌∷◌, ◌++◌, length, drop, get_or, ℤ, pos, negsuc, Option, Some, None, true, false, eqb, ⊎_elim, refl, sym, ap, ◌∙◌, subst, arith}
use Rattle.std.specs.Prelude.{Result, Ok, Err, IfOk, IfErr, OnOk, OnErr, IsOk}
use Rattle.std.specs.List.{position_or_len, AllByRecursion}
use Rattle.std.proofs.lemmas.List.{length-drop, append-nil, get_or_past}
use Rattle.std.proofs.lemmas.Bool.{eqb-true, eqb-false, cases_Bool, cases_lt, ltb-true, ltb-false}
use Rattle.std.proofs.lemmas.Int.{ints}
use Rattle.fz_tree.specs.Token.{is_blank, is_line_feed, TokenValue, Whole}
use Rattle.fz_tree.specs.Lexing.{SpannedToken, CutBetween, nothing, blank, comment, spelling, IsWholeComment, IsLongestSpelling, IsWithinLimit, IsTokenWithinLimit, LexesWithin}
use Rattle.fz_tree.specs.Spanned.{NothingBegins, spanned, IsSpelledAtSpan, IsLexicalFaultWithin, IsPlacedWithin, AreWithinLimit, LexesToSpanned, standard_limits}
use Rattle.fz_tree.specs.Found.{AreInOrder, NextFrom, FaultFrom, IsScanned, IsScanFault}
use Rattle.fz_tree.specs.Scan.{FrontToken, found, none, front_of}
use Rattle.fz_tree.specs.Ahead.{comma_at, gap_from, is_whole_within, is_within, tokens_at, tokens_from, tokens_ahead, stop_at, stop_from, stop_ahead}
use Rattle.fz_tree.specs.Left.{first_and}
use Rattle.fz_tree.specs.declared.limits.Limits.{Limits}
use Rattle.fz_tree.specs.declared.token.Token.{Token}
use Rattle.fz_tree.specs.declared.error.SyntaxError.{SyntaxError}
use Rattle.fz_tree.specs.declared.error.SyntaxError.TheVariants.{BadByte, TooLarge}
use Rattle.fz_tree.proofs.Laws.{found_is_longest, longest_is_positive, none_begins}
use Rattle.fz_tree.proofs.Next.{comma_cut}
use Rattle.fz_tree.proofs.Cuts.{at_place, cut_then, cut_forward, cut_continues, cut_stays, cut_ordered, in_order_upto, comment_positive, no_cut_from, no_limit_from}
use Rattle.fz_tree.proofs.Texts.{cut_spelled}
use Rattle.fz_tree.specs.declared.span.Span.{Span}
use Rattle.fz_tree.proofs.Lexed.{all_right, only_fault, fault_placed}

-- why nothing more is read from an offset on
pub data IsStop (source : List ℕ) (place : ℕ) : Type 0 where
  at_end : place ≡ length source → IsStop source place
  at_fault : place < length source → NothingBegins (drop place source) → IsStop source place
  at_large : (n : ℕ) (z : ℤ) → place < length source → IsLongestSpelling (drop place source) n
      (Whole z) → (¬ (IsWithinLimit z)) → IsStop source place

-- the tokens from an offset on, up to where nothing more is read
pub record AreAhead (source : List ℕ) (place stop : ℕ) (tokens : List SpannedToken) : Type 0 where
  pub cut : CutBetween source place stop tokens
  pub numbers : AreWithinLimit tokens
  pub stopped : IsStop source stop

-- ---- There is one such list.

stop_within : {source : List ℕ} {place : ℕ} → IsStop source place → place ≤ length source
stop_within (at_end e) = omega arith
stop_within (at_fault h n) = omega arith
stop_within (at_large n z h l o) = omega arith

-- nothing is read past a stop
no_more : {source : List ℕ} {p q : ℕ} {R : List SpannedToken} → IsStop source p → p ≤ q
    → q ≤ length source → CutBetween source p q R → AreWithinLimit R → (p ≡ q) × (R ≡ [])
no_more (at_end e) l h c w = (omega arith, cut_stays c (omega arith))
no_more {source} {p} {q} (at_fault k n) l h c w = ⊎_elim (λ less. absurd (no_cut_from c less n)) (λ less. (omega arith, cut_stays c less)) (cases_lt p q)
no_more {source} {p} {q} (at_large m z k l o) u h c w = ⊎_elim (λ less. absurd (no_limit_from m z c less l o w)) (λ less. (omega arith, cut_stays c less)) (cases_lt p q)

ahead_before : (source : List ℕ) (p s t : ℕ) (S T : List SpannedToken)
    → (a : AreAhead source p s S) (b : AreAhead source p t T) → s ≤ t → (s ≡ t) × (S ≡ T)
ahead_before source p s t S T a b h =
    let d = cut_continues a.cut b.cut h in
    let all : AreWithinLimit (S ++ d.rest) = subst AreWithinLimit d.is b.numbers in
    let none_left = no_more a.stopped h (stop_within b.stopped) d.cut (all_right (λ t. IsTokenWithinLimit t.token) S d.rest all) in
    (none_left.0, sym (d.is ∙ (ap (λ R. S ++ R) none_left.1 ∙ append-nil S)))

ahead_once : (source : List ℕ) (p s t : ℕ) (S T : List SpannedToken) → AreAhead source p s S
    → AreAhead source p t T → (s ≡ t) × (S ≡ T)
ahead_once source p s t S T a b = ⊎_elim (λ h. ahead_before source p s t S T a b (omega arith)) (λ h. let other = ahead_before source p t s T S b a h in (sym other.0, sym other.1)) (cases_lt s t)

-- ---- `tokens_ahead` gives it.

-- the blanks and comments between an offset and the next token
record IsGap (source : List ℕ) (place end : ℕ) : Type 0 where
  cut : CutBetween source place end []
  within : end ≤ length source
  no_blank : is_blank (get_or source end 0) ≡ false
  no_comment : get_or source end 0 ≢ 37

gap_at_end : (source : List ℕ) (place : ℕ) → place ≡ length source → IsGap source place place
gap_at_end source place e =
    let past = get_or_past source place 0 (omega arith) in
    record { cut = nothing place; within = omega arith; no_blank = rw past refl; no_comment = λ h. omega arith }

comment_within : (bytes : List ℕ) → position_or_len is_line_feed bytes ≤ length bytes
comment_within [] = omega arith
comment_within (b ∷ rest) =
    let shorter = comment_within rest in
    ⊎_elim (λ h. rw h (omega arith)) (λ h. rw h (omega arith)) (cases_Bool (is_line_feed b))

before_end : (source : List ℕ) (place b : ℕ) → place ≤ length source → get_or source place 0 ≡ b
    → 0 < b → place < length source
before_end source place b h e p = ⊎_elim (λ l. l) (λ l. absurd (let past = get_or_past source place 0 l in omega arith)) (cases_lt place (length source))

blank_before_end : (source : List ℕ) (place : ℕ) → is_blank (get_or source place 0) ≡ true
    → place < length source
blank_before_end source place b = ⊎_elim (λ l. l) (λ l. absurd (let past = get_or_past source place 0 l in let f = rw past at b in cc f)) (cases_lt place (length source))

gap_is : (room : ℕ) (source : List ℕ) (place : ℕ) → place ≤ length source
    → length source ≤ place + room → IsGap source place (gap_from room source place)
unfolding gap_from
gap_is zero source place h r = gap_at_end source place (omega arith)
gap_is (suc room) source place h r =
    ⊎_elim
    (λ b.
    let before = blank_before_end source place b in
    let g = gap_is room source (place + 1) (omega arith) (omega arith) in
    rw b (record { cut = blank place _ _ before b g.cut; within = g.within; no_blank = g.no_blank; no_comment = g.no_comment }))
    (λ b. rw b (
    ⊎_elim
    (λ c.
    let is_percent : get_or source place 0 ≡ 37 = eqb-true (get_or source place 0) 37 c in
    let n = position_or_len is_line_feed (drop place source) in
    let whole : IsWholeComment (drop place source) n = record { begins = at_place source place ∙ is_percent; runs = refl } in
    let positive = comment_positive (drop place source) n whole in
    let shorter = comment_within (drop place source) in
    let len = length-drop place source in
    let before = before_end source place 37 h is_percent (omega arith) in
    let g = gap_is room source (place + n) (omega arith) (omega arith) in
    rw c (record { cut = comment place n _ _ whole g.cut; within = g.within; no_blank = g.no_blank; no_comment = g.no_comment }))
    (λ c. rw c (record { cut = nothing place; within = h; no_blank = b; no_comment = eqb-false (get_or source place 0) 37 c }))
    (cases_Bool (eqb (get_or source place 0) 37))))
    (cases_Bool (is_blank (get_or source place 0)))

whole_within : (z : ℤ) → is_whole_within z ≡ true → IsWithinLimit z
whole_within (pos n) h = let l = ltb-true n (2 ^ 63) h in (omega (arith, ints), omega (arith, ints))
whole_within (negsuc n) h = let l = ltb-true n (2 ^ 63) h in (omega (arith, ints), omega (arith, ints))

whole_outside : (z : ℤ) → is_whole_within z ≡ false → ¬ (IsWithinLimit z)
whole_outside (pos n) h w = let l = ltb-false n (2 ^ 63) h in omega (arith, ints, w.1)
whole_outside (negsuc n) h w = let l = ltb-false n (2 ^ 63) h in omega (arith, ints, w.0)

token_within : (t : TokenValue) → is_within t ≡ true → IsTokenWithinLimit t
token_within (Whole z) h = whole_within z h
token_within _ h = tt

-- a token outside the limit stops the list
stop_at_token : (source : List ℕ) (start n : ℕ) (t : TokenValue) → start < length source
    → IsLongestSpelling (drop start source) n t → is_within t ≡ false → IsStop source start
stop_at_token source start n (Whole z) h l o = at_large n z h l (whole_outside z o)
stop_at_token source start n _ h l o = absurd (cc o)

-- what is found behind the gap, and the tokens from its end on
ahead_at : (source : List ℕ) (place start : ℕ) (rest : ℕ → List SpannedToken) (stop : ℕ → ℕ)
    (front : FrontToken) → IsGap source place start → front_of (drop start source) ≡ front
    → ((end : ℕ) → start < end → end ≤ length source → AreAhead source end (stop end) (rest end)) → AreAhead source place (stop_at stop start front) (tokens_at rest start front)
ahead_at source place start rest stop none g f r =
    ⊎_elim
    (λ h. record {
      cut = g.cut;
      numbers = tt;
      stopped = at_fault h (record {
        a_byte = omega (arith, length-drop start source);
        no_blank = rw at_place g.no_blank;
        no_comment = λ e. g.no_comment (sym (at_place source start) ∙ e);
        no_spelling = none_begins (drop start source) f;
      });
    })
    (λ h. let w = g.within in record { cut = g.cut; numbers = tt; stopped = at_end (omega arith) })
    (cases_lt start (length source))
ahead_at source place start rest stop (found t n) g f r =
    let l = found_is_longest (drop start source) t n f in
    let positive = longest_is_positive (drop start source) t n l in
    let within = l.within in
    let len = length-drop start source in
    ⊎_elim
    (λ w.
    let a = r (start + n) (omega arith) (omega arith) in
    let token : SpannedToken = record { token = t; start = start; end = start + n } in
    rw w (record { cut = cut_then g.cut (spelling start n _ token _ refl refl l a.cut); numbers = (token_within t w, a.numbers); stopped = a.stopped }))
    (λ w. rw w (record { cut = g.cut; numbers = tt; stopped = stop_at_token source start n t (omega arith) l w }))
    (cases_Bool (is_within t))

ahead_from : (room : ℕ) (source : List ℕ) (place : ℕ) → place ≤ length source
    → length source ≤ place + room
    → AreAhead source place (stop_from room source place) (tokens_from room source place)
unfolding tokens_from stop_from
ahead_from zero source place h r = record { cut = nothing place; numbers = tt; stopped = at_end (omega arith) }
ahead_from (suc room) source place h r =
    let start = gap_from (length source) source place in
    let g = gap_is (length source) source place h (omega arith) in
    ahead_at source place start (λ end. tokens_from room source end) (λ end. stop_from room source end) (front_of (drop start source)) g refl (λ end l w. ahead_from room source end w (let f = cut_forward g.cut in omega arith))

pub ahead_is : (source : List ℕ) (place : ℕ) → place ≤ length source
    → AreAhead source place (stop_ahead source place) (tokens_ahead source place)
ahead_is source place h = ahead_from (length source) source place h (omega arith)

-- what is known from elsewhere to be ahead of an offset
ahead_same : (source : List ℕ) (place stop : ℕ) (tokens : List SpannedToken)
    → place ≤ length source → AreAhead source place stop tokens
    → (stop_ahead source place ≡ stop) × (tokens_ahead source place ≡ tokens)
ahead_same source place stop tokens h a = ahead_once source place _ _ _ _ (ahead_is source place h) a

-- ---- The lexer's steps.

step_ahead : (source : List ℕ) (place end : ℕ) (t : SpannedToken) → end ≤ length source
    → CutBetween source place end (t ∷ []) → IsTokenWithinLimit t.token
    → AreAhead source place (stop_ahead source end) (t ∷ tokens_ahead source end)
step_ahead source place end t k c w = let a = ahead_is source end k in record { cut = cut_then c a.cut; numbers = (w, a.numbers); stopped = a.stopped }

pub ahead_token : (source : List ℕ) (place end : ℕ) (t : Token) → place ≤ length source
    → end ≤ length source → NextFrom source place end (Some t)
    → tokens_ahead source place ≡ spanned t ∷ tokens_ahead source end
ahead_token source place end t h k n = (ahead_same source place _ _ h (step_ahead source place end (spanned t) k n.0 n.1)).1

-- behind a token reading stops where it stops from that token on
pub stop_stays : (source : List ℕ) (place end : ℕ) (t : SpannedToken) → place ≤ length source
    → end ≤ length source → CutBetween source place end (t ∷ []) → IsTokenWithinLimit t.token
    → stop_ahead source end ≡ stop_ahead source place
stop_stays source place end t h k c w = sym (ahead_same source place _ _ h (step_ahead source place end t k c w)).0

pub ahead_comma : (source : List ℕ) (place : ℕ) → place < length source → get_or source place 0 ≡ 44
    → tokens_ahead source place ≡ comma_at place ∷ tokens_ahead source (place + 1)
ahead_comma source place h b = (ahead_same source place _ _ (omega arith) (step_ahead source place (place + 1) (comma_at place) (omega arith) (comma_cut source place h b) tt)).1

none_ahead : (source : List ℕ) (place end : ℕ) → NextFrom source place end None
    → AreAhead source place (length source) []
none_ahead source place end n = record { cut = n; numbers = tt; stopped = at_end refl }

pub ahead_none : (source : List ℕ) (place end : ℕ) → place ≤ length source
    → NextFrom source place end None → tokens_ahead source place ≡ []
ahead_none source place end h n = (ahead_same source place _ _ h (none_ahead source place end n)).1

bad_ahead : (source : List ℕ) (place : ℕ) (span : Span) → FaultFrom source place (BadByte span)
    → AreAhead source place span.start []
bad_ahead source place span f =
    let n = f.1 in
    record { cut = f.0; numbers = tt; stopped = at_fault (omega (arith, n.a_byte, length-drop span.start source)) n }

large_ahead : (source : List ℕ) (place : ℕ) (span : Span) → FaultFrom source place (TooLarge span)
    → AreAhead source place span.start []
large_ahead source place span f =
    let l = f.3 in
    let positive = longest_is_positive _ _ _ l in
    record { cut = f.2; numbers = tt; stopped = at_large f.0 f.1 (omega (arith, l.within, positive, length-drop span.start source)) l f.4 }

pub ahead_fault : (source : List ℕ) (place : ℕ) (e : SyntaxError) → place ≤ length source
    → FaultFrom source place e → tokens_ahead source place ≡ []
ahead_fault source place (BadByte span) h f = (ahead_same source place _ _ h (bad_ahead source place span f)).1
ahead_fault source place (TooLarge span) h f = (ahead_same source place _ _ h (large_ahead source place span f)).1
ahead_fault source place _ h f = absurd f

-- what a reader has left after a step of the lexer: the tokens ahead of where the lexer was
pub step_leaves : (source : List ℕ) (place end : ℕ) (r : Result (Unit {0}) SyntaxError)
    (next : Option Token) → place ≤ length source → end ≤ length source
    → IfOk r (λ _. NextFrom source place end next) → IfErr r (FaultFrom source place)
    → OnErr r (next ≡ None)
    → first_and next (tokens_ahead source end) ≡ tokens_ahead source place
step_leaves source place end (Ok v) (Some t) h k n f e = sym (ahead_token source place end t h k n)
step_leaves source place end (Ok v) None h k n f e = sym (ahead_none source place end h n)
step_leaves source place end (Err e) next h k n f w = rw w (sym (ahead_fault source place e h f))

-- ---- where reading stops
--
-- Where a source is cut up to is where reading stops, and the tokens before are those ahead of its
-- first byte.

cut_to : (source : List ℕ) (s : ℕ) → stop_ahead source 0 ≡ s
    → CutBetween source 0 s (tokens_ahead source 0)
cut_to source s e = let a = ahead_is source 0 (omega arith) in subst (λ n. CutBetween source 0 n (tokens_ahead source 0)) e a.cut

numbers_to : (source : List ℕ) → AreWithinLimit (tokens_ahead source 0)
numbers_to source = let a = ahead_is source 0 (omega arith) in a.numbers

pub end_scanned : (source : List ℕ) (place end : ℕ) → place ≤ length source
    → stop_ahead source place ≡ stop_ahead source 0 → NextFrom source place end None
    → IsScanned source
end_scanned source place end h same n =
    (tokens_ahead source 0, cut_to source (length source) (sym same ∙ (ahead_same source place _ _ h (none_ahead source place end n)).0), numbers_to source)

pub fault_scanned : (source : List ℕ) (place : ℕ) (e : SyntaxError) → place ≤ length source
    → stop_ahead source place ≡ stop_ahead source 0 → FaultFrom source place e → (limits : Limits)
    → IsLexicalFaultWithin limits source e
fault_scanned source place (BadByte span) h same f limits =
    (tokens_ahead source 0, cut_to source span.start (sym same ∙ (ahead_same source place _ _ h (bad_ahead source place span f)).0), numbers_to source, f.1, f.2)
fault_scanned source place (TooLarge span) h same f limits =
    (tokens_ahead source 0, f.0, f.1, cut_to source span.start (sym same ∙ (ahead_same source place _ _ h (large_ahead source place span f)).0), numbers_to source, f.3, f.4, f.5)
fault_scanned source place _ h same f limits = absurd f

-- the tokens of a source, up to its first fault, follow one another
pub ahead_in_order : (source : List ℕ) → AreInOrder 0 (length source) (tokens_ahead source 0)
ahead_in_order source =
    let a = ahead_is source 0 (omega arith) in
    in_order_upto 0 (stop_ahead source 0) (length source) (tokens_ahead source 0) (stop_within a.stopped) (cut_ordered a.cut)

pub ahead_spelled : (source : List ℕ)
    → AllByRecursion (IsSpelledAtSpan source) (tokens_ahead source 0)
ahead_spelled source = let a = ahead_is source 0 (omega arith) in cut_spelled a.cut

-- ---- A source without a fault lexes to the tokens ahead of its first byte.

pub lexed_ahead : (source : List ℕ) (tokens : List SpannedToken) → LexesToSpanned source tokens
    → AreWithinLimit tokens → tokens ≡ tokens_ahead source 0
lexed_ahead source tokens l w =
    sym (ahead_same source 0 _ _ (omega arith) (record { cut = l; numbers = w; stopped = at_end refl })).1

pub only_scanned : (limits : Limits) (source : List ℕ) (T : List SpannedToken)
    (r : Result (Unit {0}) SyntaxError) → LexesWithin limits source T
    → IfErr r (IsScanFault source) → IsOk r
only_scanned limits source T (Ok v) h f = refl
only_scanned limits source T (Err e) h f = absurd (f.1 (only_fault limits source T h e (f.0 limits)))

pub scanned_lexed : (source : List ℕ) (r : Result (Unit {0}) SyntaxError)
    → OnOk r (IsScanned source) → OnOk r (LexesToSpanned source (tokens_ahead source 0))
scanned_lexed source (Err e) s = s
scanned_lexed source (Ok v) s = subst (LexesToSpanned source) (lexed_ahead source s.0 s.1 s.2) s.1

pub scanned_numbers : (source : List ℕ) (r : Result (Unit {0}) SyntaxError)
    → OnOk r (IsScanned source) → OnOk r (AreWithinLimit (tokens_ahead source 0))
scanned_numbers source (Err e) s = s
scanned_numbers source (Ok v) s = numbers_to source

pub scan_placed : (source : List ℕ) (e : SyntaxError) → IsScanFault source e
    → IsPlacedWithin (length source) e
scan_placed source e f = fault_placed standard_limits source e (f.0 standard_limits)

-- what follows from what a scan of the whole text answers
pub ruleset of_scan = (scanned_lexed, scanned_numbers, scan_placed)

-- what is so of the tokens ahead
pub ruleset of_ahead = (ahead_in_order, ahead_spelled)
