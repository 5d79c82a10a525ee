-- Where a stream is cut into lines: whole lines, and lines that have begun.
use Rattle.std.proofs.Common.{◌≡◌, ◌≢◌, ℕ, ◌+◌, List, [], ◌∷◌, ◌++◌, length, take, drop, refl, sym, ap, ◌∙◌, subst, inl, inr, ◌⊎◌, zero, suc, ◌<◌, ◌≤◌, ◌-◌, length-append, append_assoc, take-append-drop, arith, cond, eqb, get_or, true}
use Rattle.std.proofs.lemmas.Bool.{ne_eqb, eq-eqb, cond_both}
use Rattle.std.proofs.lemmas.List.{get_or_at, take-append-le}
use Rattle.std.specs.List.{AllByRecursion, onto_first}
use Rattle.fz_stream.specs.Parts.{Line, lines_of, joined}
use Rattle.fz_stream.specs.Splitting.{HasNoFeed, EndsWithFeed}
use Rattle.fz_stream.proofs.PartLemmas.{every_append, every_left, every_right}

-- the step of `lines_of` at a byte that is no LF
onto : (x : ℕ) (xs : List ℕ) → x ≢ 10 → lines_of (x ∷ xs) ≡ onto_first x (lines_of xs)
onto x xs n = ap (λ t. cond t ((x ∷ []) ∷ lines_of xs) (onto_first x (lines_of xs))) (ne_eqb x 10 n)

-- the lines are all of the bytes
pub joined-lines_of : (xs : List ℕ) → joined (lines_of xs) ≡ xs
joined-lines_of [] = refl
joined-lines_of (x ∷ xs) =
    cond_both (eqb x 10) ((x ∷ []) ∷ lines_of xs) (onto_first x (lines_of xs)) (λ ls. joined ls ≡ x ∷ xs) (λ _. ap (λ l. x ∷ l) (joined-lines_of xs))
    (λ _. in_front (lines_of xs) ∙ ap (λ l. x ∷ l) (joined-lines_of xs))
  where
    in_front : (ls : List Line) → joined (onto_first x ls) ≡ x ∷ joined ls
    in_front [] = refl
    in_front (l ∷ ls) = refl

-- a whole line is the first of what begins with it
lines_of-front : (front rest : List ℕ) → HasNoFeed front
    → lines_of (front ++ (10 ∷ rest)) ≡ (front ++ 10 ∷ []) ∷ lines_of rest
lines_of-front [] rest h = refl
lines_of-front (x ∷ front) rest h = onto x (front ++ (10 ∷ rest)) h.0 ∙ ap (onto_first x) (lines_of-front front rest h.1)

pub lines_of-line : (line rest : List ℕ) → EndsWithFeed line
    → lines_of (line ++ rest) ≡ line ∷ lines_of rest
lines_of-line line rest w =
    ap (λ l. lines_of (l ++ rest)) w.2 ∙ ap lines_of (append_assoc w.0 (10 ∷ []) rest) ∙ lines_of-front w.0 rest w.1 ∙ ap (λ l. l ∷ lines_of rest) (sym w.2)

-- whole lines are the first lines of what begins with them
pub lines_of-lines : (lines : List Line) (rest : List ℕ) → AllByRecursion EndsWithFeed lines
    → lines_of (joined lines ++ rest) ≡ lines ++ lines_of rest
lines_of-lines [] rest h = refl
lines_of-lines (l ∷ lines) rest h = ap lines_of (append_assoc l (joined lines) rest) ∙ lines_of-line l (joined lines ++ rest) h.0 ∙ ap (λ ls. l ∷ ls) (lines_of-lines lines rest h.1)

-- what begins with a whole line is cut behind it
pub first_whole : (xs line : List ℕ) → line ≡ take (length line) xs → EndsWithFeed line
    → lines_of xs ≡ line ∷ lines_of (drop (length line) xs)
first_whole xs line front w =
    ap lines_of (sym (take-append-drop (length line) xs) ∙ ap (λ l. l ++ drop (length line) xs) (sym front)) ∙ lines_of-line line (drop (length line) xs) w

-- bytes without LF are one line
pub one_line : (xs : List ℕ) → 0 < length xs → HasNoFeed xs → lines_of xs ≡ xs ∷ []
one_line [] l h = absurd (omega (arith, l))
one_line (x ∷ []) l h = onto x [] h.0
one_line (x ∷ y ∷ ys) l h = onto x (y ∷ ys) h.0 ∙ ap (onto_first x) (one_line (y ∷ ys) (omega arith) h.1)

-- the bytes before the first LF
pub no_feed_to : (xs : List ℕ) (i : ℕ) → ((k : ℕ) → k < i → eqb (get_or xs k 0) 10 ≡ true → ⊥)
    → HasNoFeed (take i xs)
no_feed_to [] zero n = tt
no_feed_to [] (suc i) n = tt
no_feed_to (x ∷ xs) zero n = tt
no_feed_to (x ∷ xs) (suc i) n = ((λ e. n 0 (omega arith) (eq-eqb x 10 e)), no_feed_to xs i (λ k l. n (suc k) (omega (arith, l))))

-- what has no LF doesn't end with one
pub no_end : (line : List ℕ) → HasNoFeed line → EndsWithFeed line → ⊥
no_end line h w = ((every_right (λ b. b ≢ 10) w.0 (10 ∷ []) (subst HasNoFeed w.2 h)).0) refl

-- where bytes are cut after whole lines
pub lines_after : (bytes : List ℕ) (lines : List Line) (current : List ℕ) (more : List ℕ)
    → bytes ≡ joined lines ++ current → AllByRecursion EndsWithFeed lines
    → lines_of (bytes ++ more) ≡ lines ++ lines_of (current ++ more)
lines_after bytes lines current more e h = ap lines_of (ap (λ l. l ++ more) e ∙ append_assoc (joined lines) current more) ∙ lines_of-lines lines (current ++ more) h

pub lines_up_to : (bytes : List ℕ) (lines : List Line) (current : List ℕ)
    → bytes ≡ joined lines ++ current → AllByRecursion EndsWithFeed lines
    → lines_of bytes ≡ lines ++ lines_of current
lines_up_to bytes lines current e h = ap lines_of e ∙ lines_of-lines lines current h

no_feed_at : (line : List ℕ) (i : ℕ) → HasNoFeed line → i < length line → get_or line i 0 ≡ 10 → ⊥
no_feed_at [] i h l e = omega (arith, l)
no_feed_at (x ∷ line) zero h l e = h.0 e
no_feed_at (x ∷ line) (suc i) h l e = no_feed_at line i h.1 (omega (arith, l)) e

-- the last byte tells which
pub whole_from_last : (line : Line) → EndsWithFeed line ⊎ HasNoFeed line → 0 < length line
    → get_or line (length line - 1) 0 ≡ 10 → EndsWithFeed line
whole_from_last line (inl w) l e = w
whole_from_last line (inr n) l e = absurd (no_feed_at line (length line - 1) n (omega arith) e)

pub begun_from_last : (line : Line) → EndsWithFeed line ⊎ HasNoFeed line
    → (get_or line (length line - 1) 0 ≡ 10 → ⊥) → HasNoFeed line
begun_from_last line (inr n) e = n
begun_from_last line (inl w) e =
    let size : length line ≡ length w.0 + 1 = ap length w.2 ∙ length-append w.0 (10 ∷ []) in
    absurd (e (ap (λ l. get_or l (length line - 1) 0) w.2 ∙ get_or_at w.0 10 [] 0 (length line - 1) (omega (arith, size))))

-- a line that has begun, and the rest of it
pub whole_joined : (current part : List ℕ) → HasNoFeed current → EndsWithFeed part
    → EndsWithFeed (current ++ part)
whole_joined current part n w = (current ++ w.0, every_append (λ b. b ≢ 10) current w.0 n w.1, ap (λ l. current ++ l) w.2 ∙ sym (append_assoc current w.0 (10 ∷ [])))

no_feed_take : (line : List ℕ) (n : ℕ) → HasNoFeed line → HasNoFeed (take n line)
no_feed_take line n h = every_left (λ b. b ≢ 10) (take n line) (drop n line) (subst HasNoFeed (sym (take-append-drop n line)) h)

-- a line has no LF before its last byte
pub no_feed_before : (line : Line) (n : ℕ) → EndsWithFeed line ⊎ HasNoFeed line → n < length line
    → HasNoFeed (take n line)
no_feed_before line n (inl w) l =
    let before : n ≤ length w.0 = omega (arith, l, ap length w.2, length-append w.0 (10 ∷ [])) in
    subst HasNoFeed (sym (ap (take n) w.2 ∙ take-append-le n w.0 (10 ∷ []) before)) (no_feed_take w.0 n w.1)
no_feed_before line n (inr h) l = no_feed_take line n h
