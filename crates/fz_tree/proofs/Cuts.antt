-- Cuts joined end to end, and that a source has one cut.
use Rattle.std.proofs.Common.{◌≡◌, ℕ, ◌+◌, ◌<◌, ◌≤◌, List, [], ◌∷◌, ◌++◌, length, drop, get_or, ℤ, true, refl, sym, ap, ◌∙◌, subst, arith}
use Rattle.std.specs.List.{position_or_len}
use Rattle.fz_tree.specs.Token.{is_blank, is_line_feed, TokenValue, Whole}
use Rattle.fz_tree.specs.Lexing.{SpannedToken, CutBetween, nothing, blank, comment, spelling, IsWholeComment, IsLongestSpelling, IsWithinLimit, IsTokenWithinLimit}
use Rattle.fz_tree.specs.Spanned.{NothingBegins, AreWithinLimit}
use Rattle.fz_tree.specs.Found.{AreInOrder}
use Rattle.std.proofs.lemmas.List.{get_or-drop, append-nil}
use Rattle.fz_tree.proofs.Fronts.{blank_none, comment_none}
use Rattle.fz_tree.proofs.Laws.{longest_is_found, longest_is_positive}

pub at_place : (source : List ℕ) (q : ℕ) → get_or (drop q source) 0 0 ≡ get_or source q 0
at_place source q = get_or-drop q source 0 0 ∙ ap (λ k. get_or source k 0) (omega arith)

pub cut_then : {source : List ℕ} {p q r : ℕ} {S T : List SpannedToken} → CutBetween source p q S
    → CutBetween source q r T → CutBetween source p r (S ++ T)
cut_then (nothing p) k = k
cut_then (blank p e S h b c) k = blank p _ _ h b (cut_then c k)
cut_then (comment p n e S w c) k = comment p n _ _ w (cut_then c k)
cut_then (spelling p n e t S s f l c) k = spelling p n _ t _ s f l (cut_then c k)

pub gap_then_blank : (source : List ℕ) (p q : ℕ) → CutBetween source p q [] → q < length source
    → is_blank (get_or source q 0) ≡ true → CutBetween source p (q + 1) []
gap_then_blank source p q c h b = cut_then c (blank q _ _ h b (nothing (q + 1)))

pub gap_then_comment : (source : List ℕ) (p q n : ℕ) → CutBetween source p q []
    → get_or source q 0 ≡ 37 → n ≡ position_or_len is_line_feed (drop q source)
    → CutBetween source p (q + n) []
gap_then_comment source p q n c b e = cut_then c (comment q n _ _ (record { begins = at_place source q ∙ b; runs = e }) (nothing (q + n)))

pub gap_then_token : (source : List ℕ) (p q n : ℕ) (t : SpannedToken) → CutBetween source p q []
    → t.start ≡ q → t.end ≡ q + n → IsLongestSpelling (drop q source) n t.token
    → CutBetween source p (q + n) (t ∷ [])
gap_then_token source p q n t c s e l = cut_then c (spelling q n _ t _ s e l (nothing (q + n)))

-- ---- A source has one cut.

pub comment_positive : (bytes : List ℕ) (n : ℕ) → IsWholeComment bytes n → 0 < n
comment_positive [] n w = absurd (let b = w.begins in omega arith)
comment_positive (b ∷ rest) n w =
    let begins : b ≡ 37 = w.begins in
    let runs = rw begins at w.runs in
    omega arith

pub cut_forward : {source : List ℕ} {p q : ℕ} {S : List SpannedToken} → CutBetween source p q S
    → p ≤ q
cut_forward (nothing p) = omega arith
cut_forward (blank p q S h b c) = let f = cut_forward c in omega arith
cut_forward (comment p n q S w c) = let f = cut_forward c in omega arith
cut_forward (spelling p n q t S s e l c) = let f = cut_forward c in omega arith

no_token_at_blank : (source : List ℕ) (p n : ℕ) (t : TokenValue)
    → is_blank (get_or source p 0) ≡ true → IsLongestSpelling (drop p source) n t → ⊥
no_token_at_blank source p n t b l =
    let blank_there : is_blank (get_or (drop p source) 0 0) ≡ true = rw at_place b in
    cc (longest_is_found _ t n l, blank_none (drop p source) blank_there)

no_token_at_comment : (source : List ℕ) (p n m : ℕ) (t : TokenValue)
    → IsWholeComment (drop p source) m → IsLongestSpelling (drop p source) n t → ⊥
no_token_at_comment source p n m t w l = cc (longest_is_found _ t n l, comment_none (drop p source) w.begins)

no_blank_at_comment : (source : List ℕ) (p m : ℕ) → is_blank (get_or source p 0) ≡ true
    → IsWholeComment (drop p source) m → ⊥
no_blank_at_comment source p m b w =
    let e : get_or source p 0 ≡ 37 = sym (at_place source p) ∙ w.begins in
    let f = rw e at b in
    cc f

after_blank : {source : List ℕ} {p r : ℕ} {T : List SpannedToken} → CutBetween source p r T → p < r
    → is_blank (get_or source p 0) ≡ true → CutBetween source (p + 1) r T
after_blank (nothing p) h b = absurd (omega arith)
after_blank (blank p r T l f c) h b = c
after_blank {source} (comment p n r T w c) h b = absurd (no_blank_at_comment source p n b w)
after_blank {source} (spelling p n r t T s e l c) h b = absurd (no_token_at_blank source p n t.token b l)

after_comment : {source : List ℕ} {p r : ℕ} {T : List SpannedToken} (m : ℕ)
    → CutBetween source p r T → p < r → IsWholeComment (drop p source) m
    → CutBetween source (p + m) r T
after_comment m (nothing p) h w = absurd (omega arith)
after_comment {source} m (blank p r T l f c) h w = absurd (no_blank_at_comment source p m f w)
after_comment {source} m (comment p n r T v c) h w =
    let same : n ≡ m = v.runs ∙ sym w.runs in
    rw same at c
after_comment {source} m (spelling p n r t T s e l c) h w = absurd (no_token_at_comment source p n m t.token w l)

-- what a cut begins with where the text of a token begins
pub record BeginsWith (source : List ℕ) (p n r : ℕ) (value : TokenValue) (T : List SpannedToken) : Type 0 where
  pub token : SpannedToken
  pub rest : List SpannedToken
  pub is : T ≡ token ∷ rest
  pub start : token.start ≡ p
  pub end : token.end ≡ p + n
  pub same_value : token.token ≡ value
  pub cut : CutBetween source (p + n) r rest

pub after_spelling : {source : List ℕ} {p r : ℕ} {T : List SpannedToken} (m : ℕ) (u : TokenValue)
    → CutBetween source p r T → p < r → IsLongestSpelling (drop p source) m u
    → BeginsWith source p m r u T
after_spelling m u (nothing p) h k = absurd (omega arith)
after_spelling {source} m u (blank p r T l f c) h k = absurd (no_token_at_blank source p m u f k)
after_spelling {source} m u (comment p n r T v c) h k = absurd (no_token_at_comment source p m n u v k)
after_spelling {source} m u (spelling p n r t T s e l c) h k =
    let a = longest_is_found (drop p source) t.token n l in
    let b = longest_is_found (drop p source) u m k in
    let same_len : n ≡ m = cc (a, b) in
    let same : t.token ≡ u = cc (a, b) in
    record { token = t; rest = T; is = refl; start = s; end = rw same_len at e; same_value = same; cut = rw same_len at c }

same_spanned : (a b : SpannedToken) → a.token ≡ b.token → a.start ≡ b.start → a.end ≡ b.end → a ≡ b
same_spanned a b t s e = λ i. record { token = t i; start = s i; end = e i }

-- one cut is the beginning of another that goes at least as far
pub record Continues (source : List ℕ) (q r : ℕ) (S T : List SpannedToken) : Type 0 where
  pub rest : List SpannedToken
  pub is : T ≡ S ++ rest
  pub cut : CutBetween source q r rest

pub cut_continues : {source : List ℕ} {p q r : ℕ} {S T : List SpannedToken}
    → CutBetween source p q S → CutBetween source p r T → q ≤ r → Continues source q r S T
cut_continues {T = T} (nothing p) k h = record { rest = T; is = refl; cut = k }
cut_continues (blank p q S l b c) k h =
    let f = cut_forward c in
    cut_continues c (after_blank k (omega arith) b) h
cut_continues {source} (comment p n q S w c) k h =
    let f = cut_forward c in
    let n_positive = comment_positive (drop p source) n w in
    cut_continues c (after_comment n k (omega arith) w) h
cut_continues {source} (spelling p n q t S s e l c) k h =
    let f = cut_forward c in
    let n_positive = longest_is_positive (drop p source) t.token n l in
    let b = after_spelling n t.token k (omega arith) l in
    let d = cut_continues c b.cut h in
    let same = same_spanned b.token t b.same_value (b.start ∙ sym s) (b.end ∙ sym e) in
    let is = b.is in
    let rest_is = d.is in
    record { rest = d.rest; is = cc (is, same, rest_is); cut = d.cut }

pub cut_stays : {source : List ℕ} {q r : ℕ} {R : List SpannedToken} → CutBetween source q r R
    → r ≤ q → R ≡ []
cut_stays (nothing p) h = refl
cut_stays (blank p q S l b c) h = let f = cut_forward c in absurd (omega arith)
cut_stays {source} (comment p n q S w c) h = let f = cut_forward c in let g = comment_positive (drop p source) n w in absurd (omega arith)
cut_stays {source} (spelling p n q t S s e l c) h = let f = cut_forward c in let g = longest_is_positive (drop p source) t.token n l in absurd (omega arith)

-- two cuts between the same offsets are into the same tokens
pub cut_once : {source : List ℕ} {p q : ℕ} {S T : List SpannedToken} → CutBetween source p q S
    → CutBetween source p q T → S ≡ T
cut_once {S = S} c k =
    let d = cut_continues c k (omega arith) in
    let none_left = cut_stays d.cut (omega arith) in
    sym (d.is ∙ (ap (λ R. S ++ R) none_left ∙ append-nil S))

-- where nothing begins, no cut goes on
pub no_cut_from : {source : List ℕ} {p r : ℕ} {T : List SpannedToken} → CutBetween source p r T
    → p < r → NothingBegins (drop p source) → ⊥
no_cut_from (nothing p) h n = omega arith
no_cut_from {source} (blank p r T l b c) h n =
    let blank_there : is_blank (get_or (drop p source) 0 0) ≡ true = rw at_place b in
    let no_blank = n.no_blank in
    cc (blank_there, no_blank)
no_cut_from (comment p m r T w c) h n = n.no_comment w.begins
no_cut_from (spelling p m r t T s e l c) h n = n.no_spelling t.token m l.within l.spelled

-- a cut over a number outside the limit isn't within the limit
pub no_limit_from : {source : List ℕ} {p r : ℕ} {T : List SpannedToken} (n : ℕ) (z : ℤ)
    → CutBetween source p r T → p < r → IsLongestSpelling (drop p source) n (Whole z)
    → (¬ (IsWithinLimit z)) → AreWithinLimit T → ⊥
no_limit_from n z c h l o a =
    let b = after_spelling n (Whole z) c h l in
    let all : AreWithinLimit (b.token ∷ b.rest) = subst AreWithinLimit b.is a in
    o (subst IsTokenWithinLimit b.same_value all.0)

-- the spans of a cut are in order
ordered_before : (from p end : ℕ) (T : List SpannedToken) → from ≤ p → AreInOrder p end T
    → AreInOrder from end T
ordered_before from p end [] h o = omega arith
ordered_before from p end (t ∷ T) h o = (omega (arith, o.0), o.1, o.2)

pub in_order_upto : (from a b : ℕ) (T : List SpannedToken) → a ≤ b → AreInOrder from a T
    → AreInOrder from b T
in_order_upto from a b [] h o = omega arith
in_order_upto from a b (t ∷ T) h o = (o.0, o.1, in_order_upto t.end a b T h o.2)

pub cut_ordered : {source : List ℕ} {p r : ℕ} {T : List SpannedToken} → CutBetween source p r T
    → AreInOrder p r T
cut_ordered (nothing p) = omega arith
cut_ordered (blank p r T l b c) = ordered_before p (p + 1) r T (omega arith) (cut_ordered c)
cut_ordered (comment p n r T w c) = ordered_before p (p + n) r T (omega arith) (cut_ordered c)
cut_ordered {source} (spelling p n r t T s e l c) =
    let g = longest_is_positive (drop p source) t.token n l in
    (omega arith, omega arith, ordered_before t.end (p + n) r T (omega arith) (cut_ordered c))
