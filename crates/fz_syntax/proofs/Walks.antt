-- How the parser's steps join: what it took between two states, and then between the next two, it
-- took between the first and the last.
use Rattle.std.proofs.Common.{true, false, ◌≡◌, ◌<◌, ℕ, Bool, List, [], ◌∷◌, ◌++◌, length, length-append, map, drop, eqb, cond, Result, Ok, Err, ⊎_elim, refl, sym, ap, subst, ◌∙◌, append_assoc, arith}
use Rattle.std.specs.Prelude.{IfOk, if◌then◌else◌, ◌==◌, codes}
use Rattle.std.specs.List.{flat_map}
use Rattle.std.specs.Bool.{OnFalse}
use Rattle.std.proofs.lemmas.List.{append-nil, append_cancel_right, map-append, length-map}
use Rattle.std.proofs.lemmas.Bool.{eqb-true, cases_Bool}
use Rattle.std.proofs.lemmas.Grind.{flat_map-append}
use Rattle.fz_tree.specs.declared.span.Span.{Span}
use Rattle.fz_tree.specs.Token.{TokenValue, Word, Marked}
use Rattle.fz_tree.specs.Lexing.{SpannedToken}
use Rattle.fz_tree.specs.Left.{left, listed_comma, source_of}
use Rattle.fz_tree.specs.declared.ahead.Listed.{Listed}
use Rattle.fz_tree.specs.Spanned.{spanned}
use Rattle.fz_tree.specs.declared.token.Mark.{Mark}
use Rattle.fz_tree.specs.declared.token.Mark.TheVariants.{OpenParen, CloseParen, OpenBracket, CloseBracket, Comma}
use Rattle.fz_tree.specs.declared.token.Token.{Token}
use Rattle.fz_tree.specs.Tree as tree
use Rattle.fz_tree.specs.Tokens.{mark, word, literal_toks, var_toks, array_word}
use Rattle.fz_tree.specs.View.{lexeme, bare_literal, bare_literal_kind}
use Rattle.fz_syntax.specs.Reading.{Reader, next_is, next_word, mark_at, word_at}
use Rattle.fz_syntax.specs.ReadingItems.{next_dimensions}
use Rattle.fz_syntax.specs.Outcome.{Gives, IsListed, plain_token, plain_kind}
use Rattle.fz_syntax.specs.declared.parser.refusal.Refusal.{Refusal}
use Rattle.fz_syntax.specs.declared.parser.kinds.Plain.{Plain}
use Rattle.fz_syntax.specs.declared.parser.kinds.Plain.TheVariants as plains
use Rattle.fz_syntax.specs.declared.parser.cursor.Parser.{Parser}
use Rattle.fz_tree.specs.declared.tree.LiteralKind.{LiteralKind}
use Rattle.fz_tree.specs.declared.tree.Literal.{Literal}
use Rattle.fz_tree.specs.declared.tree.NoteArg.{NoteArg}
use Rattle.fz_tree.specs.declared.tree.NoteBasic.{NoteBasic}
use Rattle.fz_tree.specs.declared.tree.PrintedValue.{PrintedValue}
use Rattle.fz_syntax.specs.Placed.{PlacedToken, AgreeWith, unplaced, plain, placed_mark, placed_word, placed_separated, placed_between, starting_at, ending_at, placed_literal, placed_parts, placed_args, placed_arg, placed_note_basic, placed_printed_value}
use Rattle.fz_syntax.specs.Walk.{ahead, lexemes, start_of, end_of, Consumed, Passed, Walk, Passes, Walks, placed_listed}
use Rattle.fz_syntax.proofs.Laws.{Takes, marked_tokens, worded_tokens, mark_takes, word_takes}
use Rattle.fz_syntax.proofs.PrintedLaws.{array_tokens}
use Rattle.fz_syntax.proofs.Separated.{fails_bind, fails_from}

-- ---- tokens that were taken

end_append : (from : ℕ) (xs ys : List SpannedToken)
    → end_of from (xs ++ ys) ≡ end_of (end_of from xs) ys
end_append from [] ys = refl
end_append from (x ∷ xs) ys = end_append x.end xs ys

consumed : (p q : Parser) (taken : List SpannedToken) → ahead p ≡ taken ++ ahead q
    → q.reached ≡ end_of p.reached taken → source_of q.tokens ≡ source_of p.tokens
    → q.end ≡ p.end → Consumed p q taken
consumed p q taken split upto same end = record {
  split = split;
  upto = upto;
  same_source = same;
  shorter = simp length-map (omega (arith, simp length-append at (ap length split)));
  end = end;
}

consumed_then : {p q r : Parser} {xs ys : List SpannedToken} → Consumed p q xs → Consumed q r ys
    → Consumed p r (xs ++ ys)
consumed_then {p} {q} {r} {xs} {ys} a b = record {
  split = a.split ∙ ap (λ (ts : List SpannedToken). xs ++ ts) b.split ∙ sym (append_assoc xs ys (ahead r));
  upto = b.upto ∙ ap (λ (n : ℕ). end_of n ys) a.upto ∙ sym (end_append p.reached xs ys);
  same_source = b.same_source ∙ a.same_source;
  shorter = omega arith;
  end = b.end ∙ a.end;
}

pub passed_none : {p : Parser} → Passed p p
passed_none {p} = record { taken = []; on = consumed p p [] refl refl refl refl }

pub passed_then : {p q r : Parser} → Passed p q → Passed q r → Passed p r
passed_then a b = record { taken = a.taken ++ b.taken; on = consumed_then a.on b.on }

pub passed : {p q : Parser} {placed : List PlacedToken} → Walk p q placed → Passed p q
passed w = record { taken = w.taken; on = w.on }

-- the first token is taken
pub skip_passed : (p q : Parser) (t : SpannedToken) (rest : List SpannedToken) → ahead p ≡ t ∷ rest
    → ahead q ≡ rest → q.reached ≡ t.end → source_of q.tokens ≡ source_of p.tokens
    → q.end ≡ p.end → Passed p q
skip_passed p q t rest before after upto same end = record {
  taken = t ∷ [];
  on = consumed p q (t ∷ []) (before ∙ ap (λ (ts : List SpannedToken). t ∷ ts) (sym after)) upto same end;
}

-- ---- and their byte ranges

agree_then : (s t : List PlacedToken) (xs ys : List SpannedToken) → AgreeWith s xs → AgreeWith t ys
    → AgreeWith (s ++ t) (xs ++ ys)
agree_then [] t [] ys a b = b
agree_then [] t (x ∷ xs) ys a b = absurd a
agree_then (p ∷ s) t [] ys a b = absurd a
agree_then (p ∷ s) t (x ∷ xs) ys a b = (a.0, agree_then s t xs ys a.1 b)

pub walk_none : {p : Parser} → Walk p p []
walk_none {p} = record { taken = []; on = consumed p p [] refl refl refl refl; agree = tt }

-- the parser is where it was
pub walk_same : {p q : Parser} → q ≡ p → Walk p q []
walk_same {p} {q} same = subst (λ (r : Parser). Walk p r []) (sym same) walk_none

-- it took no token
pub walk_still : (p q : Parser) → ahead q ≡ ahead p → q.reached ≡ p.reached
    → source_of q.tokens ≡ source_of p.tokens → q.end ≡ p.end → Walk p q []
walk_still p q left upto same end = record { taken = []; on = consumed p q [] (sym left) upto same end; agree = tt }

-- the parser was where it is now
pub walk_from : {p q r : Parser} {s : List PlacedToken} → q ≡ p → Walk q r s → Walk p r s
walk_from {p} {q} {r} {s} same w = subst (λ (x : Parser). Walk x r s) same w

-- a mark that was looked for and not found
pub walk_kept : {p q r : Parser} {s : List PlacedToken} (b : Bool) → b ≡ false → OnFalse b (r ≡ q)
    → Walk p q s → Walk p r s
walk_kept true none kept w = absurd cc
walk_kept {p} {q} {r} {s} false none kept w = subst (λ (x : Parser). Walk p x s) (sym kept) w

pub walk_then : {p q r : Parser} {s t : List PlacedToken} → Walk p q s → Walk q r t
    → Walk p r (s ++ t)
walk_then {p} {q} {r} {s} {t} w v = record { taken = w.taken ++ v.taken; on = consumed_then w.on v.on; agree = agree_then s t w.taken v.taken w.agree v.agree }

-- the parser had the same left to read
pub walk_as : {p q r : Parser} {s : List PlacedToken} → q.tokens ≡ p.tokens
    → q.reached ≡ p.reached → q.end ≡ p.end → Walk q r s → Walk p r s
walk_as {p} {q} same upto end w = walk_then (walk_still p q (ap left same) upto (ap source_of same) end) w

pub walk_end : {p q r : Parser} {s : List PlacedToken} → Walk p q s → Walk q r [] → Walk p r s
walk_end {p} {q} {r} {s} w v = subst (λ (t : List PlacedToken). Walk p r t) (append-nil s) (walk_then w v)

-- ---- tokens of which no offset is known

abbrev values : List SpannedToken → List TokenValue
values ts = map (λ t. t.token) ts

values_agree : (ts : List SpannedToken) → AgreeWith (plain (values ts)) ts
values_agree [] = tt
values_agree (t ∷ ts) = (record { token = refl; start = tt; end = tt }, values_agree ts)

pub plain_walk : {p q : Parser} (ts : List TokenValue) → Passed p q → lexemes p ≡ ts ++ lexemes q
    → Walk p q (plain ts)
plain_walk {p} {q} ts w e =
    let both : values w.taken ++ lexemes q ≡ ts ++ lexemes q = sym (map-append (λ (t : SpannedToken). t.token) w.taken (ahead q)) ∙ (sym (ap values w.on.split) ∙ e) in
    record { taken = w.taken; on = w.on; agree = subst (λ (us : List TokenValue). AgreeWith (plain us) w.taken) (append_cancel_right (values w.taken) ts (lexemes q) both) (values_agree w.taken) }

-- what was read is spelled so
pub read_walk : {A : Type 0} {p q : Parser} (toks : A → List TokenValue) (Is : A → Type 0)
    (read : Reader A) → Takes toks Is read → (x : A) → Passed p q
    → read (lexemes p) ≡ Ok (x, lexemes q) → Walk p q (plain (toks x))
read_walk {A} {p} {q} toks Is read takes x w e = plain_walk (toks x) w (takes (lexemes p) (x, lexemes q) e).parts

-- a mark or a word that was wanted
pub mark_walk : {p q : Parser} (m : Mark) → Passed p q → mark_at m (lexemes p) ≡ Ok (tt, lexemes q)
    → Walk p q (placed_mark m)
mark_walk {p} {q} m w e = plain_walk (mark m) w (mark_takes m (lexemes p) (tt, lexemes q) e).parts

pub word_walk : {p q : Parser} (text : List ℕ) → Passed p q
    → word_at text (lexemes p) ≡ Ok (tt, lexemes q) → Walk p q (placed_word text)
word_walk {p} {q} text w e = plain_walk (word text) w (word_takes text (lexemes p) (tt, lexemes q) e).parts

-- a word that was looked for and found is taken
pub word_begun : (text : List ℕ) (ts rest : List TokenValue) → next_word text ts ≡ true
    → rest ≡ drop 1 ts → word_at text ts ≡ Ok (tt, rest)
unfolding word_at
word_begun text ts rest begun behind = rw (begun, behind) refl

-- a mark that was looked for and found
pub ate : {p q : Parser} (m : Mark) (b : Bool) → b ≡ true → b ≡ next_is m (lexemes p)
    → lexemes q ≡ (if next_is m (lexemes p) then drop 1 (lexemes p) else lexemes p) → Passed p q
    → Walk p q (placed_mark m)
ate {p} {q} m b wanted found left w =
    let there : next_is m (lexemes p) ≡ true = sym found ∙ wanted in
    let behind : lexemes q ≡ drop 1 (lexemes p) = left ∙ ap (λ (c : Bool). cond c (drop 1 (lexemes p)) (lexemes p)) there in
    plain_walk (mark m) w (marked_tokens m (lexemes p) there ∙ ap (λ (ts : List TokenValue). Marked m ∷ ts) (sym behind))

pub ate_word : {p q : Parser} (text : List ℕ) (b : Bool) → b ≡ true → b ≡ next_word text (lexemes p)
    → lexemes q ≡ (if next_word text (lexemes p) then drop 1 (lexemes p) else lexemes p)
    → Passed p q → Walk p q (placed_word text)
ate_word {p} {q} text b wanted found left w =
    let there : next_word text (lexemes p) ≡ true = sym found ∙ wanted in
    let behind : lexemes q ≡ drop 1 (lexemes p) = left ∙ ap (λ (c : Bool). cond c (drop 1 (lexemes p)) (lexemes p)) there in
    plain_walk (word text) w (worded_tokens text (lexemes p) there ∙ ap (λ (ts : List TokenValue). Word text ∷ ts) (sym behind))

-- the word `var`, where it is there
abbrev var_word : List ℕ
var_word = codes "var"

pub var_walk : {p q : Parser} (b : Bool) → b ≡ next_word var_word (lexemes p)
    → lexemes q ≡ (if next_word var_word (lexemes p) then drop 1 (lexemes p) else lexemes p)
    → Passed p q → OnFalse b (q ≡ p) → Walk p q (plain (var_toks b))
var_walk true found left w kept = ate_word var_word true refl found left w
var_walk false found left w kept = walk_same kept

-- the word that begins an array
fewer : (n : ℕ) (ts us vs : List TokenValue) → 0 < n → vs ≡ (if n == 0 then ts else us) → vs ≡ us
fewer n ts us vs some e =
    ⊎_elim (λ none. absurd (let zero_of = eqb-true n 0 none in omega (arith, some, zero_of))) (λ other. e ∙ ap (λ (c : Bool). cond c ts us) other) (cases_Bool (eqb n 0))

pub array_word_walk : {p q : Parser} (n : ℕ) → 0 < n → n ≡ next_dimensions (lexemes p)
    → lexemes q ≡ (if next_dimensions (lexemes p) == 0 then lexemes p else drop 1 (lexemes p))
    → Passed p q → Walk p q (placed_word (array_word n))
array_word_walk {p} {q} n some found left w =
    let there : 0 < next_dimensions (lexemes p) = omega (arith, some, found) in
    let behind : lexemes q ≡ drop 1 (lexemes p) = fewer (next_dimensions (lexemes p)) (lexemes p) (drop 1 (lexemes p)) (lexemes q) there left in
    let before : lexemes p ≡ word (array_word (next_dimensions (lexemes p))) ++ lexemes q = (array_tokens (lexemes p) there).0 ∙ ap (λ (ts : List TokenValue). Word (array_word (next_dimensions (lexemes p))) ∷ ts) (sym behind) in
    subst (λ (k : ℕ). Walk p q (placed_word (array_word k))) (sym found) (plain_walk (word (array_word (next_dimensions (lexemes p)))) w before)

pub array_walk : {p q : Parser} (r : Parser) (n : ℕ) (result : Result PrintedValue Refusal)
    → Walk p q (placed_word (array_word n)) → IfOk result
    (λ v. placed_printed_value v ≡ placed_word (array_word n) ++ drop 1 (placed_printed_value v))
    → Walks q r result (λ v. drop 1 (placed_printed_value v)) → Walks p r result placed_printed_value
array_walk {p} {q} r n (Ok v) w worded behind = subst (λ (s : List PlacedToken). Walk p r s) (sym worded) (walk_then w behind)
array_walk r n (Err e) w worded behind = record { shorter = omega (arith, w.on.shorter); end = behind.end ∙ w.on.end }

-- ---- literals

starts : (n end : ℕ) (s : List PlacedToken) (xs rest : List SpannedToken)
    → n ≡ start_of (xs ++ rest) end → AgreeWith s xs → AgreeWith (starting_at n s) xs
starts n end [] xs rest e a = a
starts n end (p ∷ s) [] rest e a = absurd a
starts n end (p ∷ s) (x ∷ xs) rest e a = (record { token = a.0.token; start = e; end = a.0.end }, a.1)

ends : (n from : ℕ) (s : List PlacedToken) (xs : List SpannedToken) → n ≡ end_of from xs
    → AgreeWith s xs → AgreeWith (ending_at n s) xs
ends n from [] xs e a = a
ends n from (p ∷ []) [] e a = absurd a
ends n from (p ∷ []) (x ∷ []) e a = (record { token = a.0.token; start = a.0.start; end = e }, tt)
ends n from (p ∷ []) (x ∷ (y ∷ xs)) e a = absurd a.1
ends n from (p ∷ (q ∷ s)) [] e a = absurd a
ends n from (p ∷ (q ∷ s)) (x ∷ xs) e a = (a.0, ends n x.end (q ∷ s) xs e a.1)

-- a literal goes from where its first token starts up to where its last one ends
literal_walk : {p q : Parser} (l : Literal) → Passed p q
    → lexemes p ≡ literal_toks (bare_literal l) ++ lexemes q
    → l.span.start ≡ start_of (ahead p) p.end → l.span.end ≡ q.reached → Walk p q (placed_literal l)
literal_walk {p} {q} l w tokens at upto =
    let s : List PlacedToken = plain (literal_toks (bare_literal l)) in
    let v : Walk p q s = plain_walk (literal_toks (bare_literal l)) w tokens in
    record {
      taken = v.taken;
      on = v.on;
      agree = starts l.span.start p.end (ending_at l.span.end s) v.taken (ahead q) (at ∙ ap (λ (ts : List SpannedToken). start_of ts p.end) v.on.split) (ends l.span.end p.reached s v.taken (upto ∙ v.on.upto) v.agree);
    }

pub read_literal : (p q : Parser) (Is : tree.Literal → Type 0) (read : Reader tree.Literal)
    → Takes literal_toks Is read → (result : Result Literal Refusal) (start : ℕ)
    → Gives p q result bare_literal read → start ≡ start_of (ahead p) p.end → Passes p q result
    → IfOk result (λ l. (l.span.start ≡ start) × (l.span.end ≡ q.reached)) → Walks p q result placed_literal
read_literal p q Is read takes (Ok l) start given at w span = literal_walk l w (takes (lexemes p) (bare_literal l, lexemes q) given).parts (span.0 ∙ at) span.1
read_literal p q Is read takes (Err e) start given at w span = w

-- the first two tokens are taken, a literal of one token and the comma behind it
pub listed_pair : (p q : Parser) (l : Listed) → ahead p ≡ spanned l.token
    ∷ (listed_comma l ∷ ahead q) → q.reached ≡ l.comma.end → source_of q.tokens ≡ source_of p.tokens
    → q.end ≡ p.end → Walk p q (placed_listed (lexeme l.token) l.token.span)
listed_pair p q l before upto same end = record {
  taken = spanned l.token ∷ (listed_comma l ∷ []);
  on = consumed p q (spanned l.token ∷ (listed_comma l ∷ [])) before upto same end;
  agree = (record { token = refl; start = refl; end = refl }, (record { token = refl; start = tt; end = tt }, tt));
}

listed_is : (k : Plain) (span : Span) → placed_listed (plain_token k) span ≡ placed_literal (record { span = span; what = plain_kind k }) ++ placed_mark Comma
listed_is (plains.Whole z) span = refl
listed_is (plains.Truth b) span = refl

same_first : (ts : List SpannedToken) (first : SpannedToken) (rest : List SpannedToken)
    (t : TokenValue) (others : List TokenValue) → ts ≡ first ∷ rest → values ts ≡ t ∷ others
    → t ≡ first.token
same_first ts first rest t others e f = let g : first.token ∷ values rest ≡ t ∷ others = sym (ap values e) ∙ f in cc g

pub listed_walk : {p q : Parser} (k : Plain) (first t : Token) (rest : List SpannedToken)
    (others : List TokenValue) (what : LiteralKind) → ahead p ≡ spanned first ∷ rest
    → lexeme first ≡ plain_token k → what ≡ plain_kind k
    → lexemes p ≡ lexeme t ∷ others → Walk p q (placed_listed (lexeme t) t.span) → Walk p q (placed_literal (record { span = t.span; what = what }) ++ placed_mark Comma)
listed_walk {p} {q} k first t rest others what before is kind read w =
    let token : lexeme t ≡ plain_token k = same_first (ahead p) (spanned first) rest (lexeme t) others before read ∙ is in
    let plain_one : Walk p q (placed_listed (plain_token k) t.span) = subst (λ (u : TokenValue). Walk p q (placed_listed u t.span)) token w in
    let literal : Walk p q (placed_literal (record { span = t.span; what = plain_kind k }) ++ placed_mark Comma) = subst (λ (s : List PlacedToken). Walk p q s) (listed_is k t.span) plain_one in
    subst (λ (m : LiteralKind). Walk p q (placed_literal (record { span = t.span; what = m }) ++ placed_mark Comma)) (sym kind) literal

kind_listed : (k : Plain) (before after : List TokenValue)
    → before ≡ plain_token k ∷ (Marked Comma ∷ after)
    → IsListed (bare_literal_kind (plain_kind k)) before after
kind_listed (plains.Whole z) before after e = e
kind_listed (plains.Truth b) before after e = e

pub listed_read : (p q : Parser) (k : Plain) (first t : Token) (rest : List SpannedToken)
    (what : LiteralKind) → ahead p ≡ spanned first ∷ rest → lexeme first ≡ plain_token k
    → what ≡ plain_kind k
    → lexemes p ≡ lexeme t ∷ (Marked Comma ∷ lexemes q) → IsListed (bare_literal_kind what) (lexemes p) (lexemes q)
listed_read p q k first t rest what before is kind read =
    let token : lexeme t ≡ plain_token k = same_first (ahead p) (spanned first) rest (lexeme t) (Marked Comma ∷ lexemes q) before read ∙ is in
    subst (λ (m : LiteralKind). IsListed (bare_literal_kind m) (lexemes p) (lexemes q)) (sym kind) (kind_listed k (lexemes p) (lexemes q) (read ∙ ap (λ (u : TokenValue). u ∷ (Marked Comma ∷ lexemes q)) token))

-- ---- lists

flat_map_grown : {A : Type 0} (f : A → List PlacedToken) (front : List A) (x : A)
    → flat_map f (front ++ x ∷ []) ≡ flat_map f front ++ f x
flat_map_grown f front x = flat_map-append f front (x ∷ []) ∙ ap (λ (s : List PlacedToken). flat_map f front ++ s) (append-nil (f x))

-- no part yet
pub walk_zero : {A : Type 0} (f : A → List PlacedToken) {p : Parser} (items : List A) → items ≡ []
    → Walk p p (flat_map f items)
walk_zero f {p} items none = subst (λ xs. Walk p p (flat_map f xs)) (sym none) walk_none

-- one more part of a list
pub walk_more : {A : Type 0} (f : A → List PlacedToken) {p q r : Parser} (front items : List A)
    (x : A) → items ≡ front ++ x ∷ [] → Walk p q (flat_map f front) → Walk q r (f x)
    → Walk p r (flat_map f items)
walk_more f {p} {q} {r} front items x grew w v =
    subst (λ s. Walk p r s) (sym (ap (flat_map f) grew ∙ flat_map_grown f front x)) (walk_then w v)

pub some_pushed : {A : Type 0} (front items : List A) (x : A) → items ≡ front ++ x ∷ []
    → 0 < length items
some_pushed {A} front items x grew =
    let longer : length items ≡ length (front ++ x ∷ []) = ap length grew in
    let both = length-append front (x ∷ []) in
    omega (arith, longer, both)

-- the first part of parts with commas between them
pub separated_first : {A : Type 0} (f : A → List PlacedToken) {p q : Parser} (made items : List A)
    (x : A) → made ≡ [] → items ≡ made ++ x ∷ [] → Walk p q (f x)
    → Walk p q (placed_separated f items)
separated_first {A} f {p} {q} made items x none grew v =
    let one : items ≡ x ∷ [] = grew ∙ ap (λ (xs : List A). xs ++ x ∷ []) none in
    subst (λ s. Walk p q s) (sym (ap (placed_separated f) one ∙ append-nil (f x))) v

separated_grown : {A : Type 0} (f : A → List PlacedToken) (front : List A) (x : A)
    → 0 < length front → placed_separated f (front ++ x ∷ [])
    ≡ placed_separated f front ++ (placed_mark Comma ++ f x)
separated_grown f [] x some = absurd (omega arith)
separated_grown f (y ∷ front) x some =
    ap (λ (s : List PlacedToken). f y ++ s) (flat_map_grown (λ z. unplaced (Marked Comma) ∷ f z) front x) ∙ sym (append_assoc (f y) (flat_map (λ z. unplaced (Marked Comma) ∷ f z) front) (placed_mark Comma ++ f x))

-- a further one
pub separated_more : {A : Type 0} (f : A → List PlacedToken) {p q r s : Parser}
    (front items : List A) (x : A) → 0 < length front → items ≡ front ++ x ∷ []
    → Walk p q (placed_separated f front) → Walk q r (placed_mark Comma) → Walk r s (f x)
    → Walk p s (placed_separated f items)
separated_more f {p} {q} {r} {s} front items x some grew w c v =
    subst (λ t. Walk p s t) (sym (ap (placed_separated f) grew ∙ separated_grown f front x some)) (walk_then w (walk_then c v))

-- parts that have a comma behind each of them, and then the last part
abbrev pub with_comma : {A : Type 0} → (A → List PlacedToken) → A → List PlacedToken
with_comma f x = f x ++ placed_mark Comma

commas_first : {A : Type 0} (f : A → List PlacedToken) (front : List A) (x : A)
    → flat_map (λ z. unplaced (Marked Comma) ∷ f z) (front ++ x ∷ [])
    ≡ placed_mark Comma ++ (flat_map (with_comma f) front ++ f x)
commas_first f [] x = ap (λ (s : List PlacedToken). placed_mark Comma ++ s) (append-nil (f x))
commas_first f (y ∷ front) x =
    let C : List PlacedToken = placed_mark Comma in
    let M : List PlacedToken = flat_map (with_comma f) front in
    ap (λ (s : List PlacedToken). (C ++ f y) ++ s) (commas_first f front x)
    ∙ ap (λ (s : List PlacedToken). C ++ s) (sym (append_assoc (f y ++ C) M (f x) ∙ append_assoc (f y) C (M ++ f x)))

separated_last : {A : Type 0} (f : A → List PlacedToken) (front : List A) (x : A)
    → placed_separated f (front ++ x ∷ []) ≡ flat_map (with_comma f) front ++ f x
separated_last f [] x = append-nil (f x)
separated_last f (y ∷ front) x =
    let C : List PlacedToken = placed_mark Comma in
    let M : List PlacedToken = flat_map (with_comma f) front in
    ap (λ (s : List PlacedToken). f y ++ s) (commas_first f front x) ∙ sym (append_assoc (f y ++ C) M (f x) ∙ append_assoc (f y) C (M ++ f x))

pub separated_end : {A : Type 0} (f : A → List PlacedToken) {p q r : Parser} (front items : List A)
    (x : A) → items ≡ front ++ x ∷ [] → Walk p q (flat_map (with_comma f) front) → Walk q r (f x)
    → Walk p r (placed_separated f items)
separated_end f {p} {q} {r} front items x grew w v =
    subst (λ s. Walk p r s) (sym (ap (placed_separated f) grew ∙ separated_last f front x)) (walk_then w v)

-- a list of no parts
pub walk_empty : {A : Type 0} (f : A → List PlacedToken) {p q : Parser} (m : Mark) (items : List A)
    → items ≡ [] → Walk p q (placed_mark m) → Walk p q (placed_separated f items ++ placed_mark m)
walk_empty f {p} {q} m items none w = subst (λ xs. Walk p q (placed_separated f xs ++ placed_mark m)) (sym none) w

-- ---- annotations

mapped_parts : {A : Type 0} (f : A → List PlacedToken) (xs : List A)
    → flat_map (λ part. unplaced (Marked Comma) ∷ part) (map f xs)
    ≡ flat_map (λ x. unplaced (Marked Comma) ∷ f x) xs
mapped_parts f [] = refl
mapped_parts f (x ∷ xs) = ap (λ (s : List PlacedToken). (unplaced (Marked Comma) ∷ f x) ++ s) (mapped_parts f xs)

pub parts_are : {A : Type 0} (f : A → List PlacedToken) (xs : List A)
    → placed_parts (map f xs) ≡ placed_separated f xs
parts_are f [] = refl
parts_are f (x ∷ xs) = ap (λ (s : List PlacedToken). f x ++ s) (mapped_parts f xs)

args_are : (args : List NoteArg) → 0 < length args → placed_args (map placed_arg args)
    ≡ placed_between OpenParen CloseParen (placed_separated placed_arg args)
args_are [] some = absurd (omega arith)
args_are (a ∷ args) some = ap (placed_between OpenParen CloseParen) (parts_are placed_arg (a ∷ args))

-- arguments in parentheses
pub args_walk : {p q r s : Parser} (args : List NoteArg) → 0 < length args
    → Walk p q (placed_mark OpenParen) → Walk q r (placed_separated placed_arg args)
    → Walk r s (placed_mark CloseParen) → Walk p s (placed_args (map placed_arg args))
args_walk {p} {q} {r} {s} args some opened w closed = subst (λ t. Walk p s t) (sym (args_are args some)) (walk_then opened (walk_then w closed))

pub no_args_walk : {p q : Parser} (args : List NoteArg) → args ≡ [] → q ≡ p
    → Walk p q (placed_args (map placed_arg args))
no_args_walk {p} {q} args none same = subst (λ (xs : List NoteArg). Walk p q (placed_args (map placed_arg xs))) (sym none) (walk_same same)

-- a list among them
pub note_list_walk : {p q r : Parser} (bs : List NoteBasic) → Walk p q (placed_mark OpenBracket)
    → Walk q r (placed_separated placed_note_basic bs ++ placed_mark CloseBracket)
    → Walk p r (placed_between OpenBracket CloseBracket (placed_parts (map placed_note_basic bs)))
note_list_walk {p} {q} {r} bs opened w = subst (λ s. Walk p r (placed_between OpenBracket CloseBracket s)) (sym (parts_are placed_note_basic bs)) (walk_then opened w)

-- what a step of the parser cites, and what one of several steps does
pub ruleset step = (passed_then, passed_none, passed, walk_none, fails_from)

pub ruleset steps = (passed_then, passed_none, passed, walk_none, fails_from, fails_bind)
