-- Names and literals that have the byte ranges of their tokens follow one another in the source.
use Rattle.std.proofs.Common.{◌≡◌, ◌≤◌, ◌<◌, ℕ, List, [], ◌∷◌, ◌++◌, length, slice_range, Option, Some, None, IfSome, sym, ap, subst, ◌∙◌, arith, Vec, Global}
use Rattle.std.specs.List.{flat_map, AllByRecursion}
use Rattle.std.specs.Option.{option_or}
use Rattle.std.proofs.lemmas.List.{append-nil}
use Rattle.fz_tree.specs.Token.{TokenValue, Word, Whole, Marked, Spells}
use Rattle.fz_tree.specs.declared.token.Mark.{Mark}
use Rattle.fz_tree.specs.declared.token.Mark.TheVariants.{OpenParen, CloseParen, OpenBracket, CloseBracket, OpenBrace, CloseBrace, DotDot, Comma, Semicolon, Equals}
use Rattle.fz_tree.specs.Lexing.{SpannedToken}
use Rattle.fz_tree.specs.Found.{AreInOrder}
use Rattle.fz_tree.specs.Ahead.{tokens_ahead}
use Rattle.fz_tree.specs.Spanned.{IsSpanWithin, IsSpelledAtSpan, LexesToSpanned}
use Rattle.fz_tree.proofs.Cuts.{cut_ordered}
use Rattle.fz_tree.proofs.Texts.{cut_spelled}
use Rattle.fz_tree.specs.Tree as tree
use Rattle.fz_tree.specs.Tokens.{mark, truth_word, number_toks, separated, literal_toks, array_word}
use Rattle.fz_tree.specs.View.{bare_literal}
use Rattle.fz_syntax.specs.declared.parser.cursor.Parser.{Parser}
use Rattle.fz_tree.specs.declared.tree.Literal.{Literal}
use Rattle.fz_tree.specs.declared.tree.Name.{Name}
use Rattle.fz_tree.specs.declared.tree.Printed.{Printed}
use Rattle.fz_tree.specs.declared.tree.PrintedValue.TheVariants as printed
use Rattle.fz_syntax.specs.Spots.{Stand, next_spots, spots_from, word_at}
use Rattle.fz_syntax.specs.Placed.{PlacedToken, AgreeWith, ArePlacedIn, unplaced, plain, placed_mark, placed_word, placed_separated, placed_between, placed_name, starting_at, ending_at, placed_literal, placed_indexes, placed_elements, placed_printed_value, placed_printed}
use Rattle.fz_syntax.specs.Walk.{ahead, Walk}

-- ---- the spots

-- a spot that has begun at an offset, and what came before it
abbrev HasBegun : ℕ → ℕ → Option ℕ → Type 0
HasBegun from at None = from ≤ at
HasBegun from at (Some start) = (from ≤ start) × (start < at)

begun_before : (from at : ℕ) (begun : Option ℕ) → HasBegun from at begun → from ≤ at
begun_before from at None h = h
begun_before from at (Some start) h = omega (arith, h.0, h.1)

begun_still : (from at to : ℕ) (begun : Option ℕ) → at ≤ to → HasBegun from at begun
    → HasBegun from to begun
begun_still from at to None le h = omega (arith, le, h)
begun_still from at to (Some start) le h = (h.0, omega (arith, le, h.1))

module _ (source : List ℕ) (upto : ℕ) where
  word_stands : (t : SpannedToken) (token : TokenValue) (start end : ℕ) → token ≡ t.token
      → start ≡ t.start → end ≡ t.end → IsSpelledAtSpan source t
      → IfSome (word_at (Some start) token) (λ text. text ≡ slice_range source start end)
  word_stands t (Word x) start end same at to w =
      let spelled : Spells (Word x) (slice_range source t.start t.end) =
      subst (λ u. Spells u (slice_range source t.start t.end)) (sym same) w in
      sym spelled.0 ∙ ap (λ k. slice_range source k t.end) (sym at)
      ∙ ap (λ k. slice_range source start k) (sym to)
  word_stands t _ start end same at to w = tt

  -- one token more, by what is known of it
  token_stands : (t : SpannedToken) (token : TokenValue) (start end : Option ℕ)
      (ps : List PlacedToken) (from at : ℕ) (begun : Option ℕ) → token ≡ t.token
      → IfSome start (λ n. n ≡ t.start) → IfSome end (λ n. n ≡ t.end) → at ≤ t.start
      → t.start < t.end → IsSpelledAtSpan source t → HasBegun from at begun
      → ((from : ℕ) (next : Option ℕ) → HasBegun from t.end next
      → Stand source from upto (spots_from next ps))
      → Stand source from upto (next_spots (option_or start begun) end (word_at start token)
      (spots_from None ps) (spots_from (option_or start begun) ps))
  token_stands t token (Some s) (Some e) ps from at begun same first last before some w h behind =
      let start : s ≡ t.start = first in
      let end : e ≡ t.end = last in
      let earlier : from ≤ at = begun_before from at begun h in (
        omega (arith, earlier, before, start),
        omega (arith, some, start, end),
        word_stands t token s e same start end w,
        behind e None (omega (arith, end)),
      )
  token_stands t token (Some s) None ps from at begun same first last before some w h behind =
      let start : s ≡ t.start = first in
      let earlier : from ≤ at = begun_before from at begun h in
      behind from (Some s) (omega (arith, earlier, before, start), omega (arith, some, start))
  token_stands t token None (Some e) ps from at (Some b) same first last before some w h behind =
      let end : e ≡ t.end = last in
      (h.0, omega (arith, h.1, before, some, end), tt, behind e None (omega (arith, end)))
  token_stands t token None (Some e) ps from at None same first last before some w h behind =
      behind from None (omega (arith, h, before, some))
  token_stands t token None None ps from at (Some b) same first last before some w h behind =
      behind from (Some b) (begun_still from at t.end (Some b) (omega (arith, before, some)) h)
  token_stands t token None None ps from at None same first last before some w h behind =
      behind from None (omega (arith, h, before, some))

  spots_stand : (ps : List PlacedToken) (cut : List SpannedToken) (from at : ℕ)
      (begun : Option ℕ) → AgreeWith ps cut → AreInOrder at upto cut
      → AllByRecursion (IsSpelledAtSpan source) cut → HasBegun from at begun
      → Stand source from upto (spots_from begun ps)
  spots_stand [] [] from at begun agree order texts h =
      let earlier : from ≤ at = begun_before from at begun h in omega (arith, earlier, order)
  spots_stand (p ∷ ps) (t ∷ cut) from at begun agree order texts h =
      token_stands t p.token p.start p.end ps from at begun agree.0.token agree.0.start agree.0.end
      order.0 order.1 texts.0 h
      (λ from next h. spots_stand ps cut from t.end next agree.1 order.2 texts.1 h)
  spots_stand _ _ from at begun agree order texts h = absurd agree

pub stands_of : (source : List ℕ) (placed : List PlacedToken) → ArePlacedIn source placed
    → Stand source 0 (length source) (spots_from None placed)
stands_of source placed (cut, lexes, agree) =
    spots_stand source (length source) placed cut 0 0 None agree (cut_ordered lexes)
    (cut_spelled lexes) (omega arith)

-- ---- between two byte offsets

-- the tokens are those of a cut between the two byte offsets
abbrev pub LieBetween : ℕ → ℕ → List PlacedToken → Type 0
LieBetween from upto placed =
    (cut : List SpannedToken) × AgreeWith placed cut × AreInOrder from upto cut

pub lie_in : (source : List ℕ) (placed : List PlacedToken) → ArePlacedIn source placed
    → LieBetween 0 (length source) placed
lie_in source placed (cut, lexes, agree) = (cut, agree, cut_ordered lexes)

order_within : (from upto : ℕ) (cut : List SpannedToken) → AreInOrder from upto cut → from ≤ upto
order_within from upto [] h = h
order_within from upto (t ∷ ts) h =
    let later : t.end ≤ upto = order_within t.end upto ts h.2 in omega (arith, h.0, h.1, later)

order_from : (from at upto : ℕ) (cut : List SpannedToken) → from ≤ at → AreInOrder at upto cut
    → AreInOrder from upto cut
order_from from at upto [] le h = omega (arith, le, h)
order_from from at upto (t ∷ ts) le h = (omega (arith, le, h.0), h.1, h.2)

cut_apart : (from upto : ℕ) (xs ys : List PlacedToken) (cut : List SpannedToken)
    → AgreeWith (xs ++ ys) cut → AreInOrder from upto cut
    → LieBetween from upto xs × LieBetween from upto ys
cut_apart from upto [] ys cut a o = (([], tt, order_within from upto cut o), (cut, a, o))
cut_apart from upto (x ∷ xs) ys [] a o = absurd a
cut_apart from upto (x ∷ xs) ys (t ∷ cut) a o =
    let r = cut_apart t.end upto xs ys cut a.1 o.2 in
    let le : from ≤ t.end = omega (arith, o.0, o.1) in (
      (t ∷ r.0.0, (a.0, r.0.1), (o.0, o.1, r.0.2)),
      (r.1.0, r.1.1, order_from from t.end upto r.1.0 le r.1.2),
    )

-- so are those of each part
pub lie_apart : (from upto : ℕ) (xs ys : List PlacedToken) → LieBetween from upto (xs ++ ys)
    → LieBetween from upto xs × LieBetween from upto ys
lie_apart from upto xs ys h = cut_apart from upto xs ys h.0 h.1 h.2

pub lie_each : {A : Type 0} (f : A → List PlacedToken) (from upto : ℕ) (xs : List A)
    → LieBetween from upto (flat_map f xs) → AllByRecursion (λ x. LieBetween from upto (f x)) xs
lie_each f from upto [] h = tt
lie_each f from upto (x ∷ xs) h =
    let r = lie_apart from upto (f x) (flat_map f xs) h in (r.0, lie_each f from upto xs r.1)

pub lie_separated : {A : Type 0} (f : A → List PlacedToken) (from upto : ℕ) (xs : List A)
    → LieBetween from upto (placed_separated f xs)
    → AllByRecursion (λ x. LieBetween from upto (f x)) xs
lie_separated f from upto [] h = tt
lie_separated {A} f from upto (x ∷ xs) h =
    let r = lie_apart from upto (f x) (flat_map (λ y. unplaced (Marked Comma) ∷ f y) xs) h in
    (r.0, behind xs (lie_each (λ y. unplaced (Marked Comma) ∷ f y) from upto xs r.1))
  where
    behind : (ys : List A)
        → AllByRecursion (λ y. LieBetween from upto (unplaced (Marked Comma) ∷ f y)) ys
        → AllByRecursion (λ y. LieBetween from upto (f y)) ys
    behind [] h = tt
    behind (y ∷ ys) h =
        ((lie_apart from upto (unplaced (Marked Comma) ∷ []) (f y) h.0).1, behind ys h.1)

name_within : (n : Name) (from upto : ℕ) (cut : List SpannedToken) → AgreeWith (placed_name n) cut
    → AreInOrder from upto cut → IsSpanWithin upto n.span
name_within n from upto [] a o = absurd a
name_within n from upto (t ∷ []) a o =
    let start : n.span.start ≡ t.start = a.0.start in
    let end : n.span.end ≡ t.end = a.0.end in
    (omega (arith, o.1, start, end), omega (arith, o.2, end))
name_within n from upto (t ∷ (u ∷ cut)) a o = absurd a.1

-- the byte range of a name
pub name_lies : (n : Name) (from upto : ℕ) → LieBetween from upto (placed_name n)
    → IsSpanWithin upto n.span
name_lies n from upto h = name_within n from upto h.0 h.1 h.2

last_end : (n from upto : ℕ) (p : PlacedToken) (s : List PlacedToken) (cut : List SpannedToken)
    → AgreeWith (ending_at n (p ∷ s)) cut → AreInOrder from upto cut → (from < n) × (n ≤ upto)
last_end n from upto p [] [] a o = absurd a
last_end n from upto p [] (t ∷ []) a o =
    let end : n ≡ t.end = a.0.end in (omega (arith, o.0, o.1, end), omega (arith, o.2, end))
last_end n from upto p [] (t ∷ (u ∷ cut)) a o = absurd a.1
last_end n from upto p (q ∷ s) [] a o = absurd a
last_end n from upto p (q ∷ s) (t ∷ cut) a o =
    let r = last_end n t.end upto q s cut a.1 o.2 in (omega (arith, o.0, o.1, r.0), r.1)

span_within : (m n from upto : ℕ) (t : TokenValue) (ts : List TokenValue) (cut : List SpannedToken)
    → AgreeWith (starting_at m (ending_at n (plain (t ∷ ts)))) cut → AreInOrder from upto cut
    → (m ≤ n) × (n ≤ upto)
span_within m n from upto t [] [] a o = absurd a
span_within m n from upto t [] (x ∷ []) a o =
    let start : m ≡ x.start = a.0.start in
    let end : n ≡ x.end = a.0.end in
    (omega (arith, o.1, start, end), omega (arith, o.2, end))
span_within m n from upto t [] (x ∷ (y ∷ cut)) a o = absurd a.1
span_within m n from upto t (u ∷ ts) [] a o = absurd a
span_within m n from upto t (u ∷ ts) (x ∷ cut) a o =
    let start : m ≡ x.start = a.0.start in
    let r = last_end n x.end upto (unplaced u) (plain ts) cut a.1 o.2 in
    (omega (arith, o.1, start, r.0), r.1)

literal_within : (l : tree.Literal) (m n from upto : ℕ) (cut : List SpannedToken)
    → AgreeWith (starting_at m (ending_at n (plain (literal_toks l)))) cut
    → AreInOrder from upto cut → (m ≤ n) × (n ≤ upto)
literal_within (tree.Number z) m n from upto =
    span_within m n from upto (Whole z) []
literal_within (tree.Truth b) m n from upto =
    span_within m n from upto (Word (truth_word b)) []
literal_within (tree.Range low high) m n from upto =
    span_within m n from upto (Whole low) (Marked DotDot ∷ Whole high ∷ [])
literal_within (tree.Braces numbers) m n from upto =
    span_within m n from upto (Marked OpenBrace) (separated number_toks numbers ++ mark CloseBrace)

-- and that of a literal
pub literal_lies : (l : Literal) (from upto : ℕ) → LieBetween from upto (placed_literal l)
    → IsSpanWithin upto l.span
literal_lies l from upto h =
    literal_within (bare_literal l) l.span.start l.span.end from upto h.0 h.1 h.2

-- ---- printed items

lie_inside : (from upto : ℕ) (opening closing : Mark) (inside : List PlacedToken)
    → LieBetween from upto (placed_between opening closing inside) → LieBetween from upto inside
lie_inside from upto opening closing inside h =
    let behind = (lie_apart from upto (placed_mark opening) (inside ++ placed_mark closing) h).1 in
    (lie_apart from upto inside (placed_mark closing) behind).0

-- the elements of a printed array
pub elements_lie : (from upto : ℕ) (indexes elements : Vec Literal Global)
    → LieBetween from upto (placed_printed_value (printed.Array indexes elements))
    → AllByRecursion (λ l. LieBetween from upto (placed_literal l)) elements.items
elements_lie from upto indexes elements h =
    let inside = placed_indexes indexes.items ++ placed_elements elements.items in
    let both = lie_inside from upto OpenParen CloseParen inside (lie_apart from upto (placed_word
    (array_word (length indexes.items))) (placed_between OpenParen CloseParen inside) h).1 in
    lie_separated placed_literal from upto elements.items
    (lie_inside from upto OpenBracket CloseBracket (placed_separated placed_literal elements.items)
    (lie_apart from upto (placed_indexes indexes.items) (placed_elements elements.items) both).1)

-- the name of a printed item, and its value
pub printed_lies : (p : Printed) (from upto : ℕ) → LieBetween from upto (placed_printed p)
    → IsSpanWithin upto p.name.span × LieBetween from upto (placed_printed_value p.value)
printed_lies p from upto h =
    let name = placed_name p.name in
    let front = name ++ placed_mark Equals in
    let value = placed_printed_value p.value in
    let both = lie_apart from upto front value
    (lie_apart from upto (front ++ value) (placed_mark Semicolon) h).0 in
    (name_lies p.name from upto (lie_apart from upto name (placed_mark Equals) both.0).0, both.1)

-- ---- the whole

-- what was read from the first token on, up to the end
pub placed_in : (source : List ℕ) (p q : Parser) (placed : List PlacedToken)
    → ahead p ≡ tokens_ahead source 0 → Walk p q placed → ahead q ≡ []
    → LexesToSpanned source (tokens_ahead source 0) → ArePlacedIn source placed
placed_in source p q placed all w ended lexes =
    let taken : w.taken ≡ tokens_ahead source 0 = sym (append-nil w.taken)
    ∙ ap (λ (ts : List SpannedToken). w.taken ++ ts) (sym ended) ∙ sym w.on.split ∙ all in
    (tokens_ahead source 0, lexes, subst (AgreeWith placed) taken w.agree)
