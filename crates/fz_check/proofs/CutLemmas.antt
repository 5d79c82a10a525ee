-- Where a stream is cut that ends inside a block, and what is judged of it.
use Rattle.std.proofs.Common.{◌≡◌, ◌≢◌, ℕ, ◌+◌, Bool, true, false, cond, List, [], ◌∷◌, ◌++◌, length, map, take, drop, Option, Some, None, inl, inr, ◌⊎◌, refl, sym, ap, ◌∙◌, subst, subst₂, append_assoc, append-nil, length-append, arith}
use Rattle.std.proofs.lemmas.Bool.{ne_eqb, eq-eqb, cases_eq, false≢true}
use Rattle.std.proofs.lemmas.List.{drop_at, take_at}
use Rattle.std.specs.Io.KnownBytes.{IsAtEnd}
use Rattle.std.specs.List.{AllByRecursion, onto_first}
use Rattle.fz_filling.specs.of_syntax.Span.{Span}
use Rattle.fz_filling.specs.of_stream.declared.error.StreamError.{StreamError}
use Rattle.fz_filling.specs.of_stream.declared.error.StreamError.TheVariants as stream
use Rattle.fz_filling.specs.of_stream.declared.line.LineKind.{LineKind}
use Rattle.fz_filling.specs.of_stream.declared.line.LineKind.TheVariants.{Blank, Comment, Marker, Claim, Item}
use Rattle.fz_filling.specs.of_stream.Broken.{BreaksAfter, CannotEnd}
use Rattle.fz_filling.specs.of_stream.Parts.{Line, lines_of, joined, kind_of, IsFiller, IsFillerKind, IsInner, IsInnerKind, Frame, BlockFrame, ClaimFrame, StreamPart, AreBlockLines, Closes, AreLinesOfFrame, AreLinesOf, Covers, IsFramed, IsStreamTextWithin, frame_of}
use Rattle.fz_filling.specs.of_stream.Splitting.{EndsLast, EndsWithFeed}
use Rattle.fz_filling.specs.of_stream.Telling.{IsNoneOrClaim, first_kind}
use Rattle.fz_filling.specs.of_syntax.Limits.{Limits}
use Rattle.fz_filling.proofs.of_stream.PartLemmas.{into_frames, joined-append}
use Rattle.fz_filling.proofs.of_stream.SplitLemmas.{joined-lines_of, lines_up_to}
use Rattle.fz_search.specs.of_model.Meaning.{Model}
use Rattle.fz_check.specs.declared.event.Cut as the_cut
use Rattle.fz_check.specs.declared.options.Ending.{Ending}
use Rattle.fz_check.specs.declared.options.Ending.TheVariants.{Whole, Cut}
use Rattle.fz_check.specs.Cutting.{HoldsOfJudged, IsCutOff}
use Rattle.fz_check.specs.Reading.{IsRefusedAfter, IsRefusedBy, IsRefusedInside}
use Rattle.fz_check.specs.Report.{Event}
use Rattle.fz_check.specs.Report.Event.{CutOff}
use Rattle.fz_cutting.specs.Short.{IsShort}
use Rattle.fz_check.specs.Telling.{IsEndOf, IsLeftOpen, cut_events}

-- ---- the front of a stream that is cut

not_none : (xs : List Line) (y : Line) (ys : List Line) → [] ≡ xs ++ y ∷ ys → ⊥
not_none [] y ys e = (let no : [] ≡ y ∷ ys = e in cc)
not_none (x ∷ xs) y ys e = (let no : [] ≡ x ∷ (xs ++ y ∷ ys) = e in cc)

-- the lines with one more byte, by whether it is LF
abbrev lines_with : ℕ → List ℕ → Bool → List Line
lines_with b bytes feed = cond feed ((b ∷ []) ∷ lines_of bytes) (onto_first b (lines_of bytes))

-- all lines but the last end with LF
ended_before : (bytes : List ℕ) (xs : List Line) (y : Line) (ys : List Line)
    → lines_of bytes ≡ xs ++ y ∷ ys → AllByRecursion EndsWithFeed xs
ended_before bytes [] y ys e = tt
ended_before [] (x ∷ xs) y ys e = absurd (not_none (x ∷ xs) y ys e)
ended_before (b ∷ bytes) (x ∷ xs) y ys e =
    by (cases_eq b 10) (lines_of bytes) refl (λ zs. ended_before bytes zs y ys)
  where
    all : List Line
    all = x ∷ (xs ++ y ∷ ys)

    by : (b ≡ 10) ⊎ (b ≡ 10 → ⊥) → (ls : List Line) → lines_of bytes ≡ ls
        → ((zs : List Line) → lines_of bytes ≡ zs ++ y ∷ ys
        → AllByRecursion EndsWithFeed zs) → AllByRecursion EndsWithFeed (x ∷ xs)
    by (inl t) ls s ih =
        let onto = sym (ap (lines_with b bytes) (eq-eqb b 10 t)) in
        let h : (b ∷ []) ∷ lines_of bytes ≡ all = onto ∙ e in
        let first : b ∷ [] ≡ x = cc in
        let rest : lines_of bytes ≡ xs ++ y ∷ ys = cc in
        (([], tt, sym first ∙ ap (λ n. n ∷ []) t), ih xs rest)
    by (inr n) [] s ih =
        let onto = sym (ap (lines_with b bytes) (ne_eqb b 10 n) ∙ ap (onto_first b) s) in
        let h : (b ∷ []) ∷ [] ≡ all = onto ∙ e in
        let none : [] ≡ xs ++ y ∷ ys = cc in
        absurd (not_none xs y ys none)
    by (inr n) (l ∷ m) s ih =
        let onto = sym (ap (lines_with b bytes) (ne_eqb b 10 n) ∙ ap (onto_first b) s) in
        let h : (b ∷ l) ∷ m ≡ all = onto ∙ e in
        let first : b ∷ l ≡ x = cc in
        let rest : m ≡ xs ++ y ∷ ys = cc in
        let more = ih (l ∷ xs) (s ∙ ap (λ r. l ∷ r) rest) in
        ((b ∷ more.0.0, (n, more.0.1), sym first ∙ ap (λ r. b ∷ r) more.0.2), more.1)

front_ended : (bytes : List ℕ) (xs body last : List Line) → body ≢ []
    → lines_of bytes ≡ xs ++ (body ++ last) → AllByRecursion EndsWithFeed xs
front_ended bytes xs [] last some e = absurd (some refl)
front_ended bytes xs (y ∷ body) last some e = ended_before bytes xs y (body ++ last) e

-- what a text is cut into at a place
same_front : (a b c d : List ℕ) → a ++ b ≡ c ++ d → length a ≡ length c → a ≡ c
same_front a b c d e n = sym (take_at a b (length c) n) ∙ ap (take (length c)) e ∙ take_at c d (length c) refl

same_rest : (a b c d : List ℕ) → a ++ b ≡ c ++ d → length a ≡ length c → b ≡ d
same_rest a b c d e n = sym (drop_at a b (length c) n) ∙ ap (drop (length c)) e ∙ drop_at c d (length c) refl

module _ {limits : Limits} (given : List ℕ) (frames : List Frame) (span : Span)
    (b : BreaksAfter limits CannotEnd given frames (stream.Unfinished span)) where
  abbrev before : List Line
  before = b.covers.covered ++ b.gap

  abbrev pub front_of : List ℕ
  front_of = joined before

  lines_are : lines_of given ≡ before ++ (b.body ++ b.rest)
  lines_are = b.whole ∙ ap (λ l. l ++ b.rest) b.covers.whole ∙ simp append_assoc

  lines_of_front : lines_of front_of ≡ before
  lines_of_front =
      let ended = front_ended given before b.body b.rest b.begun lines_are in
      lines_up_to front_of before [] (sym (append-nil front_of)) ended ∙ append-nil before

  pub front_framed : IsFramed front_of frames
  front_framed = (
    b.gap,
    record {
      covered = b.covers.covered;
      whole = lines_of_front ∙ ap (λ g. b.covers.covered ++ g) (sym (append-nil b.gap));
      of_frames = b.covers.of_frames;
      fillers = b.covers.fillers;
      own = tt;
    },
  )

  -- the front has as many bytes as come before the block
  pub front_size : length front_of ≡ span.start
  front_size = omega (arith, b.tells.1, ap length (joined-append b.covers.covered b.gap), length-append (joined b.covers.covered) (joined b.gap))

  behind_front : given ≡ front_of ++ joined (b.body ++ b.rest)
  behind_front = sym (joined-lines_of given) ∙ ap joined lines_are ∙ joined-append before (b.body ++ b.rest)

  -- it is cut off where the text is short
  pub is_cut : (m : Model) (front text : List ℕ) → given ≡ front ++ text → length front ≡ span.start
      → IsShort limits m text → IsCutOff limits m given front_of span text
  is_cut m front text given_is size short =
      let same : front_of ≡ front = same_front front_of _ front text (sym behind_front ∙ given_is) (front_size ∙ sym size) in
      record { frames = frames; breaks = b; front_is = refl; given_is = given_is ∙ ap (λ f. f ++ text) (sym same); short = short }

-- ---- a text ends outside of blocks

-- whether a block is open after a line of this kind, and after lines
abbrev open_after : Bool → LineKind → Bool
open_after inside Blank = inside
open_after inside Comment = inside
open_after inside Marker = false
open_after inside (Claim kind) = inside
open_after inside Item = true

abbrev is_open : Bool → List Line → Bool
is_open inside [] = inside
is_open inside (line ∷ lines) = is_open (open_after inside (kind_of line)) lines

over_lines : (inside : Bool) (xs ys : List Line)
    → is_open inside (xs ++ ys) ≡ is_open (is_open inside xs) ys
over_lines inside [] ys = refl
over_lines inside (x ∷ xs) ys = over_lines (open_after inside (kind_of x)) xs ys

filler_kind : (inside : Bool) (k : LineKind) → IsFillerKind k → open_after inside k ≡ inside
filler_kind inside Blank h = refl
filler_kind inside Comment h = refl
filler_kind inside _ h = absurd h

inner_kind : (k : LineKind) → IsInnerKind k → open_after true k ≡ true
inner_kind Marker h = absurd h
inner_kind _ h = refl

over_fillers : (inside : Bool) (gap : List Line) → AllByRecursion IsFiller gap
    → is_open inside gap ≡ inside
over_fillers inside [] h = refl
over_fillers inside (x ∷ gap) h =
    ap (λ o. is_open o gap) (filler_kind inside (kind_of x) h.0) ∙ over_fillers inside gap h.1

over_inner : (body : List Line) → AllByRecursion IsInner body → is_open true body ≡ true
over_inner [] h = refl
over_inner (x ∷ body) h =
    ap (λ o. is_open o body) (inner_kind (kind_of x) h.0) ∙ over_inner body h.1

over_body : (inside : Bool) (body : List Line) → body ≢ [] → AreBlockLines body
    → is_open inside body ≡ true
over_body inside [] some h = absurd (some refl)
over_body inside (x ∷ body) some h =
    ap (λ k. is_open (open_after inside k) body) h.0 ∙ over_inner body h.1

over_closing : (start : ℕ) (body : List Line) (line : Line) (frame : Frame)
    → Closes start body line frame → is_open false (body ++ line ∷ []) ≡ false
over_closing start body line (BlockFrame offset text) c =
    over_lines false body (line ∷ []) ∙ ap (open_after (is_open false body)) c.0
over_closing start body line (ClaimFrame kind) c =
    ap (λ b. is_open false (b ++ line ∷ [])) c.1 ∙ ap (open_after false) c.0

over_frames : (start : ℕ) (lines : List Line) (frames : List Frame) → AreLinesOf start lines frames
    → is_open false lines ≡ false
over_frames start lines [] h = ap (is_open false) h
over_frames start lines (frame ∷ frames) h =
    let k : AreLinesOfFrame start h.0 frame = h.3 in
    let closes = over_closing (start + length (joined k.gap)) k.body k.line frame k.closes in
    let own : is_open false h.0 ≡ false =
    ap (is_open false) k.whole ∙ over_lines false k.gap (k.body ++ k.line ∷ [])
    ∙ ap (λ o. is_open o (k.body ++ k.line ∷ [])) (over_fillers false k.gap k.fillers) ∙ closes in
    ap (is_open false) h.2 ∙ over_lines false h.0 h.1 ∙ ap (λ o. is_open o h.1) own
    ∙ over_frames (start + length (joined h.0)) h.1 frames h.4

over_rest : (limits : Limits) (text : List ℕ) (rest : List Line) → CannotEnd limits text rest
    → IsNoneOrClaim (first_kind rest) → is_open true rest ≡ true
over_rest limits text [] cannot tells = refl
over_rest limits text (line ∷ []) cannot tells = ap (open_after true) tells.1
over_rest limits text (line ∷ next ∷ lines) cannot tells = absurd cannot

-- bytes that end inside a block are cut into no frames
pub open_not_framed : {limits : Limits} → (given : List ℕ) (frames others : List Frame) (span : Span)
    → BreaksAfter limits CannotEnd given frames (stream.Unfinished span) → IsFramed given others → ⊥
open_not_framed {limits} given frames others span b framed =
    let c = framed.1 in
    let gap = framed.0 in
    let closed : is_open false (lines_of given) ≡ false =
    ap (is_open false) (c.whole ∙ ap (λ g. c.covered ++ g) (append-nil gap))
    ∙ over_lines false c.covered gap
    ∙ ap (λ o. is_open o gap) (over_frames 0 c.covered others c.of_frames)
    ∙ over_fillers false gap c.fillers in
    let before = b.covers.covered ++ b.gap in
    let at = is_open false before in
    let still : is_open false (lines_of given) ≡ true =
    ap (is_open false) (lines_are given frames span b) ∙ over_lines false before (b.body ++ b.rest)
    ∙ over_lines at b.body b.rest
    ∙ ap (λ o. is_open o b.rest) (over_body at b.body b.begun b.covers.own)
    ∙ over_rest limits (joined b.body) b.rest b.breaks b.tells.0 in
    false≢true (sym closed ∙ still)

-- where the last line ends a frame, no block is left open
pub last_not_open : {limits : Limits} → (given : List ℕ) (frames : List Frame) (frame : Frame) (span : Span)
    → EndsLast given frames frame
    → BreaksAfter limits CannotEnd given frames (stream.Unfinished span) → ⊥
last_not_open given frames frame span ends broken =
    let covers = into_frames ends.covers ends.line frame ends.closes in
    let all : List Frame = frames ++ frame ∷ [] in
    open_not_framed given frames all span broken ([], subst (λ l. Covers l all [] []) (sym ends.whole) covers)

-- ---- what is judged

pub holds_at_end : {limits : Limits} → (ending : Ending) (m : Model) (given : List ℕ) (parts : List StreamPart) (cut : Option the_cut.Cut)
    (Holds : List ℕ → List Event → Type 0) → IsEndOf limits ending m given parts cut
    → ((front : List ℕ) → IsStreamTextWithin limits front parts → Holds front (cut_events cut))
    → HoldsOfJudged limits ending m given Holds
holds_at_end Whole m given parts None Holds end holds = holds given end
holds_at_end Whole m given parts (Some cut) Holds end holds =
    absurd (let no : Whole ≡ Cut = end.0 in cc)
holds_at_end Cut m given parts None Holds end holds = inl (holds given end)
holds_at_end Cut m given parts (Some cut) Holds end holds =
    inr (end.1.0, cut.span, cut.text.now, end.1.1, holds end.1.0 end.1.2)

pub if_judged : (limits : Limits) (ending : Ending) (m : Model) (given : List ℕ) (P Q : List ℕ → List Event → Type 0)
    → ((front : List ℕ) (cut : List Event) → P front cut → Q front cut)
    → HoldsOfJudged limits ending m given P → HoldsOfJudged limits ending m given Q
if_judged limits Whole m given P Q f p = f given [] p
if_judged limits Cut m given P Q f (inl p) = inl (f given [] p)
if_judged limits Cut m given P Q f (inr p) =
    inr (p.0, p.1, p.2, p.3, f p.0 (CutOff p.1 p.2 ∷ []) p.4)

-- ---- what an end leaves open

module _ {limits : Limits} (m : Model) (given : List ℕ) (parts : List StreamPart) (span : Span) (text : List ℕ) (h : IsLeftOpen limits given parts span text) where
  -- it is cut off
  pub cut_here : (ending : Ending) (cut : the_cut.Cut) → cut.span ≡ span → cut.text.now ≡ text
      → ending ≡ Cut → IsShort limits m text → IsEndOf limits ending m given parts (Some cut)
  cut_here ending cut spans texts cuts short =
      let frames = map frame_of parts in
      let front = front_of given frames span h.broken.1 in
      let is : IsCutOff limits m given front span text = is_cut given frames span h.broken.1 m h.front text h.given_is h.begins short in (
        cuts,
        (
          front,
          subst₂ (λ s t. IsCutOff limits m given front s t) (sym spans) (sym texts) is,
          record { framed = front_framed given frames span h.broken.1; items = h.broken.0 },
        ),
      )

  -- or it isn't, however it is read
  not_cut : (IsShort limits m text → ⊥) → (front other : List ℕ)
      → IsCutOff limits m given front span other → ⊥
  not_cut long front other cut =
      let size : length front ≡ length h.front = ap length cut.front_is ∙ front_size given cut.frames span cut.breaks ∙ sym h.begins in
      let same : other ≡ text = same_rest front other h.front text (sym cut.given_is ∙ h.given_is) size in
      long (subst (IsShort limits m) same cut.short)

  pub open_refused : (ending : Ending) (left : Option (List ℕ)) → IsAtEnd left
      → (ending ≡ Cut → IsShort limits m text → ⊥)
      → IsRefusedBy limits ending m left given parts (stream.Unfinished span)
  open_refused Whole left end long = inr (end, h.broken)
  open_refused Cut left end long = inr (end, h.broken, not_cut (long refl))

-- ---- why a stream is refused

pub inside_by : {limits : Limits} → (ending : Ending) (m : Model) (left : Option (List ℕ)) (given : List ℕ)
    (parts : List StreamPart) (e : StreamError) → IsRefusedInside limits given parts e
    → IsRefusedBy limits ending m left given parts e
inside_by Whole m left given parts e h = inl h
inside_by Cut m left given parts (stream.Unfinished span) h = inl h
inside_by Cut m left given parts _ h = inl h

pub after_by : {limits : Limits} → (ending : Ending) (m : Model) (left : Option (List ℕ)) (given : List ℕ)
    (parts : List StreamPart) (e : StreamError)
    → ((span : Span) → e ≡ stream.Unfinished span → ⊥) → IsRefusedAfter limits left given parts e
    → IsRefusedBy limits ending m left given parts e
after_by Whole m left given parts e other h = h
after_by Cut m left given parts (stream.Unfinished span) other h = absurd (other span refl)
after_by Cut m left given parts _ other h = h
