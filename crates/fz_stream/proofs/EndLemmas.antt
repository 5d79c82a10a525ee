-- How the end of a line and the end of a stream change what a splitter holds.
use Rattle.std.proofs.Common.{◌≡◌, ℕ, ◌+◌, ◌-◌, Option, Some, None, List, [], ◌∷◌, ◌++◌, length, take, drop, sym, ap, ◌∙◌, append-nil, length-append, arith, ◌<◌, refl, subst}
use Rattle.std.proofs.lemmas.List.{take_at, drop_at, take_all, nil_from_length}
use Rattle.fz_syntax.specs.Span.{Span}
use Rattle.fz_stream.specs.declared.line.LineKind.{LineKind}
use Rattle.fz_stream.specs.declared.step.Step.{Step}
use Rattle.fz_stream.specs.declared.step.Step.TheVariants.{GoesOn, EndsBlock, Breaks}
use Rattle.fz_stream.specs.declared.error.StreamError.TheVariants.{Unfinished}
use Rattle.fz_stream.specs.declared.held.Held.{Held}
use Rattle.fz_stream.specs.Parts.{Line, joined, kind_of, Frame, BlockFrame, Closes, lines_of, AreBlockLines, Covers, IsFramed}
use Rattle.fz_stream.specs.Step.{step_of, begun_of}
use Rattle.fz_stream.specs.Keeping.{HasLine, BreaksBlock, Stands, EndsLine, frame_at}
use Rattle.fz_syntax.specs.Limits.{Limits}
use Rattle.fz_stream.proofs.PartLemmas.{joined-push, one_more, into_gap, into_body}
use Rattle.fz_stream.proofs.StepLemmas.{opened_at, Does, does, filled, breaks_claim, breaks_at}
use Rattle.fz_stream.specs.declared.held.Ended.{Ended}
use Rattle.fz_stream.specs.declared.error.StreamError.{StreamError}
use Rattle.fz_stream.specs.Broken.{BreaksAfter, CannotEnd}
use Rattle.fz_stream.specs.Splitting.{EndsLast}
use Rattle.fz_stream.proofs.SplitLemmas.{lines_up_to, one_line, no_end}

module _ (h : Held) (lines : List Line) (frames : List Frame) (line : Line) (l : HasLine h lines frames line) where
  -- the bytes from the line's offset on are the line
  line_is : take (length h.buffer.items - h.line) (drop h.line h.buffer.items) ≡ line
  line_is =
      let dropped : drop h.line h.buffer.items ≡ line = ap (drop h.line) l.bytes ∙ drop_at (joined l.body) line h.line (sym l.place) in
      ap (take (length h.buffer.items - h.line)) dropped ∙ take_all _ line (omega (arith, ap length l.bytes, length-append (joined l.body) line, l.place))

  -- the step that was taken is that of the line
  pub step_is : (b : Option ℕ) (slice : List ℕ) (k : LineKind) (t s : Step)
      → b ≡ begun_of h.line h.before → slice ≡ h.buffer.items
      → k ≡ kind_of (take (length slice - h.line) (drop h.line slice))
      → t ≡ step_of b (h.before + h.line) k → t ≡ s → Does s h.before l.body line
  step_is b slice k t s begun same kind step is =
      let kinds : k ≡ kind_of line = kind ∙ ap kind_of (ap (λ x. take (length x - h.line) (drop h.line x)) same ∙ line_is) in
      does (h.before + h.line) h.before l.body line l.covers.own (omega (arith, l.place)) (begun_of h.line h.before) (opened_at l.body h.line h.before l.place l.covers.own) s
      (ap (λ o. step_of o (h.before + h.line) (kind_of line)) (sym begun) ∙ ap (step_of b (h.before + h.line)) (sym kinds) ∙ sym step ∙ is)

  -- the line is dropped
  pub drops_line : Does (GoesOn None) h.before l.body line → (new : Held) → new.buffer.items ≡ []
      → new.line ≡ 0 → new.before ≡ h.before + length h.buffer.items
      → HasLine new (lines ++ line ∷ []) frames []
  drops_line d new empty at before = record {
    gap = l.gap ++ line ∷ [];
    body = [];
    covers = into_gap l.covers line d.0 d.1;
    bytes = empty;
    place = at;
    before = omega (arith, before, l.before, one_more l.gap line, ap length l.bytes, length-append (joined l.body) line, ap (λ b. length (joined b)) d.0);
  }

  -- the line joins the open block, or opens one
  pub joins_line : (n : ℕ) → Does (GoesOn (Some n)) h.before l.body line → (new : Held)
      → new.buffer.items ≡ h.buffer.items → new.line ≡ length h.buffer.items
      → new.before ≡ h.before → HasLine new (lines ++ line ∷ []) frames []
  joins_line n d new same at before =
      let bytes : h.buffer.items ≡ joined (l.body ++ line ∷ []) = l.bytes ∙ sym (joined-push l.body line) in
      record {
        gap = l.gap;
        body = l.body ++ line ∷ [];
        covers = into_body l.covers line d.0;
        bytes = same ∙ bytes ∙ sym (append-nil _);
        place = at ∙ ap length bytes;
        before = before ∙ l.before;
      }

  -- the line is a marker
  pub ends_with_block : (n : ℕ) → Does (EndsBlock n) h.before l.body line
      → Closes (length (joined l.covers.covered) + length (joined l.gap)) l.body line (BlockFrame h.before (take h.line h.buffer.items))
  ends_with_block n d = (d.0, l.before, ap (take h.line) l.bytes ∙ take_at (joined l.body) line h.line (sym l.place))

  -- the line is a claim inside an open block
  pub breaks_with_claim : (limits : Limits) (n : ℕ) → Does (Breaks n) h.before l.body line → (span : Span)
      → span.start ≡ n → span.end ≡ h.before + h.line
      → BreaksBlock limits lines frames line (Unfinished span)
  breaks_with_claim limits n d span from upto = breaks_claim limits lines frames l.gap l.body l.covers line n h.before l.before d span from (upto ∙ ap (λ k. h.before + k) l.place)

no_body : (body : List Line) → AreBlockLines body → length (joined body) ≡ 0 → body ≡ []
no_body [] own l = refl
no_body (x ∷ body) own l = absurd (let some = filled x body own in omega (arith, some, l))

module _ (h : Held) (bytes : List ℕ) (frames : List Frame) (s : Stands h bytes frames) where
  current_size : h.line + length s.current ≡ length h.buffer.items
  current_size = omega (arith, s.has_line.place, ap length s.has_line.bytes, length-append (joined s.has_line.body) s.current)

  -- there is no current line
  pub ends_without : h.line ≡ length h.buffer.items → HasLine h (lines_of bytes) frames []
  ends_without e =
      let none : s.current ≡ [] = nil_from_length s.current (let c = current_size in omega (arith, c, e)) in
      let lines_are : lines_of bytes ≡ s.lines = lines_up_to bytes s.lines [] (s.whole ∙ ap (λ c. joined s.lines ++ c) none) s.ended ∙ append-nil s.lines in
      subst (λ l. HasLine h l frames []) (sym lines_are) (subst (HasLine h s.lines frames) none s.has_line)

  module _ (l : h.line < length h.buffer.items) where
    lines_are : lines_of bytes ≡ s.lines ++ s.current ∷ []
    lines_are = lines_up_to bytes s.lines s.current s.whole s.ended ∙ ap (λ c. s.lines ++ c) (one_line s.current (let c = current_size in omega (arith, c, l)) s.goes_on)

    -- the last line ends nothing
    pub ends_line : (new : Held) → EndsLine None new h
        → HasLine new (lines_of bytes) frames []
    ends_line new goes_on = subst (λ l. HasLine new l frames []) (sym lines_are) (goes_on _ _ _ s.has_line)

    -- the last line ends a frame
    pub ends_last : (new : Held) (ended : Ended) → EndsLine (Some ended) new h
        → EndsLast bytes frames (frame_at ended new.before (take new.line new.buffer.items))
    ends_last new ended ends =
        let l = s.has_line in
        record { lines = s.lines; gap = l.gap; body = l.body; line = s.current; whole = lines_are; covers = l.covers; unended = no_end s.current s.goes_on; closes = ends _ _ _ l }

    -- the last line isn't allowed there
    pub ends_broken : (limits : Limits) (fault : StreamError)
        → ((lines : List Line) (frames : List Frame) (line : Line) → HasLine h lines frames line → BreaksBlock limits lines frames line fault)
        → BreaksAfter limits CannotEnd bytes frames fault
    ends_broken limits fault breaks =
        let b = breaks _ _ _ s.has_line in
        breaks_at limits CannotEnd bytes s.lines frames s.current [] fault lines_are b (no_end s.current s.goes_on, b.cannot)

module _ (h : Held) (bytes : List ℕ) (frames : List Frame) (l : HasLine h (lines_of bytes) frames []) where
  -- no block is left open
  pub ends_framed : h.line ≡ 0 → IsFramed bytes frames
  ends_framed e =
      let none : l.body ≡ [] = no_body l.body l.covers.own (sym l.place ∙ e) in
      (l.gap, subst (Covers (lines_of bytes) frames l.gap) none l.covers)

  -- a block is left open
  pub ends_left_open : (limits : Limits) → 0 < h.line → (span : Span) → span.start ≡ h.before
      → span.end ≡ h.before + length h.buffer.items
      → BreaksAfter limits CannotEnd bytes frames (Unfinished span)
  ends_left_open limits some span from upto = record {
    lines = lines_of bytes;
    gap = l.gap;
    body = l.body;
    rest = [];
    whole = sym (append-nil (lines_of bytes));
    covers = l.covers;
    begun = λ e. omega (arith, some, l.place, ap (λ b. length (joined b)) e);
    breaks = tt;
    tells = (tt, from ∙ l.before, omega (arith, upto, l.before, ap length l.bytes, length-append (joined l.body) []));
  }
