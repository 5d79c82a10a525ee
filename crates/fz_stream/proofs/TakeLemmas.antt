-- The loop invariant of a splitter's `take_bytes`, and what `feed`, `finish` and `take` promise.
use Rattle.std.proofs.Common.{◌≡◌, ◌≢◌, ℕ, ◌+◌, ◌-◌, ◌<◌, ◌≤◌, ◌^◌, Some, None, List, [], ◌∷◌, ◌++◌, length, take, drop, get_or, sym, ap, ◌∙◌, subst, ◌⊎◌, inl, inr, ⊎_elim, append_assoc, append-nil, length-append, length-take, length-drop, arith, take-append-drop, Option, refl, IsSome, true, false}
use Rattle.std.proofs.lemmas.Bool.{cases_lt}
use Rattle.std.proofs.lemmas.List.{take-take, same_from_push}
use Rattle.std.proofs.Math.Seq.{take-add}
use Rattle.std.specs.List.{AllByRecursion}
use Rattle.fz_syntax.specs.Limits.{Limits}
use Rattle.fz_stream.specs.declared.held.Ended.{Ended}
use Rattle.fz_stream.specs.declared.held.Held.{Held}
use Rattle.fz_stream.specs.declared.error.StreamError.{StreamError}
use Rattle.fz_stream.specs.Parts.{Line, lines_of, joined, Frame, Covers, BlockFrame, IsBlockText, Closes}
use Rattle.fz_stream.specs.Broken.{BreaksAfter, CannotGoOn, CannotEnd}
use Rattle.fz_stream.specs.Splitting.{Holds, HasRoomAt, HasRoomFor, PassesLimit, SplitterState, WaitsForLast, Fits, frames_in, EndsWith, HasNoFeed, EndsWithFeed}
use Rattle.fz_stream.specs.Keeping.{HasLine, Stands, EndsLine, AfterBytes, BreaksBlock, frame_at, held_while, line_while}
use Rattle.fz_stream.proofs.PartLemmas.{every_append, joined-push, size_of, into_frames, every_right, last_frame}
use Rattle.fz_stream.proofs.SplitLemmas.{lines_of-lines, lines_after, whole_from_last, begun_from_last, whole_joined, no_feed_before, joined-lines_of}
use Rattle.fz_stream.proofs.StepLemmas.{breaks_at, breaks_block}
use Rattle.fz_stream.specs.declared.splitter.Stage.{Stage}
use Rattle.fz_stream.specs.declared.splitter.Stage.TheVariants.{Running}
use Rattle.fz_stream.specs.Inside.{waiting_of}
use Rattle.fz_syntax.specs.Tree.{Printed}
use Rattle.fz_stream.specs.Telling.{TellsOfText}

-- what is held
abbrev pub holds_of : (h : Held) (bytes : List ℕ) (frames : List Frame) → Stands h bytes frames
    → Holds bytes frames h.buffer.items
holds_of h bytes frames s = record {
  lines = s.lines;
  gap = s.has_line.gap;
  body = s.has_line.body;
  current = s.current;
  covers = s.has_line.covers;
  whole = s.whole;
  ended = s.ended;
  goes_on = s.goes_on;
  held_are = s.has_line.bytes;
}

-- and how many bytes were taken
pub taken_of : (h : Held) (bytes : List ℕ) (frames : List Frame) → Stands h bytes frames
    → h.before + length h.buffer.items ≡ length bytes
taken_of h bytes frames s =
    omega (arith, s.has_line.before, ap length s.has_line.bytes, length-append (joined s.has_line.body) s.current, ap length s.whole, length-append (joined s.lines) s.current, size_of s.has_line.covers)

-- bytes without LF follow
holds_more : (bytes : List ℕ) (frames : List Frame) (held more : List ℕ) → Holds bytes frames held
    → HasNoFeed more → Holds (bytes ++ more) frames (held ++ more)
holds_more bytes frames held more h none = record {
  lines = h.lines;
  gap = h.gap;
  body = h.body;
  current = h.current ++ more;
  covers = h.covers;
  whole = ap (λ l. l ++ more) h.whole ∙ append_assoc (joined h.lines) h.current more;
  ended = h.ended;
  goes_on = every_append (λ b. b ≢ 10) h.current more h.goes_on none;
  held_are = ap (λ l. l ++ more) h.held_are ∙ append_assoc (joined h.body) h.current more;
}

pub record Taking (most_held : ℕ) (old now : Held) (piece : List ℕ) (at : ℕ) : Type 0 where
  pub within : at ≤ length piece
  pub line : now.line ≤ length now.buffer.items
  pub count : now.before + length now.buffer.items ≡ old.before + length old.buffer.items + at
  pub most : length now.buffer.items ≤ most_held
  pub most_taken : now.before + length now.buffer.items ≤ 2 ^ 40
  pub stands : (bytes : List ℕ) (frames : List Frame) → Stands old bytes frames
      → Stands now (bytes ++ take at piece) frames
  pub room : (bytes : List ℕ) (frames : List Frame) → Stands old bytes frames
      → HasRoomFor most_held bytes piece frames at

-- the next line of the piece
module _ (most_held : ℕ) (old now : Held) (piece : List ℕ) (at : ℕ) (t : Taking most_held old now piece at) (part : List ℕ) (rest : List ℕ) (left : rest ≡ drop at piece) (front : part ≡ take (length part) rest)
    (within : length part ≤ length rest) (some : 0 < length part) (either : EndsWithFeed part ⊎ HasNoFeed part) where
  next : take (at + length part) piece ≡ take at piece ++ part
  next = take-add at (length part) piece ∙ ap (λ l. take at piece ++ l) (sym (front ∙ ap (take (length part)) left))

  inside : at + length part ≤ length piece
  inside = omega (arith, t.within, within, ap length left, length-drop at piece)

  -- up to before its last byte
  front_next : (n : ℕ) → n < length part → take (at + n) piece ≡ take at piece ++ take n part
  front_next n l = take-add at n piece ∙ ap (λ m. take at piece ++ m) (ap (take n) (sym left) ∙ sym (take-take n (length part) rest (omega arith)) ∙ sym (ap (take n) front))

  -- what is held with so many bytes of the line, but not all
  holds_front : (n : ℕ) → n < length part → (bytes : List ℕ) (frames : List Frame)
      → Stands old bytes frames
      → Holds (bytes ++ take (at + n) piece) frames (now.buffer.items ++ take n part)
  holds_front n l bytes frames k =
      subst (λ b. Holds b frames (now.buffer.items ++ take n part)) (append_assoc bytes (take at piece) (take n part) ∙ ap (λ m. bytes ++ m) (sym (front_next n l)))
      (holds_more (bytes ++ take at piece) frames now.buffer.items (take n part) (holds_of now _ frames (t.stands bytes frames k)) (no_feed_before part n either l))

  -- the line fits: there is room for each of its bytes
  pub room_next : length now.buffer.items + length part ≤ most_held
      → now.before + length now.buffer.items + length part ≤ 2 ^ 40
      → (bytes : List ℕ) (frames : List Frame) → Stands old bytes frames → HasRoomFor most_held bytes piece frames (at + length part)
  room_next fits over bytes frames k i l =
      ⊎_elim (λ before. t.room bytes frames k i before)
      (λ behind. (let place : at + (i - at) ≡ i = omega (arith, behind) in subst (HasRoomAt most_held bytes piece frames) place (in_line (i - at) (omega (arith, behind, l))))) (cases_lt i at)
    where
      in_line : (n : ℕ) → n < length part → HasRoomAt most_held bytes piece frames (at + n)
      in_line n less = (
        now.buffer.items ++ take n part,
        holds_front n less bytes frames k,
        omega (arith, fits, less, length-append now.buffer.items (take n part), length-take n part),
        omega (arith, over, less, taken_of old bytes frames k, t.count, inside, length-append bytes (take (at + n) piece), length-take (at + n) piece),
      )

  -- the line doesn't fit: of its bytes n could be taken
  pub passes_limit : (n : ℕ) → n < length part → (bytes : List ℕ) (frames : List Frame)
      → Stands old bytes frames
      → (length now.buffer.items + n ≡ most_held) ⊎ (now.before + length now.buffer.items + n ≡ 2 ^ 40) → PassesLimit most_held bytes piece frames
  passes_limit n l bytes frames k full =
      let some : length (take n part) ≡ n = omega (arith, length-take n part, l) in
      record {
        n = at + n;
        within = omega (arith, l, inside);
        held = now.buffer.items ++ take n part;
        holds = holds_front n l bytes frames k;
        full = ⊎_elim (λ e. inl (omega (arith, e, some, length-append now.buffer.items (take n part))))
            (λ e. inr (omega (arith, e, some, taken_of old bytes frames k, t.count, l, inside, length-append bytes (take (at + n) piece), length-take (at + n) piece))) full;
      }

  module _ (mid : Held) (pushed : mid.buffer.items ≡ now.buffer.items ++ part) (same_line : mid.line ≡ now.line) (same_before : mid.before ≡ now.before) (room : length now.buffer.items + length part ≤ most_held)
      (left_over : now.before + length now.buffer.items + length part ≤ 2 ^ 40) where
    sizes : length mid.buffer.items ≡ length now.buffer.items + length part
    sizes = ap length pushed ∙ length-append now.buffer.items part

    line_mid : (bytes : List ℕ) (frames : List Frame) (s : Stands now bytes frames)
        → HasLine mid s.lines frames (s.current ++ part)
    line_mid bytes frames s = record {
      gap = s.has_line.gap;
      body = s.has_line.body;
      covers = s.has_line.covers;
      bytes = pushed ∙ ap (λ l. l ++ part) s.has_line.bytes ∙ append_assoc (joined s.has_line.body) s.current part;
      place = same_line ∙ s.has_line.place;
      before = same_before ∙ s.has_line.before;
    }

    whole_mid : (bytes : List ℕ) (frames : List Frame)
        (s : Stands now (bytes ++ take at piece) frames)
        → bytes ++ take (at + length part) piece ≡ joined s.lines ++ (s.current ++ part)
    whole_mid bytes frames s = ap (λ l. bytes ++ l) next ∙ sym (append_assoc bytes (take at piece) part) ∙ ap (λ l. l ++ part) s.whole ∙ append_assoc (joined s.lines) s.current part

    -- no line ended
    pub taking_begun : (get_or part (length part - 1) 0 ≡ 10 → ⊥)
        → Taking most_held old mid piece (at + length part)
    taking_begun unended = record {
      within = inside;
      line = omega (arith, t.line, sizes, same_line);
      count = omega (arith, t.count, sizes, same_before);
      most = omega (arith, room, sizes);
      most_taken = omega (arith, left_over, sizes, same_before);
      stands = λ bytes frames k. (
          let s = t.stands bytes frames k in
          record { lines = s.lines; current = s.current ++ part; has_line = line_mid _ frames s; whole = whole_mid bytes frames s; ended = s.ended; goes_on = every_append (λ b. b ≢ 10) s.current part s.goes_on (begun_from_last part either unended) });
      room = room_next room left_over;
    }

    module _ (closed : get_or part (length part - 1) 0 ≡ 10) where
      whole_lines : (bytes : List ℕ) (frames : List Frame) (s : Stands now bytes frames)
          → AllByRecursion EndsWithFeed (s.lines ++ (s.current ++ part) ∷ [])
      whole_lines bytes frames s = every_append EndsWithFeed s.lines ((s.current ++ part) ∷ []) s.ended (whole_joined s.current part s.goes_on (whole_from_last part either some closed), tt)

      whole_line : (bytes : List ℕ) (frames : List Frame)
          (s : Stands now (bytes ++ take at piece) frames)
          → bytes ++ take (at + length part) piece
          ≡ joined (s.lines ++ (s.current ++ part) ∷ []) ++ []
      whole_line bytes frames s = whole_mid bytes frames s ∙ sym (append-nil _ ∙ joined-push s.lines (s.current ++ part))

      -- a line ended, and no frame
      pub taking_line : (new : Held) → new.line ≤ length new.buffer.items
          → new.before + length new.buffer.items ≡ mid.before + length mid.buffer.items
          → length new.buffer.items ≤ length mid.buffer.items
          → EndsLine None new mid
          → Taking most_held old new piece (at + length part)
      taking_line new line count shorter goes_on = record {
        within = inside;
        line = line;
        count = omega (arith, count, t.count, sizes, same_before);
        most = omega (arith, shorter, room, sizes);
        most_taken = omega (arith, count, left_over, sizes, same_before);
        stands = λ bytes frames k. (
            let s = t.stands bytes frames k in
            record { lines = s.lines ++ (s.current ++ part) ∷ []; current = []; has_line = goes_on _ _ _ (line_mid _ frames s); whole = whole_line bytes frames s; ended = whole_lines _ frames s; goes_on = tt });
        room = room_next room left_over;
      }

      -- a frame ended
      pub takes_frame : (new : Held) (ended : Ended)
          → EndsLine (Some ended) new mid
          → (bytes : List ℕ) (frames : List Frame) → Stands old bytes frames → AfterBytes (Some ended) new (bytes ++ take (at + length part) piece) frames
      takes_frame new ended ends bytes frames k =
          let s = t.stands bytes frames k in
          let l = line_mid _ frames s in
          let frame : Frame = frame_at ended new.before (take new.line new.buffer.items) in
          let lines_are : lines_of (bytes ++ take (at + length part) piece) ≡ s.lines ++ (s.current ++ part) ∷ [] =
          ap lines_of (whole_line bytes frames s) ∙ lines_of-lines (s.lines ++ (s.current ++ part) ∷ []) [] (whole_lines _ frames s) ∙ append-nil _ in
          (subst (λ l. Covers l (frames ++ frame ∷ []) [] []) (sym lines_are) (into_frames l.covers (s.current ++ part) frame (ends _ _ _ l)), subst (AllByRecursion EndsWithFeed) (sym lines_are) (whole_lines _ frames s))

      -- the line isn't allowed there
      pub takes_broken : (fault : StreamError) (limits : Limits)
          → ((lines : List Line) (frames : List Frame) (line : Line) → HasLine mid lines frames line → BreaksBlock limits lines frames line fault)
          → (bytes : List ℕ) (frames : List Frame) → Stands old bytes frames → BreaksAfter limits CannotGoOn (bytes ++ piece) frames fault
      takes_broken fault limits breaks bytes frames k =
          let s = t.stands bytes frames k in
          let b = breaks _ _ _ (line_mid _ frames s) in
          let more : List ℕ = drop (at + length part) piece in
          let all : bytes ++ piece ≡ (bytes ++ take (at + length part) piece) ++ more = ap (λ l. bytes ++ l) (sym (take-append-drop (at + length part) piece)) ∙ sym (append_assoc bytes (take (at + length part) piece) more) in
          let lines_are : lines_of (bytes ++ piece) ≡ s.lines ++ ((s.current ++ part) ∷ lines_of more) =
          ap lines_of all ∙ lines_after _ (s.lines ++ (s.current ++ part) ∷ []) [] more (whole_line bytes frames s) (whole_lines _ frames s) ∙ append_assoc s.lines ((s.current ++ part) ∷ []) (lines_of more) in
          breaks_at limits CannotGoOn (bytes ++ piece) s.lines frames (s.current ++ part) (lines_of more) fault lines_are b (whole_joined s.current part s.goes_on (whole_from_last part either some closed), b.cannot)

-- what fits a state is what stands for it
pub stands_for : (s : SplitterState) (h : Held) → h.buffer.items ≡ s.held → h.line ≡ s.line
    → h.before + length h.buffer.items ≡ s.taken
    → (bytes : List ℕ) (frames : List Frame) → Fits s bytes frames → Stands h bytes frames
stands_for s h held line taken bytes frames f =
    let k = f.holds in
    let bytes_are : h.buffer.items ≡ joined k.body ++ k.current = held ∙ k.held_are in
    record {
      lines = k.lines;
      current = k.current;
      has_line = record {
        gap = k.gap;
        body = k.body;
        covers = k.covers;
        bytes = bytes_are;
        place = line ∙ f.line;
        before = omega (arith, taken, f.taken, ap length k.whole, length-append (joined k.lines) k.current, size_of k.covers, ap length bytes_are, length-append (joined k.body) k.current);
      };
      whole = k.whole;
      ended = k.ended;
      goes_on = k.goes_on;
    }

-- a splitter's state by its parts
abbrev pub made_state : Held → Option Ended → Stage → Limits → SplitterState
made_state held ended stage limits = record {
  held = held_while ended held.buffer.items;
  line = line_while ended held.line;
  taken = held.before + length held.buffer.items;
  waits = waiting_of ended held.before (take held.line held.buffer.items);
  stage = stage;
  limits = limits;
}

pub fed : (old new : Held) (piece : List ℕ) (n : ℕ) (stage : Stage) (limits : Limits)
    → stage ≡ Running
    → n ≤ length piece
    → new.before + length new.buffer.items ≡ old.before + length old.buffer.items + n → (ended : Option Ended) (bytes : List ℕ) (frames : List Frame) → Stands old bytes frames → AfterBytes ended new (bytes ++ take n piece) frames
    → Fits (made_state new ended stage limits) (bytes ++ take n piece) (frames ++ frames_in (waiting_of ended new.before (take new.line new.buffer.items)))
fed old new piece n stage limits running within count None bytes frames s k =
    subst (Fits (made_state new None stage limits) (bytes ++ take n piece)) (sym (append-nil frames)) (record {
      running = running;
      taken = omega (arith, count, taken_of old bytes frames s, length-append bytes (take n piece), length-take n piece, within);
      holds = holds_of new _ frames k;
      line = k.has_line.place;
      waits = tt;
    })
fed old new piece n stage limits running within count (Some e) bytes frames s k = record {
  running = running;
  taken = omega (arith, count, taken_of old bytes frames s, length-append bytes (take n piece), length-take n piece, within);
  holds = record { lines = lines_of (bytes ++ take n piece); gap = []; body = []; current = []; covers = k.0; whole = sym (append-nil _ ∙ joined-lines_of _); ended = k.1; goes_on = tt; held_are = refl };
  line = refl;
  waits = (frames, refl);
}

-- no more is held than the buffer has
pub short_held : (ended : Option Ended) (bytes : List ℕ) (n : ℕ) → length bytes ≤ n
    → length (held_while ended bytes) ≤ n
short_held None bytes n h = h
short_held (Some ended) bytes n h = omega arith

-- what a splitter that has taken nothing fits
pub fits_nothing : (s : SplitterState) → s.stage ≡ Running → s.taken ≡ 0 → s.held ≡ []
    → s.line ≡ 0 → s.waits ≡ None → Fits s [] []
fits_nothing s running taken held line waits = record {
  running = running;
  taken = taken;
  holds = record {
    lines = [];
    gap = [];
    body = [];
    current = [];
    covers = record { covered = []; whole = refl; of_frames = refl; fillers = tt; own = tt };
    whole = refl;
    ended = tt;
    goes_on = tt;
    held_are = held;
  };
  line = line;
  waits = subst (λ w. WaitsForLast w []) (sym waits) tt;
}

-- the last of the bytes that were taken ends the frame that waits
pub cut_off : (new : Held) (bytes : List ℕ) (frames : List Frame) (ended : Option Ended)
    → AfterBytes ended new bytes frames
    → IsSome (waiting_of ended new.before (take new.line new.buffer.items))
    → Covers (lines_of bytes) (frames ++ frames_in (waiting_of ended new.before (take new.line new.buffer.items))) [] []
cut_off new bytes frames None k some = absurd (let no : false ≡ true = some in cc)
cut_off new bytes frames (Some e) k some = k.0

-- a frame waits where one ended
pub some_ended : (ended : Option Ended) (offset : ℕ) (text : List ℕ)
    → IsSome (waiting_of ended offset text) → IsSome ended
some_ended None offset text s = s
some_ended (Some e) offset text s = refl

pub none_ended : (ended : Option Ended) (offset : ℕ) (text : List ℕ)
    → waiting_of ended offset text ≡ None → ended ≡ None
none_ended None offset text n = refl
none_ended (Some e) offset text n = absurd (let no : Some (frame_at e offset text) ≡ None = n in cc)

module _ (limits : Limits) (offset : ℕ) (text : List ℕ) (none : (items : List Printed) → IsBlockText limits text items → ⊥) (fault : StreamError) (told : TellsOfText limits offset text fault) (waits : Option Frame) (is : waits ≡ Some (BlockFrame offset text)) where
  -- whatever bytes follow it
  pub broken_inside : (s : SplitterState) → s.waits ≡ waits → (bytes more : List ℕ)
      (frames : List Frame) (frame : Frame)
      → Fits s bytes (frames ++ frame ∷ []) → BreaksAfter limits CannotGoOn (bytes ++ more) frames fault
  broken_inside s same bytes more frames frame f =
      let h = f.holds in
      let c = h.covers in
      let w = last_frame 0 c.covered frames frame c.of_frames in
      let k = w.4 in
      let last = subst (λ o. WaitsForLast o (frames ++ frame ∷ [])) (same ∙ is) f.waits in
      let closes : Closes ((0 + length (joined w.0)) + length (joined k.gap)) k.body k.line (BlockFrame offset text) =
      subst (Closes ((0 + length (joined w.0)) + length (joined k.gap)) k.body k.line) ((same_from_push frames last.0 frame (BlockFrame offset text) last.1).1) k.closes in
      let lines : List Line = w.0 ++ (k.gap ++ k.body) in
      let behind : List Line = h.gap ++ h.body in
      let whole : h.lines ≡ lines ++ (k.line ∷ behind) = c.whole ∙ ap (λ l. l ++ behind) (w.2 ∙ ap (λ l. w.0 ++ l) k.whole) ∙ simp append_assoc in
      let rest : List Line = lines_of (h.current ++ more) in
      let all : lines_of (bytes ++ more) ≡ lines ++ (k.line ∷ (behind ++ rest)) = lines_after bytes h.lines h.current more h.whole h.ended ∙ ap (λ l. l ++ rest) whole ∙ append_assoc lines (k.line ∷ behind) rest in
      let ends : EndsWithFeed k.line = (every_right EndsWithFeed lines (k.line ∷ behind) (subst (AllByRecursion EndsWithFeed) whole h.ended)).0 in
      let covers : Covers lines frames k.gap k.body = record { covered = w.0; whole = refl; of_frames = w.3; fillers = k.fillers; own = k.own } in
      let b = breaks_block limits lines frames k.gap k.body covers k.line closes.0 offset text (omega (arith, closes.1)) closes.2 none fault told in
      breaks_at limits CannotGoOn (bytes ++ more) lines frames k.line (behind ++ rest) fault all b (ends, b.cannot)

  -- at the end of the stream
  pub broken_last : (bytes : List ℕ) (frames : List Frame) → EndsWith waits bytes frames
      → BreaksAfter limits CannotEnd bytes frames fault
  broken_last bytes frames ends =
      let e = subst (λ o. EndsWith o bytes frames) is ends in
      let b = breaks_block limits e.lines frames e.gap e.body e.covers e.line e.closes.0 offset text e.closes.1 e.closes.2 none fault told in
      breaks_at limits CannotEnd bytes e.lines frames e.line [] fault e.whole b (e.unended, b.cannot)
