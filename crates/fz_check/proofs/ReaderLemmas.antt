-- What a reader of parts knows after each of its steps.
use Rattle.std.proofs.Common.{◌≡◌, ◌≢◌, ℕ, inl, inr, subst₂, ◌+◌, ◌-◌, ◌≤◌, List, [], ◌∷◌, ◌++◌, length, map, take, drop, Option, Some, None, IsSome, true, false, ⊎_elim, refl, sym, ap, ◌∙◌, subst, append_assoc, append-nil, arith, length-take, length-append, take-append-drop}
use Rattle.std.proofs.lemmas.List.{drop_all, drop-take, drop-drop, map_push}
use Rattle.std.specs.List.{AllByRecursion}
use Rattle.std.specs.Prelude.{IfErr, Result, Ok, Err}
use Rattle.std.specs.Io.KnownBytes.{IsAtEnd}
use Rattle.fz_filling.specs.of_stream.declared.error.StreamError.{StreamError}
use Rattle.fz_filling.specs.of_stream.declared.error.StreamError.TheVariants as stream
use Rattle.fz_filling.specs.of_stream.declared.splitter.Stage.TheVariants.{Running, Finished, Failed}
use Rattle.fz_filling.specs.of_stream.Broken.{BreaksAfter, CannotGoOn, CannotEnd, IsBrokenAtEndAfter}
use Rattle.fz_filling.specs.of_stream.Faults.{IsStreamFault, IsCuttingFault}
use Rattle.fz_filling.specs.of_stream.Parts.{StreamPart, BlockPart, ClaimPart, Frame, frame_of, joined, HasItems, Covers, IsStreamTextWithin}
use Rattle.fz_filling.specs.of_stream.Splitting.{BeginsWithHeld, SplitterState, Holds, Fits, PassesLimit, EndsLast, EndsWith, IsPartOfItems, frames_in, most_taken}
use Rattle.fz_filling.specs.of_syntax.Limits.{Limits}
use Rattle.fz_filling.proofs.of_stream.PartLemmas.{every_append, into_frames, joined-append}
use Rattle.fz_filling.specs.of_syntax.Span.{Span}
use Rattle.fz_search.specs.of_model.Meaning.{Model}
use Rattle.fz_check.specs.declared.options.Ending.{Ending}
use Rattle.fz_check.specs.declared.options.Ending.TheVariants.{Cut}
use Rattle.fz_check.specs.declared.error.CheckError.{CheckError}
use Rattle.fz_check.specs.declared.error.CheckError.TheVariants as errors
use Rattle.fz_check.specs.declared.reader.Step.TheVariants.{Open}
use Rattle.fz_check.specs.Reading.{PiecesState, ReaderState, HasRead, HasEnded, WaitsInside, HasNext, StandsAt, HasNoMore, IsRefusedInside, IsRefusedBy}
use Rattle.fz_check.specs.Streaming.{EndInside}
use Rattle.fz_cutting.specs.Short.{IsShort}
use Rattle.fz_check.specs.Telling.{IsLeftOpen, IsUnread, broken_end, stream_refusal}
use Rattle.fz_check.proofs.CutLemmas.{after_by, inside_by, last_not_open, open_refused}

-- what is left of a slice of the buffer
pub pending_left : (buffer : List ℕ) (next end n : ℕ) → n ≤ length
    (take (end - next) (drop next buffer)) → take (end - (next + n)) (drop (next + n) buffer)
    ≡ drop n (take (end - next) (drop next buffer))
pending_left buffer next end n h =
    let size : end - next ≡ n + (end - (next + n)) = omega (arith, h, length-take (end - next) (drop next buffer)) in
    sym (ap (λ m. drop n (take m (drop next buffer))) size ∙ drop-take n (end - (next + n)) (drop next buffer) ∙ ap (λ l. take (end - (next + n)) l) (drop-drop n next buffer))

some_is : {A : Type 0} (o : Option A) → IsSome o → (x : A) × (o ≡ Some x)
some_is None s = absurd (let no : false ≡ true = s in cc)
some_is (Some x) s = (x, refl)

none_is : {A : Type 0} (o : Option A) → (IsSome o → ⊥) → o ≡ None
none_is None n = refl
none_is (Some x) n = absurd (n refl)

-- what `feed` promises, from what the splitter's own promises
module _ (old : ReaderState) (s : SplitterState) (p : PiecesState) (view : record { splitter = s; pieces = p } ≡ old) (new : ReaderState) (piece : List ℕ) (n : ℕ) (is : piece ≡ p.pending)
    (fed : (bytes : List ℕ) (frames : List Frame) → Fits s bytes frames → Fits new.splitter (bytes ++ take n piece) (frames ++ frames_in new.splitter.waits)) (taken : new.pieces.pending ≡ drop n p.pending) (most : new.splitter.taken ≤ most_taken) where
  pending : piece ≡ old.pieces.pending
  pending = is ∙ ap (λ (t : ReaderState). t.pieces.pending) view

  behind : new.pieces.pending ≡ drop n piece
  behind = taken ∙ ap (drop n) (sym is)

  module _ {limits : Limits} (given : List ℕ) (parts : List StreamPart) (h : HasRead limits old given parts) where
    fits_next : Fits new.splitter (h.taken ++ take n piece) (map frame_of parts ++ frames_in new.splitter.waits)
    fits_next = fed h.taken (map frame_of parts) (subst (λ t. Fits t h.taken (map frame_of parts)) (sym (ap (λ (t : ReaderState). t.splitter) view)) h.fits)

    whole_next : given ≡ (h.taken ++ take n piece) ++ new.pieces.pending
    whole_next =
        h.whole ∙ ap (λ l. h.taken ++ l) (sym pending ∙ sym (take-append-drop n piece)) ∙ sym (append_assoc h.taken (take n piece) (drop n piece)) ∙ ap (λ l. (h.taken ++ take n piece) ++ l) (sym behind)

    short_next : length (h.taken ++ take n piece) ≤ most_taken
    short_next = let f = fits_next in omega (arith, most, f.taken)

    pub fed_more : IsSome new.splitter.waits → (frame : Frame) × (new.splitter.waits ≡ Some frame)
        × WaitsInside new given parts frame
    fed_more some =
        let w = some_is new.splitter.waits some in
        (w.0, w.1, record { taken = h.taken ++ take n piece; whole = whole_next; fits = subst (λ o. Fits new.splitter (h.taken ++ take n piece) (map frame_of parts ++ frames_in o)) w.1 fits_next; short = short_next })

    pub fed_none : new.splitter.limits ≡ s.limits → (IsSome new.splitter.waits → ⊥)
        → (new.splitter.waits ≡ None → n ≡ length piece)
        → (new.pieces.pending ≡ []) × HasRead limits new given parts
    fed_none same not_some all =
        let none = none_is new.splitter.waits not_some in (
          behind ∙ drop_all n piece (omega (arith, all none)),
          record {
            under = same ∙ ap (λ (t : ReaderState). t.splitter.limits) view ∙ h.under;
            taken = h.taken ++ take n piece;
            whole = whole_next;
            fits = subst (Fits new.splitter (h.taken ++ take n piece)) (append-nil (map frame_of parts)) (subst (λ o. Fits new.splitter (h.taken ++ take n piece) (map frame_of parts ++ frames_in o)) none fits_next);
            items = h.items;
            short = short_next;
          },
        )

-- or it refuses the stream inside the bytes
module _ {limits : Limits} (old : ReaderState) (s : SplitterState) (p : PiecesState) (view : record { splitter = s; pieces = p } ≡ old) (piece : List ℕ) (is : piece ≡ p.pending) (given : List ℕ) (parts : List StreamPart) (h : HasRead limits old given parts) where
  fits_old : Fits s h.taken (map frame_of parts)
  fits_old = subst (λ t. Fits t h.taken (map frame_of parts)) (sym (ap (λ (t : ReaderState). t.splitter) view)) h.fits

  whole_old : given ≡ h.taken ++ piece
  whole_old = h.whole ∙ ap (λ l. h.taken ++ l) (sym (is ∙ ap (λ (t : ReaderState). t.pieces.pending) view))

  under_old : s.limits ≡ limits
  under_old = ap (λ (t : ReaderState). t.splitter.limits) view ∙ h.under

  pub fed_refused : (e : StreamError)
      → (e ≢ stream.TooLong → (bytes : List ℕ) (frames : List Frame) → Fits s bytes frames → BreaksAfter s.limits CannotGoOn (bytes ++ piece) frames e)
      → (e ≡ stream.TooLong → (bytes : List ℕ) (frames : List Frame) → Fits s bytes frames → PassesLimit s.limits.bytes bytes piece frames)
      → IsRefusedInside limits given parts e
  fed_refused stream.TooLong broken long = inl (refl, record { taken = h.taken; piece = piece; whole = whole_old; items = h.items; passes = subst (λ (l : Limits). PassesLimit l.bytes h.taken piece (map frame_of parts)) under_old (long refl h.taken (map frame_of parts) fits_old) })
  fed_refused e broken long = inr (h.items, subst₂ (λ (m : Limits) l. BreaksAfter m CannotGoOn l (map frame_of parts) e) under_old (sym whole_old) (broken (λ q. cc) h.taken (map frame_of parts) fits_old))

-- what `finish` promises, from what the splitter's own promises
module _ {limits : Limits} (old : ReaderState) (s : SplitterState) (same : old.splitter ≡ s) (none : old.pieces.pending ≡ []) (given : List ℕ) (parts : List StreamPart) (h : HasRead limits old given parts) where
  all_fits : Fits s given (map frame_of parts)
  all_fits =
      let all : h.taken ≡ given = sym (h.whole ∙ ap (λ l. h.taken ++ l) none ∙ append-nil h.taken) in
      subst (λ l. Fits s l (map frame_of parts)) all (subst (λ t. Fits t h.taken (map frame_of parts)) same h.fits)

  module _ (waits : Option Frame) (ends : (bytes : List ℕ) (frames : List Frame) → Fits s bytes frames → EndsWith waits bytes frames) where
    pub ended_more : IsSome waits → (frame : Frame) × (waits ≡ Some frame)
        × EndsLast given (map frame_of parts) frame
    ended_more some =
        let w = some_is waits some in
        (w.0, w.1, subst (λ o. EndsWith o given (map frame_of parts)) w.1 (ends given (map frame_of parts) all_fits))

    pub ended_none : (IsSome waits → ⊥) → IsStreamTextWithin limits given parts
    ended_none not_some = record {
      framed = subst (λ o. EndsWith o given (map frame_of parts)) (none_is waits not_some) (ends given (map frame_of parts) all_fits);
      items = h.items;
    }

  pub ended_running : (e : StreamError) → (e ≡ stream.Failed → s.stage ≡ Failed)
      → e ≢ stream.Failed
  ended_running e failed q =
      let no : Running ≡ Failed = sym all_fits.running ∙ failed q in cc

  pub ended_broken : (e : StreamError)
      → ((bytes : List ℕ) (frames : List Frame) → Fits s bytes frames → BreaksAfter s.limits CannotEnd bytes frames e)
      → IsBrokenAtEndAfter limits given parts e
  ended_broken e broken = (h.items, subst (λ (m : Limits). BreaksAfter m CannotEnd given (map frame_of parts) e) (sym (ap (λ t. t.limits) same) ∙ h.under) (broken given (map frame_of parts) all_fits))

  front_and_held : (front : List ℕ) × (given ≡ front ++ s.held)
  front_and_held =
      let holds = all_fits.holds in
      let before = holds.covers.covered ++ holds.gap in
      let lines : holds.lines ≡ before ++ holds.body = holds.covers.whole ∙ sym (append_assoc holds.covers.covered holds.gap holds.body) in (
        joined before,
        holds.whole ∙ ap (λ l. joined l ++ holds.current) lines ∙ ap (λ l. l ++ holds.current) (joined-append before holds.body)
            ∙ append_assoc (joined before) (joined holds.body) holds.current ∙ ap (λ l. joined before ++ l) (sym holds.held_are),
      )

  pub ended_open : (e : StreamError) → IsBrokenAtEndAfter limits given parts e → BeginsWithHeld s e
      → (span : Span) → broken_end e ≡ Ok (Open span) → (held : List ℕ) → held ≡ s.held
      → IsLeftOpen limits given parts span held
  ended_open (stream.Unfinished own) broken begins span is held same =
      let spans : own ≡ span = cc in
      let cut = front_and_held in
      record {
        broken = subst (λ x. IsBrokenAtEndAfter limits given parts (stream.Unfinished x)) spans broken;
        front = cut.0;
        given_is = cut.1 ∙ ap (λ l. cut.0 ++ l) (sym same);
        begins = omega (arith, begins, all_fits.taken, ap length cut.1, length-append cut.0 s.held, ap (λ (x : Span). x.start) spans);
      }
  ended_open e broken begins span is held same =
      absurd (let no : Err (stream_refusal e) ≡ Ok (Open span) = is in cc)

pub cutting_fault : (e : StreamError) → IsCuttingFault e → IsStreamFault e
cutting_fault (stream.Item f) h = absurd h
cutting_fault (stream.DuplicateName s) h = absurd h
cutting_fault stream.Failed h = absurd h
cutting_fault _ h = tt

-- why the stream is refused, as it is told
pub unread : (limits : Limits) (ending : Ending) (m : Model) (left : Option (List ℕ)) (given : List ℕ)
    (parts : List StreamPart) (e : StreamError) → (e ≢ stream.Memory → IsStreamFault e)
    → (e ≢ stream.Memory → IsRefusedBy limits ending m left given parts e)
    → IsUnread limits ending m left given parts (stream_refusal e)
unread limits ending m left given parts stream.Memory fault why = tt
unread limits ending m left given parts e fault why =
    (fault (λ m. cc), (λ m. cc), why (λ m. cc))

-- what holds of each error that a result may be
pub if_err_is : {T E : Type 0} (r : Result T E) (P : E → Type 0)
    → ((e : E) → r ≡ Err e → P e) → IfErr r P
if_err_is (Ok x) P f = tt
if_err_is (Err e) P f = f e refl

-- a stream that can't end as it is, is refused at its end, or leaves a block open
pub ended_refused : (limits : Limits) (ending : Ending) (m : Model) (left : Option (List ℕ)) (given : List ℕ)
    (parts : List StreamPart) (e : StreamError) → IsCuttingFault e × (e ≢ stream.TooLong)
    → IfErr (broken_end e) (IsUnread limits ending m left given parts)
ended_refused limits ending m left given parts (stream.Unfinished s) fault = tt
ended_refused limits ending m left given parts stream.Memory fault = tt
ended_refused limits ending m left given parts stream.TooLong fault = absurd (fault.1 refl)
ended_refused limits ending m left given parts _ fault = absurd fault.0

-- a block that was left open, and can't be cut off, refuses the stream
pub unread_open : {limits : Limits} → (ending : Ending) (m : Model) (left : Option (List ℕ)) (given : List ℕ)
    (parts : List StreamPart) (span : Span) (text : List ℕ) → IsAtEnd left
    → IsLeftOpen limits given parts span text → (e : CheckError)
    → (e ≢ errors.Memory → (e ≡ errors.Stream (stream.Unfinished span)) × (ending ≡ Cut → IsShort limits m text → ⊥))
    → IsUnread limits ending m left given parts e
unread_open ending m left given parts span text end h errors.Memory why = tt
unread_open {limits} ending m left given parts span text end h e why =
    let is = why (λ q. cc) in
    subst (IsUnread limits ending m left given parts) (sym is.0)
    (tt, (λ q. cc), open_refused m given parts span text h ending left end is.1)

-- ---- where a reader stands

-- one that has not ended stands where it has read
pub stands_reading : {limits : Limits} → (s : ReaderState) (left : Option (List ℕ)) (given : List ℕ)
    (parts : List StreamPart) → s.splitter.stage ≢ Finished → StandsAt limits s left given parts
    → HasRead limits s given parts
stands_reading s left given parts going st = ⊎_elim (λ h. h.0) (λ h. absurd (going h.1.finished)) st

-- one that is at the end of the bytes
pub stands_at_end : {limits : Limits} → (s : ReaderState) (left : Option (List ℕ)) (given : List ℕ)
    (parts : List StreamPart) → s.pieces.at_end ≡ true → StandsAt limits s left given parts → IsAtEnd left
stands_at_end s left given parts e st = ⊎_elim (λ h. h.1 e) (λ h. h.0) st

pub read_inside : {limits : Limits} → (s : ReaderState) (left : Option (List ℕ)) (given : List ℕ)
    (parts : List StreamPart) → HasRead limits s given parts → EndInside limits left given parts
read_inside s left given parts h = inl (h.taken, s.pieces.pending, h.whole, (h.items, (s.splitter.held, h.fits.holds)))

pub stands_inside : {limits : Limits} → (s : ReaderState) (left : Option (List ℕ)) (given : List ℕ)
    (parts : List StreamPart) → StandsAt limits s left given parts → EndInside limits left given parts
stands_inside {limits} s left given parts st =
    ⊎_elim (λ h. read_inside s left given parts h.0)
    (λ (h : IsAtEnd left × HasEnded limits s given parts). inr (h.0, h.1.text)) st

-- the splitter took all
pub all_taken : {limits : Limits} → (s : ReaderState) (given : List ℕ) (parts : List StreamPart)
    → s.pieces.pending ≡ [] → HasRead limits s given parts → HasNoMore limits given parts
all_taken s given parts none h =
    let all : h.taken ≡ given = sym (h.whole ∙ ap (λ l. h.taken ++ l) none ∙ append-nil h.taken) in
    (h.items, (s.splitter.held, subst (λ l. Holds l (map frame_of parts) s.splitter.held) all h.fits.holds))

-- and more was read
pub read_more : {limits : Limits} → (s next : ReaderState) (given : List ℕ) (parts : List StreamPart)
    → s.pieces.pending ≡ [] → next.splitter ≡ s.splitter → HasRead limits s given parts
    → HasRead limits next (given ++ next.pieces.pending) parts
read_more s next given parts none same h =
    let all : h.taken ≡ given = sym (h.whole ∙ ap (λ l. h.taken ++ l) none ∙ append-nil h.taken) in
    record {
      under = ap (λ t. t.limits) same ∙ h.under;
      taken = given;
      whole = refl;
      fits = subst₂ (λ t l. Fits t l (map frame_of parts)) (sym same) all h.fits;
      items = h.items;
      short = omega (arith, h.short, ap length h.whole, ap length none, length-append h.taken s.pieces.pending);
    }

-- the part that was read comes next
module _ {limits : Limits} (s : ReaderState) (left : Option (List ℕ)) (given : List ℕ) (parts : List StreamPart) (frame : Frame) (n : HasNext limits s left given parts frame) where
  module _ (part : StreamPart) (lent : Some (frame_of part) ≡ s.splitter.waits) (own : IsPartOfItems limits part) where
    has_items : (p : StreamPart) → IsPartOfItems limits p → HasItems limits p
    has_items (BlockPart block) h = h.0
    has_items (ClaimPart kind) h = tt

    items : AllByRecursion (HasItems limits) (parts ++ part ∷ [])
    items = every_append (HasItems limits) parts (part ∷ []) n.items (has_items part own, tt)

    framed_same : map frame_of parts ++ frame ∷ [] ≡ map frame_of (parts ++ part ∷ [])
    framed_same =
        let waits : Some frame ≡ Some (frame_of part) = sym (lent ∙ n.waits) in
        let frames : frame ≡ frame_of part = cc in
        ap (λ f. map frame_of parts ++ f ∷ []) frames ∙ sym (map_push frame_of parts part)

    pub stands_next : StandsAt limits s left given (parts ++ part ∷ [])
    stands_next =
        ⊎_elim
        (λ (w : WaitsInside s given parts frame × (s.pieces.at_end ≡ true → IsAtEnd left)).
        inl (record { under = n.under; taken = w.0.taken; whole = w.0.whole; fits = subst (Fits s.splitter w.0.taken) framed_same w.0.fits; items = items; short = w.0.short }, w.1))
        (λ (w : IsAtEnd left × (s.splitter.stage ≡ Finished) × EndsLast given (map frame_of parts) frame).
        (let covers = into_frames w.2.covers w.2.line frame w.2.closes in
        inr (w.0, record { finished = w.1; text = record { framed = ([], subst₂ (λ l f. Covers l f [] []) (sym w.2.whole) framed_same covers); items = items } })))
        n.ends

  -- or is refused
  pub refused_next : (t : SplitterState) → s.splitter ≡ t → (e : StreamError)
      → (e ≢ stream.Failed → IsStreamFault e) → (e ≡ stream.Failed → t.stage ≡ Failed)
      → (e ≢ stream.Memory → e ≢ stream.Failed → (bytes more : List ℕ) (frames : List Frame) (frame : Frame) → Fits t bytes (frames ++ frame ∷ []) → BreaksAfter t.limits CannotGoOn (bytes ++ more) frames e)
      → (e ≢ stream.Memory → e ≢ stream.Failed → (bytes : List ℕ) (frames : List Frame) → EndsWith t.waits bytes frames → BreaksAfter t.limits CannotEnd bytes frames e)
      → (ending : Ending) (m : Model) → IsUnread limits ending m left given parts (stream_refusal e)
  refused_next t same e fault failed broken broken_at_end ending m =
      unread limits ending m left given parts e (λ _. fault not_failed) why
    where
      under : t.limits ≡ limits
      under = sym (ap (λ u. u.limits) same) ∙ n.under

      not_failed : e ≢ stream.Failed
      not_failed q =
          ⊎_elim (λ w. let no : Running ≡ Failed = sym w.0.fits.running ∙ ap (λ u. u.stage) same ∙ failed q in cc) (λ w. let no : Finished ≡ Failed = sym w.1 ∙ ap (λ u. u.stage) same ∙ failed q in cc) n.ends

      why : e ≢ stream.Memory → IsRefusedBy limits ending m left given parts e
      why memory =
          ⊎_elim
          (λ (w : WaitsInside s given parts frame × (s.pieces.at_end ≡ true → IsAtEnd left)).
          inside_by ending m left given parts e (inr (n.items, subst₂ (λ (m : Limits) l. BreaksAfter m CannotGoOn l (map frame_of parts) e) under (sym w.0.whole) (broken memory not_failed w.0.taken s.pieces.pending (map frame_of parts) frame (subst (λ u. Fits u w.0.taken (map frame_of parts ++ frame ∷ [])) same w.0.fits)))))
          (λ (w : IsAtEnd left × (s.splitter.stage ≡ Finished) × EndsLast given (map frame_of parts) frame).
          let frames = map frame_of parts in
          let waits = sym n.waits ∙ ap (λ u. u.waits) same in
          let ends = subst (λ o. EndsWith o given frames) waits w.2 in
          let broken_here = subst (λ (m : Limits). BreaksAfter m CannotEnd given frames e) under (broken_at_end memory not_failed given frames ends) in
          let closed : (span : Span) → e ≡ stream.Unfinished span → ⊥ = λ span is.
          (let left_open = subst (BreaksAfter limits CannotEnd given frames) is broken_here in
          last_not_open given frames frame span w.2 left_open) in
          after_by ending m left given parts e closed (inr (w.0, (n.items, broken_here))))
          n.ends
