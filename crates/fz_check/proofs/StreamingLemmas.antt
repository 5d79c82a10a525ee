-- What a check over a reader and a writer knows between two steps, and where it ends.
use Rattle.std.proofs.Common.{◌≡◌, ◌≢◌, ℕ, Bool, ◌+◌, ◌*◌, ◌<◌, ◌≤◌, true, false, cond, List, [], ◌∷◌, ◌++◌, length, Option, Some, inl, inr, ◌⊎◌, ⊎_elim, refl, sym, ap, ◌∙◌, subst, append-nil, length-append, arith}
use Rattle.std.specs.Prelude.{IfOk, IfErr, OnOk, OnErr, Result, Ok, Err}
use Rattle.std.proofs.lemmas.Result.{IfErr-weaker, IfOk-weaker}
use Rattle.std.proofs.KnownBytes.{Appends-nil, Consumes-nil, Consumes-trans}
use Rattle.std.specs.Io.KnownBytes.{Appends, Consumes, IsAtEnd}
use Rattle.fz_search.specs.of_model.Meaning.{Model}
use Rattle.fz_search.specs.of_model.Texts.{IsLoadedFromWithin}
use Rattle.fz_filling.specs.of_stream.declared.splitter.Stage.TheVariants.{Running, Finished}
use Rattle.fz_filling.specs.of_stream.Parts.{StreamPart, Frame, IsStreamTextWithin}
use Rattle.fz_filling.specs.of_syntax.Span.{Span}
use Rattle.fz_filling.specs.of_stream.declared.error.StreamError.TheVariants as stream
use Rattle.fz_cutting.specs.Short.{IsShort}
use Rattle.fz_check.specs.declared.event.Cut.{Cut}
use Rattle.fz_check.specs.declared.options.Ending.TheVariants.{Cut as CutEnding}
use Rattle.fz_check.specs.declared.options.Options.{Options}
use Rattle.fz_check.specs.declared.error.CheckError.{CheckError}
use Rattle.fz_check.specs.declared.error.CheckError.TheVariants as errors
use Rattle.fz_check.specs.declared.jury.Jury.{Jury}
use Rattle.fz_check.specs.declared.account.Account.{Account}
use Rattle.fz_check.specs.declared.account.Answer as the_answer
use Rattle.fz_check.specs.declared.account.Answer.TheVariants as answers
use Rattle.fz_check.specs.Cutting.{HoldsOfJudged}
use Rattle.fz_check.specs.Headline.{HasSolutionsWithin, HoldsOfStream}
use Rattle.fz_check.specs.Reported.{HoldsOfModelWithin}
use Rattle.fz_check.specs.Reading.{PiecesState, ReaderState, HasRead, HasNext, StandsAt, SpendsReads, is_going, piece_size, reads_without, steps_left}
use Rattle.fz_check.specs.Claims.{Outcome, answer_told, no_account, told_of}
use Rattle.fz_check.specs.Report.{AreOf, Event}
use Rattle.fz_check.specs.Report.Event.{Answered}
use Rattle.fz_check.specs.Streaming.{AreLast, EndInside, EndsFor, IsEndedWith, IsReportedWith, IsUnwritten, WritesFrontOf, WritesFrontOfEvents}
use Rattle.fz_check.specs.Telling.{AnswersOnceWritten, HasTold, IsEndOf, IsLeftOpen, IsToldWith, IsUnread, IsUntold, LeavesNext, Stands, StopsOnceWritten, TellsNext, TellsOneMore, cut_events}
use Rattle.fz_check.specs.View.{answer_view}
use Rattle.fz_check.specs.Writing.{Adds, WritesFront, Wrote}
use Rattle.fz_check.proofs.ClaimLemmas.{answer_of_account}
use Rattle.fz_check.proofs.CutLemmas.{cut_here, holds_at_end, if_judged}
use Rattle.fz_check.proofs.EventLemmas.{more_of}
use Rattle.fz_check.proofs.JuryLemmas.{answer_is, have_outcomes}
use Rattle.fz_check.proofs.ReaderLemmas.{all_taken, read_inside, read_more, stands_inside, stands_reading, unread_open}
use Rattle.fz_check.proofs.ReportLemmas.{accepted_solutions, reported}
use Rattle.fz_check.proofs.WritingLemmas.{all_is_front, front_and_none, wrote_all, wrote_longer, wrote_on, wrote_part, wrote_whole}

few_read : (at_end : Bool) (given more reads before all whole ended : ℕ)
    → given + (before + ended) * piece_size ≤ all * piece_size → reads + 1 ≡ before → more ≤ piece_size
    → (at_end ≡ true → more ≡ 0) → whole ≡ given + more → whole + (reads + cond at_end 1 0) * piece_size ≤ all * piece_size
few_read true given more reads before all whole ended few fewer size none is = omega (arith, few, fewer, none refl, is)
few_read false given more reads before all whole ended few fewer size none is = omega (arith, few, fewer, size, is)

-- these events are told, and of their bytes all but these are written
abbrev pub HasWritten : (Event → List ℕ → Type 0) → List Event → Option (List ℕ) → Option (List ℕ)
    → List ℕ → Type 0
HasWritten text events w w' lines =
    (bytes : List ℕ) × AreOf text events bytes × Wrote w w' bytes lines

front_of : (text : Event → List ℕ → Type 0) (events : List Event) (w w' next : Option (List ℕ)) (lines : List ℕ)
    → HasWritten text events w w' lines → WritesFront w' next lines → WritesFrontOf text events w next
front_of text events w w' next lines (bytes, are, wrote) f =
    let g = wrote_part w w' next bytes lines wrote f in
    (g.front, g.rest, subst (AreOf text events) g.whole are, g.appends)

-- The parts that have ended in what was read are told, and of their lines all but these are
-- written.
pub record Living (o : Options) (text : Event → List ℕ → Type 0) (m : Model) (reads : ℕ) (s : ReaderState) (j : Jury) (left left' w w' : Option (List ℕ)) (lines : List ℕ) : Type 0 where
  pub given : List ℕ
  pub consumes : Consumes left left' given
  pub few : length given + reads_without s.pieces * piece_size ≤ reads * piece_size
  pub parts : List StreamPart
  pub stands : StandsAt o.limits s left' given parts
  pub outcomes : List Outcome
  pub told : HasTold o m j parts outcomes
  pub gathered : HasWritten text (told_of m o.claims outcomes) w w' lines
  pub counted : s.splitter.stage ≡ Running → j.account.blocks ≤ s.splitter.taken

pub living_first : (o : Options) (text : Event → List ℕ → Type 0) (m : Model) (s : ReaderState) (j : Jury) (reads : ℕ) (left w : Option (List ℕ)) (lines : List ℕ) → HasTold o m j [] [] → j.account ≡ no_account → HasRead o.limits s [] [] → s.pieces ≡ record { pending = []; reads = reads; at_end = false } → lines ≡ [] → Living o text m reads s j left left w w lines
living_first o text m s j reads left w lines told account read pieces none = record {
  given = [];
  consumes = Consumes-nil left;
  few = omega (arith, ap reads_without pieces);
  parts = [];
  stands = inl (read, λ e. absurd (let no : false ≡ true = sym (ap (λ (p : PiecesState). p.at_end) pieces) ∙ e in cc));
  outcomes = [];
  told = told;
  gathered = ([], refl, wrote_whole w w [] lines (Appends-nil w) none);
  counted = λ _. omega (arith, ap (λ (a : Account). a.blocks) account);
}

-- ---- where a check ends

-- a front of the lines was written
pub stands_front : {o : Options} {text : Event → List ℕ → Type 0} {m : Model} {reads : ℕ}
    {left left' w w' next : Option (List ℕ)} {lines : List ℕ}
    → Stands o text m reads left left' w w' lines → WritesFront w' next lines
    → WritesFrontOfEvents o text m left left' w next
stands_front h f =
    record { given = h.given; reads = h.consumes; parts = h.parts; end_inside = h.end_inside; outcomes = h.outcomes; have_outcomes = h.have_outcomes; last = h.last; are_last = h.are_last; writes = h.front _ f }

module _ (o : Options) (text : Event → List ℕ → Type 0) (m : Model) (reads : ℕ) (j : Jury) (left left' w w' : Option (List ℕ)) (lines given : List ℕ) (consumes : Consumes left left' given)
    (few : length given ≤ reads * piece_size) (parts : List StreamPart) (outcomes : List Outcome) (told : HasTold o m j parts outcomes) where
  -- all of the parts were told, and of the lines that waited these are left
  module _ (w'' : Option (List ℕ)) (rest : List ℕ) (onward : (next : Option (List ℕ)) → WritesFront w'' next rest → WritesFront w' next lines) (last : List Event) (inside : EndInside o.limits left' given parts) (are_last : AreLast o m left' given parts (answer_told m o.claims outcomes) last) (gathered : HasWritten text (told_of m o.claims outcomes ++ last) w w' lines) where
    pub stand : Stands o text m reads left left' w w'' rest
    stand = record { given = given; consumes = consumes; few = few; parts = parts; end_inside = inside; outcomes = outcomes; have_outcomes = have_outcomes o m j parts outcomes told; last = last; are_last = are_last; front = λ next f. front_of text (told_of m o.claims outcomes ++ last) w w' next lines gathered (onward next f) }

  module _ (inside : EndInside o.limits left' given parts) (gathered : HasWritten text (told_of m o.claims outcomes) w w' lines) where
    pub stand_then : (w'' : Option (List ℕ)) (rest : List ℕ) → ((next : Option (List ℕ)) → WritesFront w'' next rest → WritesFront w' next lines)
        → Stands o text m reads left left' w w'' rest
    stand_then w'' rest onward = stand w'' rest onward [] inside (inl refl) (subst (λ es. HasWritten text es w w' lines) (sym (append-nil (told_of m o.claims outcomes))) gathered)

    pub stand_so_far : Stands o text m reads left left' w w' lines
    stand_so_far = stand_then w' lines (λ next f. f)

    -- this is why no more are told
    pub stops_for : (e : CheckError) → IsUnwritten e ⊎ EndsFor o m left' given parts e
        → StopsOnceWritten o text m left left' w w' lines e
    stops_for e (inl u) = inl u
    stops_for e (inr why) = inr (λ next a.
        record { given = given; reads = consumes; parts = parts; outcomes = outcomes; have_outcomes = have_outcomes o m j parts outcomes told; writes = (gathered.0, gathered.1, wrote_all w w' next _ lines gathered.2 a); why = why })

-- the stream is refused
unread_ends : (o : Options) (m : Model) (left : Option (List ℕ)) (given : List ℕ) (parts : List StreamPart)
    (e : CheckError) → IsUnread o.limits o.ending m left given parts e → IsUnwritten e ⊎ EndsFor o m left given parts e
unread_ends o m left given parts (errors.Stream e) u = inr u
unread_ends o m left given parts errors.Memory u = inl tt
unread_ends o m left given parts _ u = absurd u

-- the next part is
untold_ends : (o : Options) (m : Model) (left : Option (List ℕ)) (given : List ℕ) (parts : List StreamPart)
    (part : StreamPart) (e : CheckError) → EndInside o.limits left given (parts ++ part ∷ []) → IsUntold m parts part e
    → IsUnwritten e ⊎ EndsFor o m left given parts e
untold_ends o m left given parts part (errors.Block n e) inside u = inr (part, inside, u)
untold_ends o m left given parts part errors.Memory inside u = inl tt
untold_ends o m left given parts part _ inside u = absurd u

module _ {o : Options} {text : Event → List ℕ → Type 0} {m : Model} {reads : ℕ} {s : ReaderState} {j : Jury} {left left' w w' : Option (List ℕ)} {lines : List ℕ} (l : Living o text m reads s j left left' w w' lines) where
  so_few : length l.given ≤ reads * piece_size
  so_few = omega (arith, l.few)

  inside : EndInside o.limits left' l.given l.parts
  inside = stands_inside s left' l.given l.parts l.stands

  pub living_stands : Stands o text m reads left left' w w' lines
  living_stands = stand_so_far o text m reads j left left' w w' lines l.given l.consumes so_few l.parts l.outcomes l.told inside l.gathered

  pub living_unread : (e : CheckError)
      → ((left : Option (List ℕ)) (given : List ℕ) (parts : List StreamPart) → StandsAt o.limits s left given parts → IsUnread o.limits o.ending m left given parts e)
      → StopsOnceWritten o text m left left' w w' lines e
  living_unread e unread =
      stops_for o text m reads j left left' w w' lines l.given l.consumes so_few l.parts l.outcomes l.told inside l.gathered e (unread_ends o m left' l.given l.parts e (unread left' l.given l.parts l.stands))

  -- one more part is told
  module _ (next : ReaderState) (going : s.splitter.stage ≢ Finished)
      (more : (left : Option (List ℕ)) (given : List ℕ) (parts : List StreamPart) → StandsAt o.limits s left given parts → (frame : Frame) × HasNext o.limits next left given parts frame)
      (fewer : steps_left next < steps_left s) (same_reads : next.pieces.reads ≡ s.pieces.reads) (same_end : next.pieces.at_end ≡ s.pieces.at_end) where
    few_still : length l.given + reads_without next.pieces * piece_size ≤ reads * piece_size
    few_still = omega (arith, l.few, same_reads, ap {B = ℕ} (λ b. cond b 1 0) same_end)

    -- or not told
    pub living_untold : (e : CheckError) → LeavesNext next j e
        → StopsOnceWritten o text m left left' w w' lines e
    living_untold e leaves =
        let f = more left' l.given l.parts l.stands in
        let why : IsUnwritten e ⊎ EndsFor o m left' l.given l.parts e =
        ⊎_elim (unread_ends o m left' l.given l.parts e) (λ p. untold_ends o m left' l.given l.parts p.0 e (stands_inside next left' l.given (l.parts ++ p.0 ∷ []) p.1) p.2)
        (leaves o m left' l.given l.parts f.0 l.outcomes f.1 l.told) in
        stops_for o text m reads j left left' w w' lines l.given l.consumes so_few l.parts l.outcomes l.told inside l.gathered e why

    module _ (j' : Jury) (line : List ℕ) (tells : TellsNext text next j j' line) where
      read_and_told : (part : StreamPart) × StandsAt o.limits next left' l.given (l.parts ++ part ∷ []) × TellsOneMore o text m j' l.parts l.outcomes part line
      read_and_told =
          let f = more left' l.given l.parts l.stands in
          tells o m left' l.given l.parts f.0 l.outcomes f.1 l.told

      abbrev part : StreamPart
      part = read_and_told.0

      stands_next : StandsAt o.limits next left' l.given (l.parts ++ part ∷ [])
      stands_next = read_and_told.1

      one : TellsOneMore o text m j' l.parts l.outcomes part line
      one = read_and_told.2

      with_line : HasWritten text (told_of m o.claims one.more) w w' (lines ++ line)
      with_line = (l.gathered.0 ++ line, one.lines l.gathered.0 l.gathered.1, wrote_longer w w' l.gathered.0 lines _ (lines ++ line) line l.gathered.2 refl refl)

      pub living_told : (w'' : Option (List ℕ)) (lines' : List ℕ) → Wrote w' w'' (lines ++ line) lines'
          → j'.account.blocks ≤ j.account.blocks + 1
          → Living o text m reads next j' left left' w w'' lines'
      living_told w'' lines' wrote few_blocks = record {
        given = l.given;
        consumes = l.consumes;
        few = few_still;
        parts = l.parts ++ part ∷ [];
        stands = stands_next;
        outcomes = one.more;
        told = one.told;
        gathered = (with_line.0, with_line.1, wrote_on w w' w'' _ (lines ++ line) lines' with_line.2 wrote);
        counted = λ running. (
            let h = stands_reading s left' l.given l.parts going l.stands in
            let k = stands_reading next left' l.given (l.parts ++ part ∷ []) (λ f. let no : Running ≡ Finished = sym running ∙ f in cc) stands_next in
            omega (arith, l.counted h.fits.running, few_blocks, h.fits.taken, k.fits.taken, ap length h.whole, ap length k.whole, length-append h.taken s.pieces.pending, length-append k.taken next.pieces.pending, fewer, same_reads, ap is_going running, ap is_going h.fits.running));
      }

      -- but its line is not written
      pub living_ungathered : (w'' : Option (List ℕ)) (lines' : List ℕ)
          → ((n : Option (List ℕ)) → WritesFront w'' n lines' → WritesFront w' n (lines ++ line)) → Stands o text m reads left left' w w'' lines'
      living_ungathered w'' lines' front =
          stand_then o text m reads j' left left' w w' (lines ++ line) l.given l.consumes so_few (l.parts ++ part ∷ []) one.more one.told
          (stands_inside next left' l.given (l.parts ++ part ∷ []) stands_next) with_line w'' lines' front

  -- ---- all lines are written, and more is read

  -- a front of the lines that waited was written
  pub living_lost : (w'' : Option (List ℕ)) (rest : List ℕ) → WritesFront w' w'' lines → rest ≡ []
      → Stands o text m reads left left' w w'' rest
  living_lost w'' rest f none =
      stand_then o text m reads j left left' w w' lines l.given l.consumes so_few l.parts l.outcomes l.told inside l.gathered
      w'' rest (λ n g. front_and_none w' w'' n lines rest f none g)

  module _ (now next : ReaderState) (w'' left'' : Option (List ℕ)) (rest : List ℕ) (written : Appends w' w'' lines) (all_written : rest ≡ [])
      (bytes : (left : Option (List ℕ)) (given : List ℕ) (parts : List StreamPart) → StandsAt o.limits s left given parts → (now.pieces.pending ≡ []) × HasRead o.limits now given parts)
      (same : next.splitter ≡ now.splitter) (consumes : Consumes left' left'' next.pieces.pending) where
    abbrev given : List ℕ
    given = l.given ++ next.pieces.pending

    read_all : HasRead o.limits next given l.parts
    read_all = (let b = bytes left' l.given l.parts l.stands in read_more now next l.given l.parts b.0 same b.1)

    gave_all : Consumes left left'' given
    gave_all = Consumes-trans left left' left'' l.given next.pieces.pending l.consumes consumes

    wrote : HasWritten text (told_of m o.claims l.outcomes) w w'' rest
    wrote = (l.gathered.0, l.gathered.1, wrote_on w w' w'' _ lines rest l.gathered.2 (wrote_whole w' w'' lines rest written all_written))

    -- the read failed
    module _ (still : next.pieces.pending ≡ []) where
      few_now : length given ≤ reads * piece_size
      few_now = omega (arith, so_few, ap length still, length-append l.given next.pieces.pending)

      pub living_unread_stands : Stands o text m reads left left'' w w'' rest
      living_unread_stands = stand_so_far o text m reads j left left'' w w'' rest given gave_all few_now l.parts l.outcomes l.told (read_inside next left'' given l.parts read_all) wrote

      pub living_no_bytes : StopsOnceWritten o text m left left'' w w'' rest errors.Read
      living_no_bytes = stops_for o text m reads j left left'' w w'' rest given gave_all few_now l.parts l.outcomes l.told (read_inside next left'' given l.parts read_all) wrote errors.Read (inr (all_taken next given l.parts still read_all))

    pub living_read : next.pieces.reads + 1 ≡ s.pieces.reads → length next.pieces.pending ≤ piece_size
        → (next.pieces.at_end ≡ true → (next.pieces.pending ≡ []) × IsAtEnd left'') → s.splitter.stage ≢ Finished
        → Living o text m reads next j left left'' w w'' rest
    living_read fewer size end going = record {
      given = given;
      consumes = gave_all;
      few = few_read next.pieces.at_end (length l.given) (length next.pieces.pending) next.pieces.reads s.pieces.reads reads (length given) (cond s.pieces.at_end 1 0) l.few fewer size (λ e. ap length (end e).0) (length-append l.given next.pieces.pending);
      parts = l.parts;
      stands = inl (read_all, λ e. (end e).1);
      outcomes = l.outcomes;
      told = l.told;
      gathered = wrote;
      counted = λ running. (
          let h = stands_reading s left' l.given l.parts going l.stands in
          omega (arith, l.counted h.fits.running, h.fits.taken, read_all.fits.taken, ap length h.whole, ap length read_all.whole, length-append h.taken s.pieces.pending, length-append read_all.taken next.pieces.pending, length-append l.given next.pieces.pending));
    }

  -- ---- the stream has ended

  module _ (cut : Option Cut)
      (ended : (left : Option (List ℕ)) (given : List ℕ) (parts : List StreamPart)
      → StandsAt o.limits s left given parts → IsAtEnd left × IsEndOf o.limits o.ending m given parts cut) where
    at_end : IsAtEnd left' × IsEndOf o.limits o.ending m l.given l.parts cut
    at_end = ended left' l.given l.parts l.stands

    module _ (answer : the_answer.Answer)
        (is : answer_view answer ≡ answer_of_account j.account)
        (lines' : List ℕ) where
      answered : answer_view answer ≡ answer_told m o.claims l.outcomes
      answered = answer_is o m j l.parts l.outcomes l.told (answer_view answer) is

      abbrev pub last : List Event
      last = cut_events cut ++ Answered (answer_view answer) ∷ []

      module _ (added : Adds (AreOf text last) lines lines') where
        gathered_all : HasWritten text (told_of m o.claims l.outcomes ++ last) w w' lines'
        gathered_all = (
          l.gathered.0 ++ added.0,
          more_of text (told_of m o.claims l.outcomes) last l.gathered.0 added.0 l.gathered.1 added.2,
          wrote_longer w w' l.gathered.0 lines _ lines' added.0 l.gathered.2 refl added.1,
        )

        are_last : AreLast o m left' l.given l.parts (answer_told m o.claims l.outcomes) last
        are_last = inr (
          at_end.0,
          holds_at_end o.ending m l.given l.parts cut (λ front before. IsStreamTextWithin o.limits front l.parts
              × (last ≡ before ++ Answered (answer_told m o.claims l.outcomes) ∷ [])) at_end.1
              (λ front t. (t, ap (λ a. cut_events cut ++ Answered a ∷ []) answered)),
        )

        answered_stands : Stands o text m reads left left' w w' lines'
        answered_stands = stand o text m reads j left left' w w' lines' l.given l.consumes
            so_few l.parts l.outcomes l.told w' lines' (λ n f. f) last inside are_last gathered_all

        told_here : (front : List ℕ) → IsStreamTextWithin o.limits front l.parts
            → IsToldWith o (cut_events cut) text m front w w' lines' (answer_view answer)
        told_here front t = record {
          events = told_of m o.claims l.outcomes;
          report = record {
            parts = l.parts;
            text_of_stream = t;
            outcomes = l.outcomes;
            have_outcomes = have_outcomes o m j l.parts l.outcomes l.told;
            answer_is = answered;
            events_are = refl;
          };
          writes = λ next a. (gathered_all.0, gathered_all.1, wrote_all w w' next _ lines' gathered_all.2 a);
        }

        answers_then : s.pieces.at_end ≡ true → AnswersOnceWritten o text m reads left left' w w'
            lines' (answer_view answer)
        answers_then found = record {
          given = l.given;
          consumes = l.consumes;
          end = at_end.0;
          few = omega (arith, l.few, ap {B = ℕ} (λ b. cond b 1 0) found);
          report = holds_at_end o.ending m l.given l.parts cut
              (λ front before. IsToldWith o before text m front w w' lines' (answer_view answer))
              at_end.1 told_here;
        }

      -- the answer is told, or memory ran out
      pub living_ended : (r : Result the_answer.Answer CheckError)
          → OnOk r (Adds (AreOf text last) lines lines') → OnErr r (lines' ≡ lines)
          → Stands o text m reads left left' w w' lines'
      living_ended (Ok a) told same = answered_stands told
      living_ended (Err e) told same =
          subst (Stands o text m reads left left' w w') (sym same) living_stands

      pub living_answered : (r : Result the_answer.Answer CheckError)
          → OnOk r (Adds (AreOf text last) lines lines') → IfOk r (λ a. a ≡ answer)
          → s.pieces.at_end ≡ true
          → IfOk r (λ a. AnswersOnceWritten o text m reads left left' w w' lines' (answer_view a))
      living_answered (Ok a) told same found = subst (λ b. AnswersOnceWritten o text m reads left left' w w' lines' (answer_view b)) (sym same) (answers_then told found)
      living_answered (Err e) told same found = tt

-- ---- where the end leaves a block open

module _ (o : Options) (m : Model) (s : ReaderState) (span : Span) (held text : List ℕ) (same : text ≡ held)
    (opened : (left : Option (List ℕ)) (given : List ℕ) (parts : List StreamPart) → StandsAt o.limits s left given parts → IsAtEnd left × IsLeftOpen o.limits given parts span held) where
  open_here : (left : Option (List ℕ)) (given : List ℕ) (parts : List StreamPart)
      → StandsAt o.limits s left given parts → IsAtEnd left × IsLeftOpen o.limits given parts span text
  open_here left given parts st =
      let e = opened left given parts st in
      (e.0, subst (IsLeftOpen o.limits given parts span) (sym same) e.1)

  pub opened_cut : (cut : Cut) → (cut.span ≡ span) × (cut.text.now ≡ text) × (o.ending ≡ CutEnding) × IsShort o.limits m text
      → (left : Option (List ℕ)) (given : List ℕ) (parts : List StreamPart) → StandsAt o.limits s left given parts
      → IsAtEnd left × IsEndOf o.limits o.ending m given parts (Some cut)
  opened_cut cut is left given parts st =
      let e = open_here left given parts st in
      (e.0, cut_here m given parts span text e.1 o.ending cut is.0 is.1 is.2 is.3)

  pub opened_uncut : (e : CheckError)
      → (e ≢ errors.Memory → (e ≡ errors.Stream (stream.Unfinished span)) × (o.ending ≡ CutEnding → IsShort o.limits m text → ⊥))
      → (left : Option (List ℕ)) (given : List ℕ) (parts : List StreamPart) → StandsAt o.limits s left given parts
      → IsUnread o.limits o.ending m left given parts e
  opened_uncut e why left given parts st =
      let h = open_here left given parts st in
      unread_open o.ending m left given parts span text h.0 h.1 e why

-- ---- once the lines that are left are written, of each text of the model

module _ (o : Options) (text : Event → List ℕ → Type 0) (m : Model) (reads : ℕ) (left left' w w' w'' : Option (List ℕ)) (lines : List ℕ) where
  -- but for some that can't be
  pub unwritten_then : Stands o text m reads left left' w w' lines → WritesFront w' w'' lines
      → (e : CheckError) → IsUnwritten e → (source : List ℕ) → IsLoadedFromWithin o.limits source m
      → IsEndedWith o text source left left' w w'' e
  unwritten_then stands f e u source loaded =
      inr (record { m = m; loaded = loaded; holds = inl (u, stands_front stands f) })

  module _ (r : Result the_answer.Answer CheckError) where
    module _ (answered : IfOk r (λ a. AnswersOnceWritten o text m reads left left' w w' lines (answer_view a))) where
      pub accepted_then : IfOk r (λ a. (count : ℕ) → a ≡ answers.Accepted count
          → (source : List ℕ) → IsLoadedFromWithin o.limits source m → HoldsOfStream left left'
          (λ given. HoldsOfJudged o.limits o.ending m given (λ front _. HasSolutionsWithin o.limits source front count)))
      accepted_then = IfOk-weaker r _ _ (λ a h count is source loaded. record {
        given = h.given;
        reads = h.consumes;
        end = h.end;
        holds = if_judged o.limits o.ending m h.given (λ front cut. IsToldWith o cut text m front w w' lines (answer_view a)) (λ front _. HasSolutionsWithin o.limits source front count)
            (λ front cut t. accepted_solutions o source m front t.events (answer_view a) loaded t.report count (ap answer_view is)) h.report;
      }) answered

      pub end_read_then : IfOk r (λ _. SpendsReads reads 1 left left')
      end_read_then = IfOk-weaker r _ _ (λ a h. record { given = h.given; consumes = h.consumes; few = omega (arith, h.few) }) answered

      -- the lines that were left are written
      pub reported_then : Appends w' w'' lines
          → IfOk r (λ a. (source : List ℕ) → IsLoadedFromWithin o.limits source m
          → HoldsOfStream left left' (λ given. HoldsOfJudged o.limits o.ending m given
          (λ front cut. IsReportedWith o cut text source front w w'' (answer_view a))))
      reported_then appends = IfOk-weaker r _ _ (λ a h source loaded. record {
        given = h.given;
        reads = h.consumes;
        end = h.end;
        holds = if_judged o.limits o.ending m h.given (λ front cut. IsToldWith o cut text m front w w' lines (answer_view a)) (λ front cut. IsReportedWith o cut text source front w w'' (answer_view a))
            (λ front cut t. record { events = t.events; has_report = reported o source m front t.events (answer_view a) loaded t.report; writes = t.writes w'' appends }) h.report;
      }) answered

    pub refused_then : Stands o text m reads left left' w w' lines → Appends w' w'' lines
        → IfErr r (StopsOnceWritten o text m left left' w w' lines)
        → IfErr r (λ e. (source : List ℕ) → IsLoadedFromWithin o.limits source m
        → IsEndedWith o text source left left' w w'' e)
    refused_then stands appends h = IfErr-weaker r _ _ ended h
      where
        ended : (e : CheckError) → StopsOnceWritten o text m left left' w w' lines e
            → (source : List ℕ) → IsLoadedFromWithin o.limits source m
            → IsEndedWith o text source left left' w w'' e
        ended e (inl u) source loaded =
            unwritten_then stands (all_is_front w' w'' lines appends) e u source loaded
        ended e (inr stops) source loaded =
            inr (record { m = m; loaded = loaded; holds = inr (stops w'' appends) })

-- ---- of the text that a model was loaded from

module _ (o : Options) (source : List ℕ) (m : Model) (loaded : IsLoadedFromWithin o.limits source m) (left left' : Option (List ℕ)) (r : Result the_answer.Answer CheckError) where
  pub accepted_of : IfOk r (λ a. (count : ℕ) → a ≡ answers.Accepted count
      → (from : List ℕ) → IsLoadedFromWithin o.limits from m → HoldsOfStream left left'
      (λ given. HoldsOfJudged o.limits o.ending m given (λ front _. HasSolutionsWithin o.limits from front count)))
      → IfOk r (λ a. (count : ℕ) → a ≡ answers.Accepted count
      → HoldsOfModelWithin o.limits source (λ n. HoldsOfStream left left'
      (λ given. HoldsOfJudged o.limits o.ending n given (λ front _. HasSolutionsWithin o.limits source front count))))
  accepted_of h =
      IfOk-weaker r _ _ (λ a f count is. record { m = m; loaded = loaded; holds = f count is source loaded }) h

  pub reported_of : (text : Event → List ℕ → Type 0) (w w' : Option (List ℕ))
      → IfOk r (λ a. (from : List ℕ) → IsLoadedFromWithin o.limits from m
      → HoldsOfStream left left' (λ given. HoldsOfJudged o.limits o.ending m given
      (λ front cut. IsReportedWith o cut text from front w w' (answer_view a))))
      → IfOk r (λ a. HoldsOfModelWithin o.limits source
      (λ n. HoldsOfStream left left' (λ given. HoldsOfJudged o.limits o.ending n given
      (λ front cut. IsReportedWith o cut text source front w w' (answer_view a)))))
  reported_of text w w' h =
      IfOk-weaker r _ _ (λ a f. record { m = m; loaded = loaded; holds = f source loaded }) h
