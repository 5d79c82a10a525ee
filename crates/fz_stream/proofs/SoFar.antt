-- A stream that is read line by line: the loop invariant of `blocks`, and what follows of a stream
-- that was read.
use Rattle.std.proofs.Common.{◌≡◌, ℕ, ◌+◌, ◌-◌, ◌≤◌, Option, Some, None, List, [], ◌∷◌, ◌++◌, length, refl, sym, ap, ◌∙◌, subst, append_assoc, append-nil, length-append, arith, take, drop, map}
use Rattle.std.proofs.lemmas.List.{drop-drop, drop_all, drop_at, take_at, length-drop, map_push}
use Rattle.std.specs.List.{AllByRecursion}
use Rattle.fz_syntax.specs.Places.{standard_limits}
use Rattle.fz_syntax.specs.Span.{Span}
use Rattle.fz_syntax.specs.Tree.{Printed}
use Rattle.fz_stream.specs.declared.error.StreamError.{StreamError}
use Rattle.fz_stream.specs.declared.error.StreamError.TheVariants.{Unfinished}
use Rattle.fz_stream.specs.declared.reading.Claim.{Claim}
use Rattle.fz_stream.specs.declared.line.ClaimKind.{ClaimKind}
use Rattle.fz_stream.specs.declared.step.Step.{Step}
use Rattle.fz_stream.specs.declared.step.Step.TheVariants.{GoesOn, EndsBlock, Claims, Breaks}
use Rattle.fz_stream.specs.Parts.{Line, lines_of, joined, kind_of, SolutionBlock, StreamPart, BlockPart, ClaimPart, frame_of, IsBlockText, HasItems, Closes, Covers, blocks_in, AreLinesOfFrame, AreLinesOf}
use Rattle.fz_stream.specs.Found.{claims_in, IsReadAs, AreInOrder, StandsBeforeMarker, IsStreamText}
use Rattle.fz_stream.specs.Step.{step_of}
use Rattle.fz_stream.specs.Broken.{BreaksText, StopsAfter}
use Rattle.fz_stream.specs.Telling.{TellsOfText}
use Rattle.fz_stream.specs.Keeping.{BreaksBlock}
use Rattle.fz_stream.proofs.OnePartLemmas.{parts_once}
use Rattle.fz_stream.proofs.PartLemmas.{every_append, joined-append, one_more, size_of, into_gap, into_body, into_frames}
use Rattle.fz_stream.proofs.SplitLemmas.{joined-lines_of}
use Rattle.fz_stream.proofs.StepLemmas.{opened, opens_more, none_open, some_open, Does, does, breaks_block, breaks_claim, breaks_at}

-- The lines before those that are left are those of frames, of blank lines and comments, and of an
-- open block; and the blocks and claims that were read are those of the frames.
pub record ReadSoFar (stream : List ℕ) (begun : Option ℕ) (at : ℕ) (blocks : List SolutionBlock) (claims : List Claim) : Type 0 where
  pub parts : List StreamPart
  pub items : AllByRecursion (HasItems standard_limits) parts
  pub lines : List Line
  pub gap : List Line
  pub body : List Line
  pub whole : lines_of stream ≡ lines ++ lines_of (drop at stream)
  pub covers : Covers lines (map frame_of parts) gap body
  pub place_is : at ≡ (length (joined covers.covered) + length (joined gap)) + length (joined body)
  pub begins : begun ≡ opened body (length (joined covers.covered) + length (joined gap))
  pub within : at ≤ length stream
  pub blocks_are : blocks ≡ blocks_in parts
  pub claims_are : claims ≡ claims_in 0 parts

pub start_so_far : (stream : List ℕ) → ReadSoFar stream None 0 [] []
start_so_far stream = record {
  parts = [];
  items = tt;
  lines = [];
  gap = [];
  body = [];
  whole = refl;
  covers = record { covered = []; whole = refl; of_frames = refl; fillers = tt; own = tt };
  place_is = refl;
  begins = refl;
  within = omega arith;
  blocks_are = refl;
  claims_are = refl;
}

pub blocks_in-append : (ps qs : List StreamPart)
    → blocks_in (ps ++ qs) ≡ blocks_in ps ++ blocks_in qs
blocks_in-append [] qs = refl
blocks_in-append (BlockPart b ∷ ps) qs = ap (λ l. b ∷ l) (blocks_in-append ps qs)
blocks_in-append (ClaimPart k ∷ ps) qs = blocks_in-append ps qs

pub claims_in-append : (n : ℕ) (ps qs : List StreamPart)
    → claims_in n (ps ++ qs) ≡ claims_in n ps ++ claims_in (n + length (blocks_in ps)) qs
claims_in-append n [] qs = ap (λ m. claims_in m qs) (let e : n ≡ n + 0 = omega arith in e)
claims_in-append n (BlockPart b ∷ ps) qs =
    claims_in-append (n + 1) ps qs ∙ ap (λ m. claims_in (n + 1) ps ++ claims_in m qs) (let e : (n + 1) + length (blocks_in ps) ≡ n + length (b ∷ blocks_in ps) = omega arith in e)
claims_in-append n (ClaimPart k ∷ ps) qs = ap (λ l. record { after = n; kind = k } ∷ l) (claims_in-append n ps qs)

-- the next line of the stream
module _ (stream : List ℕ) (begun : Option ℕ) (at : ℕ) (blocks : List SolutionBlock) (claims : List Claim) (s : ReadSoFar stream begun at blocks claims)
    (rest : List ℕ) (left : rest ≡ drop at stream) (line : Line) (within : length line ≤ length rest) (cut : lines_of rest ≡ line ∷ lines_of (drop (length line) rest)) where
  left_are : lines_of stream ≡ s.lines ++ (line ∷ lines_of (drop (at + length line) stream))
  left_are = s.whole ∙ ap (λ l. s.lines ++ l) (ap lines_of (sym left) ∙ cut ∙ ap (λ l. line ∷ lines_of l) (ap (drop (length line)) left ∙ drop-drop (length line) at stream))

  -- what the step of the line says
  line_does : (step : Step) → step_of begun at (kind_of line) ≡ step
      → Does step (length (joined s.covers.covered) + length (joined s.gap)) s.body line
  line_does = does at _ s.body line s.covers.own s.place_is begun s.begins

  -- so far with the line: of these parts, and with this block open
  so_far_with : (parts : List StreamPart) (gap body : List Line) (next : Option ℕ) (blocks : List SolutionBlock) (claims : List Claim) → AllByRecursion (HasItems standard_limits) parts
      → (c : Covers (s.lines ++ line ∷ []) (map frame_of parts) gap body) → next ≡ opened body (length (joined c.covered) + length (joined gap))
      → blocks ≡ blocks_in parts → claims ≡ claims_in 0 parts → ReadSoFar stream next (at + length line) blocks claims
  so_far_with parts gap body next blocks claims items c begins blocks_are claims_are = record {
    parts = parts;
    items = items;
    lines = s.lines ++ line ∷ [];
    gap = gap;
    body = body;
    whole = left_are ∙ sym (append_assoc s.lines (line ∷ []) _);
    covers = c;
    place_is = omega (arith, s.place_is, size_of s.covers, one_more s.lines line, size_of c);
    begins = begins;
    within = omega (arith, s.within, within, ap length left, length-drop at stream);
    blocks_are = blocks_are;
    claims_are = claims_are;
  }

  -- a line after which nothing ends
  pub so_far_goes_on : (next : Option ℕ) → step_of begun at (kind_of line) ≡ GoesOn next
      → ReadSoFar stream next (at + length line) blocks claims
  so_far_goes_on None e = let d = line_does (GoesOn None) e in so_far_with s.parts _ [] None blocks claims s.items (into_gap s.covers line d.0 d.1) refl s.blocks_are s.claims_are
  so_far_goes_on (Some n) e =
      let d = line_does (GoesOn (Some n)) e in
      so_far_with s.parts s.gap _ (Some n) blocks claims s.items (into_body s.covers line d.0) (opens_more s.body line _ n d.1) s.blocks_are s.claims_are

  -- the line ends a frame
  so_far_part : (part : StreamPart) → HasItems standard_limits part
      → Closes (length (joined s.covers.covered) + length (joined s.gap)) s.body line (frame_of part)
      → (more : List SolutionBlock) (claimed : List Claim)
      → more ≡ blocks_in (part ∷ []) → claimed ≡ claims_in (0 + length (blocks_in s.parts)) (part ∷ [])
      → ReadSoFar stream None (at + length line) (blocks ++ more) (claims ++ claimed)
  so_far_part part items closes more claimed are claimed_are =
      so_far_with (s.parts ++ part ∷ []) [] [] None _ _ (every_append (HasItems standard_limits) s.parts (part ∷ []) s.items (items, tt))
      (subst (λ frames. Covers (s.lines ++ line ∷ []) frames [] []) (sym (map_push frame_of s.parts part)) (into_frames s.covers line (frame_of part) closes)) refl
      (ap (λ l. l ++ more) s.blocks_are ∙ ap (λ l. blocks_in s.parts ++ l) are ∙ sym (blocks_in-append s.parts (part ∷ [])))
      (ap (λ l. l ++ claimed) s.claims_are ∙ ap (λ l. claims_in 0 s.parts ++ l) claimed_are ∙ sym (claims_in-append 0 s.parts (part ∷ [])))

  so_far_stops : (fault : StreamError) → BreaksBlock standard_limits s.lines (map frame_of s.parts) line fault
      → StopsAfter stream s.parts fault
  so_far_stops fault b = (s.items, breaks_at standard_limits BreaksText stream s.lines (map frame_of s.parts) line _ fault left_are b b.cannot)

  module _ (start : ℕ) (e : step_of begun at (kind_of line) ≡ EndsBlock start) (offset : ℕ) (text : List ℕ) (from : offset ≡ start) (is : text ≡ take (at - start) (drop start stream)) where
    -- the line closes a block of this text, which is what is between its start and the line
    text_is : text ≡ joined s.body
    text_is =
        let d = line_does (EndsBlock start) e in
        let front : List ℕ = joined s.covers.covered ++ joined s.gap in
        let behind : List ℕ = joined (line ∷ lines_of (drop (at + length line) stream)) in
        let size : length front ≡ start = omega (arith, length-append (joined s.covers.covered) (joined s.gap), d.1) in
        let lines_are : joined s.lines ≡ front ++ joined s.body =
        ap joined s.covers.whole ∙ joined-append s.covers.covered _ ∙ ap (λ l. joined s.covers.covered ++ l) (joined-append s.gap s.body) ∙ sym (append_assoc (joined s.covers.covered) (joined s.gap) (joined s.body)) in
        let split : stream ≡ front ++ (joined s.body ++ behind) =
        sym (joined-lines_of stream) ∙ ap joined left_are ∙ joined-append s.lines _ ∙ ap (λ l. l ++ behind) lines_are ∙ append_assoc front (joined s.body) behind in
        let dropped : drop start stream ≡ joined s.body ++ behind = ap (drop start) split ∙ drop_at front _ start size in
        is ∙ ap (take (at - start)) dropped ∙ take_at (joined s.body) behind (at - start) (omega (arith, s.place_is, d.1))

    pub so_far_block : (items : List Printed) → IsBlockText standard_limits text items
        → ReadSoFar stream None (at + length line) (blocks ++ record { offset = offset; text = text; items = items } ∷ []) claims
    so_far_block items t =
        let d = line_does (EndsBlock start) e in
        subst (ReadSoFar stream None (at + length line) (blocks ++ record { offset = offset; text = text; items = items } ∷ [])) (append-nil claims)
        (so_far_part (BlockPart (record { offset = offset; text = text; items = items })) t (d.0, from ∙ d.1, text_is) _ [] refl refl)

    -- its text ends before its marker
    pub so_far_text_within : offset + length text ≤ length stream
    so_far_text_within = omega (arith, from, ap length text_is, (line_does (EndsBlock start) e).1, s.place_is, s.within)

    -- or is none of a block
    pub so_far_stops_at_block : ((items : List Printed) → IsBlockText standard_limits text items → ⊥)
        → (fault : StreamError) → TellsOfText standard_limits offset text fault → StopsAfter stream s.parts fault
    so_far_stops_at_block none fault told =
        let d = line_does (EndsBlock start) e in
        so_far_stops fault (breaks_block _ _ _ _ _ s.covers line d.0 offset text (from ∙ d.1) text_is none fault told)

  pub so_far_claim : (c : ClaimKind) → step_of begun at (kind_of line) ≡ Claims c → (claim : Claim) → claim ≡ record { after = length blocks; kind = c }
      → ReadSoFar stream begun (at + length line) blocks (claims ++ claim ∷ [])
  so_far_claim c e claim is =
      let d = line_does (Claims c) e in
      let none : None ≡ begun = sym (s.begins ∙ ap (λ b. opened b (length (joined s.covers.covered) + length (joined s.gap))) d.1) in
      let place : length blocks ≡ 0 + length (blocks_in s.parts) = omega (arith, ap length s.blocks_are) in
      subst (λ b. ReadSoFar stream b (at + length line) blocks (claims ++ claim ∷ [])) none (subst (λ l. ReadSoFar stream None (at + length line) l (claims ++ claim ∷ [])) (append-nil blocks)
      (so_far_part (ClaimPart c) tt d [] (claim ∷ []) refl (ap (λ x. x ∷ []) (is ∙ (λ i. record { after = place i; kind = c })))))

  -- a claim is inside the open block
  pub so_far_stops_at_claim : (n : ℕ) → step_of begun at (kind_of line) ≡ Breaks n → (span : Span)
      → span.start ≡ n → span.end ≡ at → StopsAfter stream s.parts (Unfinished span)
  so_far_stops_at_claim n e span from upto =
      so_far_stops (Unfinished span) (breaks_claim _ _ _ _ _ s.covers line n _ refl (line_does (Breaks n) e) span from (upto ∙ s.place_is))

-- the end of the stream
module _ (stream : List ℕ) (at : ℕ) (blocks : List SolutionBlock) (claims : List Claim) (end : length stream ≤ at) (begun : Option ℕ) (s : ReadSoFar stream begun at blocks claims) where
  lines_are : lines_of stream ≡ s.lines ++ []
  lines_are = s.whole ∙ ap (λ l. s.lines ++ lines_of l) (drop_all at stream end)

  pub so_far_read : begun ≡ None → IsReadAs stream blocks claims
  so_far_read e =
      let none : s.body ≡ [] = none_open s.body _ (sym e ∙ s.begins) in
      let covers : Covers (lines_of stream) (map frame_of s.parts) s.gap [] = subst (λ l. Covers l (map frame_of s.parts) s.gap []) (sym (lines_are ∙ append-nil s.lines)) (subst (Covers s.lines (map frame_of s.parts) s.gap) none s.covers) in
      let text : IsStreamText stream s.parts = record { framed = (s.gap, covers); items = s.items } in
      record { parts = s.parts; text = text; only = λ others t. parts_once standard_limits standard_limits stream s.parts others text t; blocks_are = s.blocks_are; claims_are = s.claims_are }

  pub so_far_stops_at_end : (n : ℕ) → begun ≡ Some n → (span : Span) → span.start ≡ n
      → span.end ≡ length stream → StopsAfter stream s.parts (Unfinished span)
  so_far_stops_at_end n e span from upto =
      let w = some_open s.body _ n (sym e ∙ s.begins) in (
        s.items,
        record { lines = s.lines; gap = s.gap; body = s.body; rest = []; whole = lines_are; covers = s.covers; begun = w.0; breaks = tt; tells = (tt, from ∙ w.1, omega (arith, upto, end, s.within, s.place_is)) },
      )

in_order_from : (least more most : ℕ) (claims : List Claim) → least ≤ more
    → AreInOrder more most claims → AreInOrder least most claims
in_order_from least more most [] l h = tt
in_order_from least more most (claim ∷ claims) l h = (omega (arith, l, h.0), h.1, h.2)

claims_in_order : (n most : ℕ) (parts : List StreamPart) → n + length (blocks_in parts) ≤ most
    → AreInOrder n most (claims_in n parts)
claims_in_order n most [] h = tt
claims_in_order n most (BlockPart block ∷ parts) h = in_order_from n (n + 1) most (claims_in (n + 1) parts) (omega arith) (claims_in_order (n + 1) most parts (omega (arith, h)))
claims_in_order n most (ClaimPart kind ∷ parts) h = (omega arith, omega (arith, h), claims_in_order n most parts h)

-- the claims of a stream that was read don't fall
pub read_in_order : (bytes : List ℕ) (blocks : List SolutionBlock) (claims : List Claim) (most : ℕ)
    → IsReadAs bytes blocks claims → length blocks ≤ most → AreInOrder 0 most claims
read_in_order bytes blocks claims most r h = subst (AreInOrder 0 most) (sym r.claims_are) (claims_in_order 0 most r.parts (omega (arith, h, ap length r.blocks_are)))

stand_before : (bytes : List ℕ) (before covered rest : List Line) (start : ℕ)
    (parts : List StreamPart) → lines_of bytes ≡ before ++ (covered ++ rest)
    → start ≡ length (joined before)
    → AreLinesOf start covered (map frame_of parts) → AllByRecursion (StandsBeforeMarker bytes) (blocks_in parts)
stand_before bytes before covered rest start [] e s h = tt
stand_before bytes before covered rest start (part ∷ parts) e s h =
    by_part part h.3 (stand_before bytes (before ++ h.0) h.1 rest (start + length (joined h.0)) parts
    (e ∙ ap (λ l. before ++ (l ++ rest)) h.2 ∙ simp append_assoc)
    (omega (arith, s, ap length (joined-append before h.0), length-append (joined before) (joined h.0)))
    h.4)
  where
    by_part : (part : StreamPart) → AreLinesOfFrame start h.0 (frame_of part)
        → AllByRecursion (StandsBeforeMarker bytes) (blocks_in parts)
        → AllByRecursion (StandsBeforeMarker bytes) (blocks_in (part ∷ parts))
    by_part (ClaimPart kind) k later = later
    by_part (BlockPart block) k later = (
      record {
        before = before ++ (k.gap ++ k.body);
        marker = k.line;
        after = h.1 ++ rest;
        front = joined before ++ joined k.gap;
        lines = e ∙ ap (λ l. before ++ (l ++ rest)) (h.2 ∙ ap (λ l. l ++ h.1) k.whole) ∙ simp append_assoc;
        closes = k.closes.0;
        text = joined-append before (k.gap ++ k.body)
            ∙ ap (λ l. joined before ++ l) (joined-append k.gap k.body ∙ ap (λ l. joined k.gap ++ l) (sym k.closes.2)) ∙ sym (append_assoc (joined before) (joined k.gap) block.text);
        offset = k.closes.1 ∙ ap (λ n. n + length (joined k.gap)) s ∙ sym (length-append (joined before) (joined k.gap));
      },
      later,
    )

-- each block of a stream that was read comes before a marker line
pub read_before_markers : (bytes : List ℕ) (blocks : List SolutionBlock) (claims : List Claim)
    → IsReadAs bytes blocks claims → AllByRecursion (StandsBeforeMarker bytes) blocks
read_before_markers bytes blocks claims r =
    subst (AllByRecursion (StandsBeforeMarker bytes)) (sym r.blocks_are) (stand_before bytes [] r.text.framed.1.covered (r.text.framed.0 ++ []) 0 r.parts r.text.framed.1.whole refl r.text.framed.1.of_frames)
