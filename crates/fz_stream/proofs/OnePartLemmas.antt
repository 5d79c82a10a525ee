-- Lines are cut into one list of frames, so bytes are a text of one list of parts, and where a
-- stream stops, of none.
use Rattle.std.proofs.Common.{◌≡◌, ◌≢◌, ℕ, ◌+◌, Option, Some, None, List, [], ◌∷◌, ◌++◌, length, map, refl, sym, ap, ◌∙◌, subst, append_assoc, append-nil, length-append, arith}
use Rattle.std.specs.List.{AllByRecursion}
use Rattle.fz_syntax.specs.Tree.{Printed}
use Rattle.fz_syntax.proofs.More.{one_list_of_items}
use Rattle.fz_syntax.specs.Limits.{Limits}
use Rattle.fz_syntax.specs.Text.{IsTextOfItemsWithin}
use Rattle.fz_stream.specs.declared.error.StreamError.{StreamError}
use Rattle.fz_stream.specs.declared.line.LineKind.{LineKind}
use Rattle.fz_stream.specs.declared.line.LineKind.TheVariants.{Blank, Comment, Marker, Claim}
use Rattle.fz_stream.specs.declared.step.Step.{Step}
use Rattle.fz_stream.specs.declared.step.Step.TheVariants.{GoesOn, EndsBlock, Claims, Breaks}
use Rattle.fz_stream.specs.Parts.{Line, lines_of, joined, kind_of, IsFiller, IsFillerKind, IsInner, IsInnerKind, StreamPart, BlockPart, ClaimPart, Frame, BlockFrame, ClaimFrame, frame_of, IsBlockText, HasItems, AreBlockLines, Closes, AreLinesOfFrame, AreLinesOf, Covers, IsFramed, IsStreamTextWithin}
use Rattle.fz_stream.specs.Broken.{CannotFollow, BreaksText, BreaksAfter}
use Rattle.fz_stream.specs.Step.{step_of}
use Rattle.fz_stream.proofs.PartLemmas.{two_parts}
use Rattle.fz_stream.proofs.StepLemmas.{opened}

-- The frames of lines, and `None` behind them where the lines are broken. A block is open that
-- begins at `begun` and has this text so far, or none is; the next line begins at `at`.
abbrev after : Step → (Option ℕ → List ℕ → List (Option Frame)) → List ℕ → Line
    → List (Option Frame)
after (GoesOn None) next text line = next None []
after (GoesOn (Some start)) next text line = next (Some start) (text ++ line)
after (EndsBlock start) next text line = Some (BlockFrame start text) ∷ next None []
after (Claims kind) next text line = Some (ClaimFrame kind) ∷ next None []
after (Breaks start) next text line = None ∷ []

abbrev at_end : Option ℕ → List (Option Frame)
at_end None = []
at_end (Some start) = None ∷ []

abbrev cut : ℕ → Option ℕ → List ℕ → List Line → List (Option Frame)
cut at begun text [] = at_end begun
cut at begun text (line ∷ lines) = after (step_of begun at (kind_of line)) (λ b t. cut (at + length line) b t lines) text line

abbrev somes : List Frame → List (Option Frame)
somes frames = map Some frames

filler_step : (k : LineKind) (at : ℕ) → IsFillerKind k → step_of None at k ≡ GoesOn None
filler_step Blank at h = refl
filler_step Comment at h = refl
filler_step _ at h = absurd h

inner_step : (k : LineKind) (at start : ℕ) → IsInnerKind k
    → step_of (Some start) at k ≡ GoesOn (Some start)
inner_step Marker at start h = absurd h
inner_step (Claim kind) at start h = absurd h
inner_step _ at start h = refl

-- lines that end nothing are passed, up to the offset behind them
over_fillers : (at to : ℕ) (gap rest : List Line) → AllByRecursion IsFiller gap
    → to ≡ at + length (joined gap) → cut at None [] (gap ++ rest) ≡ cut to None [] rest
over_fillers at to [] rest h e = ap (λ n. cut n None [] rest) (let s : at ≡ to = omega (arith, e) in s)
over_fillers at to (x ∷ gap) rest h e =
    ap (λ s. after s (λ b t. cut (at + length x) b t (gap ++ rest)) [] x) (filler_step (kind_of x) at h.0)
    ∙ over_fillers (at + length x) to gap rest h.1 (omega (arith, e, length-append x (joined gap)))

over_inner : (at to start : ℕ) (text : List ℕ) (body rest : List Line) → AllByRecursion IsInner body
    → to ≡ at + length (joined body)
    → cut at (Some start) text (body ++ rest) ≡ cut to (Some start) (text ++ joined body) rest
over_inner at to start text [] rest h e = (let s : at ≡ to = omega (arith, e) in ap (λ n. cut n (Some start) text rest) s) ∙ ap (λ t. cut to (Some start) t rest) (sym (append-nil text))
over_inner at to start text (x ∷ body) rest h e =
    ap (λ s. after s (λ b t. cut (at + length x) b t (body ++ rest)) text x) (inner_step (kind_of x) at start h.0)
    ∙ over_inner (at + length x) to start (text ++ x) body rest h.1 (omega (arith, e, length-append x (joined body))) ∙ ap (λ t. cut to (Some start) t rest) (append_assoc text x (joined body))

over_body : (at to : ℕ) (body rest : List Line) → AreBlockLines body
    → to ≡ at + length (joined body)
    → cut at None [] (body ++ rest) ≡ cut to (opened body at) (joined body) rest
over_body at to [] rest h e = ap (λ n. cut n None [] rest) (let s : at ≡ to = omega (arith, e) in s)
over_body at to (x ∷ body) rest h e =
    ap (λ k. after (step_of None at k) (λ b t. cut (at + length x) b t (body ++ rest)) [] x) h.0 ∙ over_inner (at + length x) to at x body rest h.1 (omega (arith, e, length-append x (joined body)))

over_closing : (at start : ℕ) (body : List Line) (line : Line) (rest : List Line) (frame : Frame)
    → at ≡ start + length (joined body) → Closes start body line frame
    → cut at (opened body start) (joined body) (line ∷ rest)
    ≡ Some frame ∷ cut (at + length line) None [] rest
over_closing at start [] line rest (BlockFrame offset text) place c =
    let here : at ≡ offset = omega (arith, place, c.1) in
    ap (λ k. after (step_of None at k) (λ b t. cut (at + length line) b t rest) [] line) c.0 ∙ (λ i. Some (BlockFrame (here i) (sym c.2 i)) ∷ cut (at + length line) None [] rest)
over_closing at start (x ∷ body) line rest (BlockFrame offset text) place c =
    ap (λ k. after (step_of (Some start) at k) (λ b t. cut (at + length line) b t rest) (x ++ joined body) line) c.0 ∙ (λ i. Some (BlockFrame (sym c.1 i) (sym c.2 i)) ∷ cut (at + length line) None [] rest)
over_closing at start [] line rest (ClaimFrame kind) place c = ap (λ k. after (step_of None at k) (λ b t. cut (at + length line) b t rest) [] line) c.0
over_closing at start (x ∷ body) line rest (ClaimFrame kind) place c = absurd (let no : x ∷ body ≡ [] = c.1 in cc)

over_frame : (at to : ℕ) (own rest : List Line) (frame : Frame) → AreLinesOfFrame at own frame
    → to ≡ at + length (joined own)
    → cut at None [] (own ++ rest) ≡ Some frame ∷ cut to None [] rest
over_frame at to own rest frame k e =
    let start : ℕ = at + length (joined k.gap) in
    let here : ℕ = start + length (joined k.body) in
    let end : here + length k.line ≡ to =
    omega (arith, e, ap (λ l. length (joined l)) k.whole, two_parts k.gap (k.body ++ k.line ∷ []), two_parts k.body (k.line ∷ []), ap length (append-nil k.line)) in
    ap (cut at None []) (ap (λ l. l ++ rest) k.whole ∙ simp append_assoc) ∙ over_fillers at start k.gap (k.body ++ (k.line ∷ rest)) k.fillers refl ∙ over_body start here k.body (k.line ∷ rest) k.own refl
    ∙ over_closing here start k.body k.line rest frame refl k.closes ∙ ap (λ n. Some frame ∷ cut n None [] rest) end

over_frames : (at to : ℕ) (covered rest : List Line) (frames : List Frame)
    → AreLinesOf at covered frames → to ≡ at + length (joined covered)
    → cut at None [] (covered ++ rest) ≡ somes frames ++ cut to None [] rest
over_frames at to covered rest [] h e =
    ap (λ l. cut at None [] (l ++ rest)) h ∙ ap (λ n. cut n None [] rest) (let s : at ≡ to = omega (arith, e, ap (λ l. length (joined l)) h) in s)
over_frames at to covered rest (frame ∷ frames) h e =
    let next : ℕ = at + length (joined h.0) in
    ap (cut at None []) (ap (λ l. l ++ rest) h.2 ∙ append_assoc h.0 h.1 rest) ∙ over_frame at next h.0 (h.1 ++ rest) frame h.3 refl
    ∙ ap (λ l. Some frame ∷ l) (over_frames next to h.1 rest frames h.4 (omega (arith, e, ap (λ l. length (joined l)) h.2, two_parts h.0 h.1)))

cut_of : (lines rest : List Line) (frames : List Frame) (gap body : List Line)
    → Covers lines frames gap body → (at : ℕ) × (start : ℕ)
    × (cut 0 None [] (lines ++ rest) ≡ somes frames ++ cut at (opened body start) (joined body) rest)
cut_of lines rest frames gap body c =
    let at : ℕ = length (joined c.covered) in
    let start : ℕ = at + length (joined gap) in (
      start + length (joined body),
      start,
      ap (cut 0 None []) (ap (λ l. l ++ rest) c.whole ∙ simp append_assoc) ∙ over_frames 0 at c.covered (gap ++ (body ++ rest)) frames c.of_frames (omega arith)
          ∙ ap (λ l. somes frames ++ l) (over_fillers at start gap (body ++ rest) c.fillers refl ∙ over_body start (start + length (joined body)) body rest c.own refl),
    )

cut_whole : (bytes : List ℕ) (frames : List Frame) → IsFramed bytes frames
    → cut 0 None [] (lines_of bytes) ≡ somes frames
cut_whole bytes frames f =
    ap (cut 0 None []) (sym (append-nil (lines_of bytes))) ∙ (cut_of (lines_of bytes) [] frames f.0 [] f.1).2 ∙ append-nil (somes frames)

somes_once : (fs gs : List Frame) → somes fs ≡ somes gs → fs ≡ gs
somes_once [] [] e = refl
somes_once (f ∷ fs) (g ∷ gs) e =
    let here : f ≡ g = cc in
    let more : somes fs ≡ somes gs = cc in
    λ i. here i ∷ somes_once fs gs more i
somes_once _ _ e = cc

same_part : (a b : Limits) (part other : StreamPart) → HasItems a part → HasItems b other
    → frame_of other ≡ frame_of part → other ≡ part
same_part l m (BlockPart b) (BlockPart c) h g e =
    let offsets : c.offset ≡ b.offset = cc in
    let texts : c.text ≡ b.text = cc in
    let items : c.items ≡ b.items = one_list_of_items m l b.text c.items b.items (subst (λ t. IsTextOfItemsWithin m t c.items) texts g.0) h.0 in
    λ i. BlockPart (record { offset = offsets i; text = texts i; items = items i })
same_part l m (ClaimPart c) (ClaimPart d) h g e = (let inside : d ≡ c = cc in ap ClaimPart inside)
same_part l m _ _ h g e = cc

same_parts : (a b : Limits) (parts others : List StreamPart)
    → AllByRecursion (HasItems a) parts → AllByRecursion (HasItems b) others → map frame_of others ≡ map frame_of parts → others ≡ parts
same_parts l m [] [] h g e = refl
same_parts l m (p ∷ parts) (q ∷ others) h g e =
    let here : frame_of q ≡ frame_of p = cc in
    let more : map frame_of others ≡ map frame_of parts = cc in
    λ i. same_part l m p q h.0 g.0 here i ∷ same_parts l m parts others h.1 g.1 more i
same_parts l m _ _ h g e = cc

-- a stream's bytes are a text of one list of parts
pub parts_once : (a b : Limits) (bytes : List ℕ) (parts others : List StreamPart)
    → IsStreamTextWithin a bytes parts → IsStreamTextWithin b bytes others → others ≡ parts
parts_once a b bytes parts others t u =
    same_parts a b parts others t.items u.items (somes_once (map frame_of others) (map frame_of parts) (sym (cut_whole bytes (map frame_of others) u.framed) ∙ cut_whole bytes (map frame_of parts) t.framed))

no_none : (fs : List Frame) (xs more : List (Option Frame)) → somes fs ≡ xs ++ None ∷ more → ⊥
no_none (f ∷ fs) (x ∷ xs) more e = no_none fs xs more (let rest : somes fs ≡ xs ++ None ∷ more = cc in rest)
no_none (f ∷ fs) [] more e = (let no : Some f ≡ None = cc in cc)
no_none [] (x ∷ xs) more e = cc e
no_none [] [] more e = cc e

-- a block among the parts has items
items_of : (limits : Limits) (parts : List StreamPart) (xs more : List (Option Frame)) (offset : ℕ) (text : List ℕ)
    → AllByRecursion (HasItems limits) parts
    → somes (map frame_of parts) ≡ xs ++ Some (BlockFrame offset text) ∷ more
    → (items : List Printed) × IsBlockText limits text items
items_of limits (BlockPart b ∷ parts) [] more offset text h e = (let texts : b.text ≡ text = cc in (b.items, subst (λ t. IsBlockText limits t b.items) texts h.0))
items_of limits (p ∷ parts) (x ∷ xs) more offset text h e =
    items_of limits parts xs more offset text h.1 (let rest : somes (map frame_of parts) ≡ xs ++ Some (BlockFrame offset text) ∷ more = cc in rest)
items_of limits [] (x ∷ xs) more offset text h e = absurd (cc e)
items_of limits _ [] more offset text h e = absurd (cc e)

-- what comes after an open block that is broken
broken_rest : (limits : Limits) (parts : List StreamPart) (xs : List (Option Frame)) (at start : ℕ) (body : List Line)
    (rest : List Line) → body ≢ [] → BreaksText limits (joined body) rest → AllByRecursion (HasItems limits) parts
    → somes (map frame_of parts) ≡ xs ++ cut at (opened body start) (joined body) rest → ⊥
broken_rest limits parts xs at start [] rest some breaks items e = some refl
broken_rest limits parts xs at start (x ∷ body) [] some breaks items e = no_none (map frame_of parts) xs [] e
broken_rest limits parts xs at start (x ∷ body) (line ∷ rest) some breaks items e = by (kind_of line) breaks e
  where
    by : (k : LineKind) → CannotFollow limits (x ++ joined body) k
        → somes (map frame_of parts) ≡ xs ++ after (step_of (Some start) at k) (λ b t. cut (at + length line) b t rest) (x ++ joined body) line
        → ⊥
    by Marker breaks e = let w = items_of limits parts xs (cut (at + length line) None [] rest) start (x ++ joined body) items e in breaks w.0 w.1
    by (Claim c) breaks e = no_none (map frame_of parts) xs [] e
    by _ breaks e = breaks

-- where a stream stops, its bytes are a text of no parts
pub stops_no_text : (limits : Limits) (bytes : List ℕ) (frames : List Frame) (fault : StreamError)
    → BreaksAfter limits BreaksText bytes frames fault → (parts : List StreamPart)
    → IsStreamTextWithin limits bytes parts → ⊥
stops_no_text limits bytes frames fault s parts t =
    let c = cut_of s.lines s.rest frames s.gap s.body s.covers in
    broken_rest limits parts (somes frames) c.0 c.1 s.body s.rest s.begun s.breaks t.items
    (sym (cut_whole bytes (map frame_of parts) t.framed) ∙ ap (cut 0 None []) s.whole ∙ c.2)
