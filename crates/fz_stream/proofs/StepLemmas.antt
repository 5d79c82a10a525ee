-- What a line does to the open block, if one is open; where it stops the stream, and what the fault
-- tells of it.
use Rattle.std.proofs.Common.{◌≡◌, ◌≢◌, ℕ, ◌+◌, ◌<◌, Option, Some, None, List, [], ◌∷◌, ◌++◌, length, refl, sym, ap, subst, cond, arith, ◌∙◌, ◌==◌, true, false, IfSome}
use Rattle.std.proofs.lemmas.Bool.{ne_eqb}
use Rattle.fz_stream.specs.declared.line.ClaimKind.{ClaimKind}
use Rattle.fz_stream.specs.declared.line.LineKind.{LineKind}
use Rattle.fz_stream.specs.declared.line.LineKind.TheVariants.{Blank, Comment, Marker, Claim, Item as ItemLine}
use Rattle.fz_stream.specs.declared.step.Step.{Step}
use Rattle.fz_stream.specs.declared.step.Step.TheVariants.{GoesOn, EndsBlock, Claims, Breaks}
use Rattle.fz_stream.specs.Parts.{Line, joined, kind_of, IsFiller, IsFillerKind, IsInner, IsInnerKind, AreBlockLines, lines_of, Frame, IsBlockText, HasDistinctNames, Covers}
use Rattle.fz_stream.specs.Step.{step_of, begun_of}
use Rattle.fz_stream.proofs.PartLemmas.{every_append}
use Rattle.fz_syntax.proofs.Parsed.{none_text}
use Rattle.fz_syntax.specs.Limits.{Limits}
use Rattle.fz_syntax.specs.Span.{Span}
use Rattle.fz_syntax.specs.Tree.{Printed}
use Rattle.fz_stream.specs.declared.error.StreamError.{StreamError}
use Rattle.fz_stream.specs.declared.error.StreamError.TheVariants.{Unfinished}
use Rattle.fz_stream.specs.Broken.{CannotFollow, BreaksAfter}
use Rattle.fz_stream.specs.Keeping.{BreaksBlock}
use Rattle.fz_stream.specs.Telling.{TellsOfText}
use Rattle.fz_stream.proofs.FaultLemmas.{tells_before_marker}

-- where the text of an open block begins, of which these are the lines so far, if there are any
abbrev pub opened : List Line → ℕ → Option ℕ
opened [] start = None
opened (line ∷ lines) start = Some start

pub none_open : (b : List Line) (start : ℕ) → None ≡ opened b start → b ≡ []
none_open [] start h = refl
none_open (x ∷ b) start h = absurd (let no : None ≡ Some start = h in cc)

pub some_open : (b : List Line) (start n : ℕ) → Some n ≡ opened b start → (b ≢ []) × (n ≡ start)
some_open [] start n h = absurd (let no : Some n ≡ None = h in cc)
some_open (x ∷ b) start n h = ((λ e. (let no : x ∷ b ≡ [] = e in cc)), (let same : n ≡ start = cc in same))

pub opens_more : (b : List Line) (line : Line) (start n : ℕ) → n ≡ start
    → Some n ≡ opened (b ++ line ∷ []) start
opens_more [] line start n e = ap Some e
opens_more (x ∷ b) line start n e = ap Some e

pub filled : (l : Line) (lines : List Line) → AreBlockLines (l ∷ lines)
    → 0 < length (joined (l ∷ lines))
unfolding kind_of
filled [] lines own = absurd (let no : Blank ≡ ItemLine = own.0 in cc)
filled (x ∷ l) lines own = omega arith

-- a block is open where it has lines
pub opened_at : (body : List Line) (n before : ℕ) → n ≡ length (joined body) → AreBlockLines body
    → begun_of n before ≡ opened body before
opened_at [] n before e own = ap (λ m. begun_of m before) e
opened_at (l ∷ body) n before e own =
    let some = filled l body own in
    ap (λ b. cond b None (Some before)) (ne_eqb n 0 (λ z. omega (arith, z, e, some)))

joins_body : (body : List Line) (line : Line) → body ≢ [] → AreBlockLines body → IsInner line
    → AreBlockLines (body ++ line ∷ [])
joins_body [] line some own inner = absurd (some refl)
joins_body (l ∷ body) line some own inner = (own.0, every_append IsInner body (line ∷ []) own.1 (inner, tt))

-- what the step of a line says of it and of the body before it, which begins at the offset
abbrev pub Does : Step → ℕ → List Line → Line → Type 0
Does (GoesOn None) start body line = (body ≡ []) × IsFiller line
Does (GoesOn (Some n)) start body line = AreBlockLines (body ++ line ∷ []) × (n ≡ start)
Does (EndsBlock n) start body line = (kind_of line ≡ Marker) × (n ≡ start)
Does (Claims kind) start body line = (kind_of line ≡ Claim kind) × (body ≡ [])
Does (Breaks n) start body line =
    ((kind : ClaimKind) × (kind_of line ≡ Claim kind)) × (body ≢ []) × (n ≡ start)

module _ (at start : ℕ) (body : List Line) (line : Line) (own : AreBlockLines body) (place : at ≡ start + length (joined body)) where
  first : body ≡ [] → at ≡ start
  first e = omega (arith, place, ap (λ b. length (joined b)) e)

  by_kind : (o : Option ℕ) (k : LineKind) → kind_of line ≡ k → o ≡ opened body start
      → Does (step_of o at k) start body line
  by_kind None ItemLine e b = let none = none_open body start b in (subst (λ b. AreBlockLines (b ++ line ∷ [])) (sym none) (e, tt), first none)
  by_kind None Marker e b = (e, first (none_open body start b))
  by_kind None (Claim c) e b = (e, none_open body start b)
  by_kind None Blank e b = (none_open body start b, subst IsFillerKind (sym e) tt)
  by_kind None Comment e b = (none_open body start b, subst IsFillerKind (sym e) tt)
  by_kind (Some n) Marker e b = (e, (some_open body start n b).1)
  by_kind (Some n) (Claim c) e b = let w = some_open body start n b in ((c, e), w.0, w.1)
  by_kind (Some n) _ e b = let w = some_open body start n b in (joins_body body line w.0 own (subst IsInnerKind (sym e) tt), w.1)

  pub does : (o : Option ℕ) → o ≡ opened body start → (s : Step) → step_of o at (kind_of line) ≡ s
      → Does s start body line
  does o b s e = subst (λ s. Does s start body line) e (by_kind o (kind_of line) refl b)

none_apart : HasDistinctNames []
none_apart i j d l m e = omega (arith, m)

-- a text that no items spell isn't that of no lines
some_lines : (limits : Limits) (b : List Line)
    → ((items : List Printed) → IsBlockText limits (joined b) items → ⊥) → b ≢ []
some_lines limits [] none e = none [] (none_text limits, none_apart)
some_lines limits (x ∷ b) none e = (let no : x ∷ b ≡ [] = e in cc)

module _ (limits : Limits) (lines : List Line) (frames : List Frame) (gap body : List Line) (c : Covers lines frames gap body) (line : Line) where
  -- the text before a marker is none of a block
  pub breaks_block : kind_of line ≡ Marker → (offset : ℕ) (text : List ℕ)
      → offset ≡ length (joined c.covered) + length (joined gap) → text ≡ joined body
      → ((items : List Printed) → IsBlockText limits text items → ⊥) → (fault : StreamError)
      → TellsOfText limits offset text fault → BreaksBlock limits lines frames line fault
  breaks_block closes offset text at is none fault told =
      let no_block : (items : List Printed) → IsBlockText limits (joined body) items → ⊥ = λ items t. none items (subst (λ x. IsBlockText limits x items) (sym is) t) in
      let start : ℕ = length (joined c.covered) + length (joined gap) in
      record {
        gap = gap;
        body = body;
        covers = c;
        begun = some_lines limits body no_block;
        cannot = subst (CannotFollow limits (joined body)) (sym closes) no_block;
        tells = tells_before_marker limits start (joined body) (Some (kind_of line)) fault (ap Some closes) (subst (λ m. TellsOfText limits m (joined body) fault) at (subst (λ t. TellsOfText limits offset t fault) is told));
      }

  -- a claim is inside an open block
  pub breaks_claim : (n start : ℕ) → start ≡ length (joined c.covered) + length (joined gap)
      → Does (Breaks n) start body line → (span : Span)
      → span.start ≡ n → span.end ≡ start + length (joined body)
      → BreaksBlock limits lines frames line (Unfinished span)
  breaks_claim n start at d span from upto = record {
    gap = gap;
    body = body;
    covers = c;
    begun = d.1;
    cannot = subst (CannotFollow limits (joined body)) (sym d.0.1) tt;
    tells = (d.0, from ∙ d.2 ∙ at, upto ∙ ap (λ n. n + length (joined body)) at);
  }

-- so the bytes of these lines and of more are broken
pub breaks_at : (limits : Limits) (Breaking : Limits → List ℕ → List Line → Type 0) (bytes : List ℕ) (lines : List Line)
    (frames : List Frame) (line : Line) (rest : List Line) (fault : StreamError)
    → lines_of bytes ≡ lines ++ (line ∷ rest) → (b : BreaksBlock limits lines frames line fault)
    → Breaking limits (joined b.body) (line ∷ rest) → BreaksAfter limits Breaking bytes frames fault
breaks_at limits Breaking bytes lines frames line rest fault whole b breaks = record {
  lines = lines;
  gap = b.gap;
  body = b.body;
  rest = line ∷ rest;
  whole = whole;
  covers = b.covers;
  begun = b.begun;
  breaks = breaks;
  tells = b.tells;
}

-- a block that a line breaks is the one that is open
pub breaks_open : (begun : Option ℕ) (before : ℕ) → IfSome begun (λ n. n ≡ before) → (at : ℕ)
    (k : LineKind) (start : ℕ) → step_of begun at k ≡ Breaks start → start ≡ before
breaks_open begun before own at Blank start e =
    absurd (let no : GoesOn begun ≡ Breaks start = e in cc)
breaks_open begun before own at Comment start e =
    absurd (let no : GoesOn begun ≡ Breaks start = e in cc)
breaks_open None before own at Marker start e =
    absurd (let no : EndsBlock at ≡ Breaks start = e in cc)
breaks_open (Some n) before own at Marker start e =
    absurd (let no : EndsBlock n ≡ Breaks start = e in cc)
breaks_open None before own at ItemLine start e =
    absurd (let no : GoesOn (Some at) ≡ Breaks start = e in cc)
breaks_open (Some n) before own at ItemLine start e =
    absurd (let no : GoesOn (Some n) ≡ Breaks start = e in cc)
breaks_open None before own at (Claim kind) start e =
    absurd (let no : Claims kind ≡ Breaks start = e in cc)
breaks_open (Some n) before own at (Claim kind) start e =
    let broken : Breaks n ≡ Breaks start = e in let same : n ≡ start = cc in sym same ∙ own

pub open_before : (line before : ℕ) → IfSome (begun_of line before) (λ n. n ≡ before)
open_before line before =
    elim (line == 0) as (λ b. IfSome (cond b None (Some before)) (λ n. n ≡ before)) [ true ↦ tt | false ↦ refl ]
