-- Lines that are cut into frames, and one more line.
use Rattle.std.proofs.Common.{◌≡◌, ℕ, ◌+◌, List, [], ◌∷◌, ◌++◌, length, refl, sym, ap, ◌∙◌, subst, append_assoc, append-nil, length-append, arith}
use Rattle.std.specs.List.{AllByRecursion}
use Rattle.fz_stream.specs.Parts.{Line, joined, IsFiller, Frame, AreBlockLines, Closes, AreLinesOfFrame, AreLinesOf, Covers}

module _ {X : Type 0} (P : X → Type 0) where
  pub every_append : (xs ys : List X) → AllByRecursion P xs → AllByRecursion P ys
      → AllByRecursion P (xs ++ ys)
  every_append [] ys p q = q
  every_append (x ∷ xs) ys p q = (p.0, every_append xs ys p.1 q)

  pub every_left : (xs ys : List X) → AllByRecursion P (xs ++ ys) → AllByRecursion P xs
  every_left [] ys p = tt
  every_left (x ∷ xs) ys p = (p.0, every_left xs ys p.1)

  pub every_right : (xs ys : List X) → AllByRecursion P (xs ++ ys) → AllByRecursion P ys
  every_right [] ys p = p
  every_right (x ∷ xs) ys p = every_right xs ys p.1

pub joined-append : (xs ys : List Line) → joined (xs ++ ys) ≡ joined xs ++ joined ys
joined-append [] ys = refl
joined-append (x ∷ xs) ys = ap (λ l. x ++ l) (joined-append xs ys) ∙ sym (append_assoc x (joined xs) (joined ys))

pub joined-push : (xs : List Line) (x : Line) → joined (xs ++ x ∷ []) ≡ joined xs ++ x
joined-push xs x = joined-append xs (x ∷ []) ∙ ap (λ l. joined xs ++ l) (append-nil x)

pub one_more : (xs : List Line) (x : Line)
    → length (joined (xs ++ x ∷ [])) ≡ length (joined xs) + length x
one_more xs x = ap length (joined-push xs x) ∙ length-append (joined xs) x

pub two_parts : (xs ys : List Line)
    → length (joined (xs ++ ys)) ≡ length (joined xs) + length (joined ys)
two_parts xs ys = ap length (joined-append xs ys) ∙ length-append (joined xs) (joined ys)

-- one more frame
AreLinesOf-push : (start : ℕ) (covered own : List Line) (frames : List Frame) (frame : Frame)
    → AreLinesOf start covered frames → AreLinesOfFrame (start + length (joined covered)) own frame
    → AreLinesOf start (covered ++ own) (frames ++ frame ∷ [])
AreLinesOf-push start covered own [] frame h k =
    let at : start + length (joined covered) ≡ start = omega (arith, ap (λ l. length (joined l)) h) in
    (own, [], ap (λ l. l ++ own) h ∙ sym (append-nil own), subst (λ s. AreLinesOfFrame s own frame) at k, refl)
AreLinesOf-push start covered own (f ∷ frames) frame h k =
    let at : start + length (joined covered) ≡ (start + length (joined h.0)) + length (joined h.1) =
    omega (arith, ap (λ l. length (joined l)) h.2, two_parts h.0 h.1) in (
      h.0,
      h.1 ++ own,
      ap (λ l. l ++ own) h.2 ∙ append_assoc h.0 h.1 own,
      h.3,
      AreLinesOf-push (start + length (joined h.0)) h.1 own frames frame h.4 (subst (λ s. AreLinesOfFrame s own frame) at k),
    )

-- the lines of the last frame
pub last_frame : (start : ℕ) (lines : List Line) (front : List Frame) (frame : Frame)
    → AreLinesOf start lines (front ++ frame ∷ [])
    → (covered : List Line) × (own : List Line) × (lines ≡ covered ++ own) × AreLinesOf start covered front × AreLinesOfFrame (start + length (joined covered)) own frame
last_frame start lines [] frame h =
    let at : start ≡ start + length (joined []) = omega arith in
    ([], h.0, h.2 ∙ ap (λ l. h.0 ++ l) h.4 ∙ append-nil h.0, refl, subst (λ s. AreLinesOfFrame s h.0 frame) at h.3)
last_frame start lines (f ∷ front) frame h =
    let w = last_frame (start + length (joined h.0)) h.1 front frame h.4 in
    let at : (start + length (joined h.0)) + length (joined w.0) ≡ start + length (joined (h.0 ++ w.0)) = omega (arith, two_parts h.0 w.0) in
    (h.0 ++ w.0, w.1, h.2 ∙ ap (λ l. h.0 ++ l) w.2 ∙ sym (append_assoc h.0 w.0 w.1), (h.0, w.0, refl, h.3, w.3), subst (λ s. AreLinesOfFrame s w.1 frame) at w.4)

-- the next line goes to the gap, to the body, or ends a frame
module _ {lines : List Line} {frames : List Frame} {gap body : List Line} (c : Covers lines frames gap body) where
  pub size_of : length (joined lines) ≡ length (joined c.covered) + length (joined gap) + length (joined body)
  size_of = omega (arith, ap (λ l. length (joined l)) c.whole, two_parts c.covered (gap ++ body), two_parts gap body)

  module _ (line : Line) where
    abbrev pub into_gap : body ≡ [] → IsFiller line
        → Covers (lines ++ line ∷ []) frames (gap ++ line ∷ []) []
    into_gap e f = record {
      covered = c.covered;
      whole = ap (λ l. l ++ line ∷ []) (c.whole ∙ ap (λ b. c.covered ++ (gap ++ b)) e) ∙ simp append_assoc;
      of_frames = c.of_frames;
      fillers = every_append IsFiller gap (line ∷ []) c.fillers (f, tt);
      own = tt;
    }

    abbrev pub into_body : AreBlockLines (body ++ line ∷ [])
        → Covers (lines ++ line ∷ []) frames gap (body ++ line ∷ [])
    into_body own = record {
      covered = c.covered;
      whole = ap (λ l. l ++ line ∷ []) c.whole ∙ simp append_assoc;
      of_frames = c.of_frames;
      fillers = c.fillers;
      own = own;
    }

    pub into_frames : (frame : Frame)
        → Closes (length (joined c.covered) + length (joined gap)) body line frame
        → Covers (lines ++ line ∷ []) (frames ++ frame ∷ []) [] []
    into_frames frame closes = record {
      covered = c.covered ++ (gap ++ (body ++ line ∷ []));
      whole = ap (λ l. l ++ line ∷ []) c.whole ∙ simp append_assoc;
      of_frames = AreLinesOf-push 0 c.covered (gap ++ (body ++ line ∷ [])) frames frame c.of_frames
          (record { gap = gap; body = body; line = line; whole = refl; fillers = c.fillers; own = c.own; closes = subst (λ n. Closes n body line frame) (let z : length (joined c.covered) + length (joined gap) ≡ (0 + length (joined c.covered)) + length (joined gap) = omega arith in z) closes });
      fillers = tt;
      own = tt;
    }
