-- What comes at an offset after blanks and comments, from what the code finds there.
use Rattle.std.proofs.Common.{◌≡◌, ◌≢◌, ℕ, ◌+◌, ◌<◌, ◌≤◌, List, [], ◌∷◌, ◌++◌, length, take, drop, get_or, slice_range, IsFalse, refl, sym, ap, ◌∙◌, subst, arith}
use Rattle.std.proofs.lemmas.List.{length-drop, append-nil}
use Rattle.std.specs.List.{AllByRecursion}
use Rattle.fz_tree.specs.Token.{is_blank}
use Rattle.fz_tree.specs.Ahead.{comma_at}
use Rattle.fz_tree.specs.Lexing.{SpannedToken, nothing, CutBetween, IsLongestSpelling, IsTokenWithinLimit}
use Rattle.fz_tree.specs.Spanned.{NothingBegins, token_value, IsLexicalFault, CutUpTo, AreWithinLimit}
use Rattle.fz_tree.specs.Found.{IsFrontOf, FaultFrom}
use Rattle.fz_tree.specs.declared.token.Mark.TheVariants.{Comma}
use Rattle.fz_tree.specs.declared.token.TokenKind.{TokenKind}
use Rattle.fz_tree.specs.declared.token.TokenKind.TheVariants as kinds
use Rattle.fz_tree.specs.declared.scanner.Front.TheVariants.{Found, OutsideLimit, Nothing}
use Rattle.fz_tree.specs.declared.error.SyntaxError.{SyntaxError}
use Rattle.fz_tree.specs.declared.error.SyntaxError.TheVariants.{TooLong, BadByte, TooLarge, Memory}
use Rattle.fz_tree.proofs.Laws.{found_is_longest, longest_is_positive, none_begins}
use Rattle.fz_tree.proofs.Fronts.{comma_front}
use Rattle.fz_tree.proofs.Cuts.{gap_then_token, cut_then, cut_forward, at_place}

module _ (source : List ℕ) (place start : ℕ) (in_range : start ≤ length source) (gap : CutBetween source place start []) where
  found_longest : (kind : TokenKind) (len : ℕ) → IsFrontOf (drop start source) (Found kind len)
      → IsLongestSpelling (drop start source) len (token_value kind (take len (drop start source)))
  found_longest kind len f = found_is_longest (drop start source) _ len f.0

  pub found_within : (kind : TokenKind) (len : ℕ)
      → IsFrontOf (drop start source) (Found kind len) → start + len ≤ length source
  found_within kind len f = let l = found_longest kind len f in let w = l.within in omega (arith, length-drop start source)

  pub found_moves : (kind : TokenKind) (len : ℕ)
      → IsFrontOf (drop start source) (Found kind len) → place < start + len
  found_moves kind len f =
      let l = longest_is_positive _ _ len (found_longest kind len f) in
      let g = cut_forward gap in
      omega arith

  slice_is : (len : ℕ) → slice_range source start (start + len) ≡ take len (drop start source)
  slice_is len = ap (λ n. take n (drop start source)) (omega arith)

  pub found_cut : (kind : TokenKind) (len : ℕ) (t : SpannedToken)
      → IsFrontOf (drop start source) (Found kind len) → t.start ≡ start → t.end ≡ start + len
      → t.token ≡ token_value kind (slice_range source start (start + len))
      → CutBetween source place (start + len) (t ∷ [])
  found_cut kind len t f s e v =
      let is : t.token ≡ token_value kind (take len (drop start source)) = v ∙ ap (token_value kind) (slice_is len) in
      gap_then_token source place start len t gap s e (subst (λ u. IsLongestSpelling (drop start source) len u) (sym is) (found_longest kind len f))

  pub found_limit : (kind : TokenKind) (len : ℕ) → IsFrontOf (drop start source)
      (Found kind len) → IsTokenWithinLimit
      (token_value kind (slice_range source start (start + len)))
  found_limit kind len f =
      subst (λ text. IsTokenWithinLimit (token_value kind text)) (sym (slice_is len)) f.1

  pub outside_within : (len : ℕ) → IsFrontOf (drop start source) (OutsideLimit len)
      → start + len ≤ length source
  outside_within len f =
      let l = found_is_longest (drop start source) _ len f.1 in
      let w = l.within in
      omega (arith, length-drop start source)

  pub outside_fault : (len : ℕ) → IsFrontOf (drop start source) (OutsideLimit len)
      → FaultFrom source place (TooLarge (record { start = start; end = start + len }))
  outside_fault len f = (len, f.0, gap, found_is_longest (drop start source) _ len f.1, f.2, refl)

  pub nothing_fault : IsFrontOf (drop start source) Nothing → start < length source
      → IsFalse (is_blank (get_or source start 0)) → get_or source start 0 ≢ 37
      → FaultFrom source place (BadByte (record { start = start; end = start + 1 }))
  nothing_fault f l b k =
      let begins : NothingBegins (drop start source) = record {
        a_byte = omega (arith, length-drop start source);
        no_blank = rw at_place b;
        no_comment = λ h. k (sym (at_place source start) ∙ h);
        no_spelling = none_begins (drop start source) f;
      } in
      (gap, begins, refl)

-- a comma right at an offset is the token there
pub comma_cut : (source : List ℕ) (place : ℕ) → place < length source → get_or source place 0 ≡ 44
    → CutBetween source place (place + 1) (comma_at place ∷ [])
comma_cut source place h b =
    let mark = comma_front (drop place source) (at_place source place ∙ b) in
    let front : IsFrontOf (drop place source) (Found (kinds.Mark Comma) 1) = (mark, tt) in
    found_cut source place place (omega arith) (nothing place) (kinds.Mark Comma) 1 (comma_at place) front refl refl refl

-- a fault behind tokens that are cut off already is a fault of the source
pub fault_after : (source : List ℕ) (place : ℕ) (before : List SpannedToken)
    → CutUpTo source place before → AreWithinLimit before → (e : SyntaxError)
    → FaultFrom source place e → IsLexicalFault source e
fault_after source place before c w (BadByte span) f = (before ++ [], cut_then c f.0, rw append-nil w, f.1, f.2)
fault_after source place before c w (TooLarge span) f = (before ++ [], f.0, f.1, cut_then c f.2, rw append-nil w, f.3, f.4, f.5)
fault_after source place before c w _ f = absurd f

-- no fault is one of memory, or of a text that is too long
pub fault_is_not : (source : List ℕ) (place : ℕ) (e : SyntaxError) → FaultFrom source place e
    → (e ≢ Memory) × (e ≢ TooLong)
fault_is_not source place (BadByte span) f = (λ m. cc m, λ m. cc m)
fault_is_not source place (TooLarge span) f = (λ m. cc m, λ m. cc m)
fault_is_not source place _ f = absurd f

pub all_push : {X : Type 0} (P : X → Type 0) (xs : List X) (x : X) → AllByRecursion P xs → P x
    → AllByRecursion P (xs ++ x ∷ [])
all_push P [] x h p = (p, tt)
all_push P (y ∷ ys) x h p = (h.0, all_push P ys x h.1 p)

-- what follows from the front that was found
pub ruleset of_found = (found_within, found_cut, found_limit, found_moves)
