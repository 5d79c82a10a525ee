-- Texts of tokens joined end to end lex to the tokens, where none goes on in what follows it. For a
-- printer.
use Rattle.std.proofs.Common.{◌≡◌, ℕ, ◌+◌, ◌-◌, ◌<◌, ◌≤◌, List, [], ◌∷◌, ◌++◌, length, drop, get_or, map, true, refl, sym, ap, ◌∙◌, subst, arith}
use Rattle.std.proofs.lemmas.List.{length-drop, length-append, drop-drop, drop_at}
use Rattle.fz_tree.specs.Token.{is_blank, TokenValue, Spells}
use Rattle.fz_tree.specs.Lexing.{SpannedToken, CutBetween, nothing, blank, spelling, IsLongestSpelling}
use Rattle.fz_tree.specs.AnyLength.{LexesTo}
use Rattle.fz_tree.proofs.Laws.{EndsBefore, ended_is_longest}
use Rattle.fz_tree.proofs.Cuts.{at_place}

-- the bytes are blanks and texts of the tokens, none of which goes on in what follows it
pub data Joins : List ℕ → List TokenValue → Type 0 where
  done : Joins [] []
  gap : (b : ℕ) (rest : List ℕ) (T : List TokenValue) → is_blank b ≡ true → Joins rest T
      → Joins (b ∷ rest) T
  text : (t : TokenValue) (b rest bytes : List ℕ) (T : List TokenValue) → bytes ≡ b ++ rest
      → Spells t b → EndsBefore t rest → Joins rest T → Joins bytes (t ∷ T)

-- a cut to the end, into these tokens
pub record CutsTo (source : List ℕ) (place : ℕ) (T : List TokenValue) : Type 0 where
  pub spanned : List SpannedToken
  pub cut : CutBetween source place (length source) spanned
  pub is : map (λ t. t.token) spanned ≡ T

pub joins_cut : {bytes : List ℕ} {T : List TokenValue} (source : List ℕ) (place : ℕ) → Joins bytes T
    → drop place source ≡ bytes → place ≤ length source → CutsTo source place T
joins_cut source place done e h =
    let at_end : place ≡ length source = omega (arith, ap length e, length-drop place source) in
    let none_left : CutBetween source place place [] = nothing place in
    record { spanned = []; cut = subst (λ q. CutBetween source place q []) at_end none_left; is = refl }
joins_cut source place (gap b rest T w j) e h =
    let more : place < length source = omega (arith, ap length e, length-drop place source) in
    let byte : get_or source place 0 ≡ b = sym (at_place source place) ∙ ap (λ x. get_or x 0 0) e in
    let next : drop (place + 1) source ≡ rest = sym (drop-drop 1 place source) ∙ ap (drop 1) e in
    let c = joins_cut source (place + 1) j next (omega arith) in
    record { spanned = c.spanned; cut = blank place _ _ more (rw byte w) c.cut; is = c.is }
joins_cut source place (text t b rest bytes T s k f j) e h =
    let whole : drop place source ≡ b ++ rest = e ∙ s in
    let len : length source - place ≡ length b + length rest = sym (length-drop place source) ∙ (ap length whole ∙ length-append b rest) in
    let next : drop (place + length b) source ≡ rest = sym (drop-drop (length b) place source) ∙ (ap (drop (length b)) whole ∙ drop_at b rest (length b) refl) in
    let c = joins_cut source (place + length b) j next (omega arith) in
    let longest : IsLongestSpelling (drop place source) (length b) t = subst (λ x. IsLongestSpelling x (length b) t) (sym whole) (ended_is_longest t b rest k f) in
    let token : SpannedToken = record { token = t; start = place; end = place + length b } in
    record { spanned = token ∷ c.spanned; cut = spelling place (length b) _ token _ refl refl longest c.cut; is = ap (λ x. t ∷ x) c.is }

pub joined_lexes : (source : List ℕ) (T : List TokenValue) → Joins source T → LexesTo source T
joined_lexes source T j =
    let c = joins_cut source 0 j refl (omega arith) in
    (c.spanned, c.cut, c.is)
