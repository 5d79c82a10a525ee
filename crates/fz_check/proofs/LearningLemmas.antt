-- What is known between two parts of a known stream.
use Rattle.std.proofs.Common.{◌≡◌, ℕ, ℤ, false, true, List, [], ◌∷◌, ◌++◌, Option, None, inl, refl, sym, ap, ◌∙◌, subst, subst₂}
use Rattle.std.specs.Io.KnownBytes.{IsAtEnd}
use Rattle.fz_search.specs.of_model.Meaning.{Aim, Model}
use Rattle.fz_filling.specs.of_stream.Parts.{SolutionBlock, StreamPart, Frame}
use Rattle.fz_filling.specs.of_syntax.Limits.{Limits}
use Rattle.fz_filling.specs.declared.completion.Completion.{Completion}
use Rattle.fz_filling.specs.Judged.{JudgeState, IsJudged}
use Rattle.fz_filling.specs.Verdict.{Verdict}
use Rattle.fz_filling.specs.Verdict.Verdict.{Satisfied}
use Rattle.fz_check.specs.declared.claims.Source.{Source}
use Rattle.fz_check.specs.declared.claims.Known.{Known}
use Rattle.fz_check.specs.Claims.{HasSolutionWith, Knows, known_with}
use Rattle.fz_check.specs.Reading.{PiecesState, ReaderState, HasRead, HasNext, StandsAt}
use Rattle.fz_check.proofs.ClaimLemmas.{has_solution, knows_more, outcome_of}
use Rattle.fz_check.proofs.ReaderLemmas.{read_more}

-- Parts of the bytes that were read have ended, and what is known is still so.
pub record Listening (limits : Limits) (s : ReaderState) (left : Option (List ℕ)) (m : Model) (j : JudgeState) (old now : Known) : Type 0 where
  pub given : List ℕ
  pub parts : List StreamPart
  pub stands : StandsAt limits s left given parts
  pub same_model : j.model ≡ m
  pub knows : Knows m old → Knows m now

pub listening_first : {limits : Limits} → (s : ReaderState) (left : Option (List ℕ)) (m : Model) (c : Completion)
    (j : JudgeState) (reads : ℕ) (k : Known) → HasRead limits s [] []
    → s.pieces ≡ record { pending = []; reads = reads; at_end = false }
    → j ≡ record { model = m; completion = c; before = None; found = None; refuted = None }
    → Listening limits s left m j k k
listening_first s left m c j reads k read pieces is = record {
  given = [];
  parts = [];
  stands = inl (read, λ e. absurd (let no : false ≡ true = sym (ap (λ (p : PiecesState). p.at_end) pieces) ∙ e in cc));
  same_model = ap (λ (i : JudgeState). i.model) is;
  knows = λ h. h;
}

module _ {limits : Limits} (s : ReaderState) (left : Option (List ℕ)) (m : Model) (j : JudgeState) (old now : Known) (l : Listening limits s left m j old now) where
  pub knows_next : (now' : Known) → (Knows j.model now → Knows j.model now') → Knows m old
      → Knows m now'
  knows_next now' more h = subst (λ n. Knows n now') l.same_model (more (subst (λ n. Knows n now) (sym l.same_model) (l.knows h)))

  pub listening_next : (next : ReaderState) (j' : JudgeState) (now' : Known)
      → ((left : Option (List ℕ)) (given : List ℕ) (parts : List StreamPart) → StandsAt limits s left given parts → (frame : Frame) × HasNext limits next left given parts frame)
      → ((left : Option (List ℕ)) (given : List ℕ) (before : List StreamPart) (frame : Frame) → HasNext limits next left given before frame → (part : StreamPart) × StandsAt limits next left given (before ++ part ∷ []))
      → j'.model ≡ j.model → (Knows j.model now → Knows j.model now')
      → Listening limits next left m j' old now'
  listening_next next j' now' more read same knows =
      let f = more left l.given l.parts l.stands in
      let p = read left l.given l.parts f.0 f.1 in
      record {
        given = l.given;
        parts = l.parts ++ p.0 ∷ [];
        stands = p.1;
        same_model = same ∙ l.same_model;
        knows = knows_next now' knows;
      }

  pub listening_read : (mid next : ReaderState) (left' : Option (List ℕ))
      → ((left : Option (List ℕ)) (given : List ℕ) (parts : List StreamPart) → StandsAt limits s left given parts → (mid.pieces.pending ≡ []) × HasRead limits mid given parts)
      → next.splitter ≡ mid.splitter
      → (next.pieces.at_end ≡ true → (next.pieces.pending ≡ []) × IsAtEnd left')
      → Listening limits next left' m j old now
  listening_read mid next left' bytes same end =
      let b = bytes left l.given l.parts l.stands in
      record {
        given = l.given ++ next.pieces.pending;
        parts = l.parts;
        stands = inl (read_more mid next l.given l.parts b.0 same b.1, λ e. (end e).1);
        same_model = l.same_model;
        knows = l.knows;
      }

-- a satisfied block is known
pub learned : (m : Model) (j j' : JudgeState) (block : SolutionBlock) (v : Verdict) (old new : Known)
    (aim : Aim) (o : Option ℤ) (s : Source) → j.model ≡ m → IsJudged j j' block v → v ≡ Satisfied
    → aim ≡ m.aim → o ≡ j'.found → new ≡ known_with aim old o s → Knows m old → Knows m new
learned m j j' block v old new aim o s same judged satisfied aims is known h =
    let solved : HasSolutionWith m o = subst₂ (λ n k. HasSolutionWith n k) same (sym is) (has_solution j.model block j'.found ((outcome_of j j' block v None judged tt (λ _. refl)).solved satisfied)) in
    subst (Knows m) (sym (known ∙ ap (λ a. known_with a old o s) aims)) (knows_more m old o s h solved)
