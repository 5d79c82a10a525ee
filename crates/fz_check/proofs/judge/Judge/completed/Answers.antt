use Rattle.std.proofs.Common.{◌≡◌, ℤ, Bool, true, false, Option, None, Some, IfOk, int_lt, refl, sym, ap, subst, ◌∙◌}
use Rattle.fz_search.specs.of_model.Meaning.{Aim, Model, Partial, IsPartial, objective}
use Rattle.fz_search.specs.of_model.Meaning.Aim.{Satisfy, Minimize, Maximize}
use Rattle.fz_filling.specs.of_stream.Parts.{SolutionBlock}
use Rattle.fz_filling.specs.Completed.{IsCompleted}
use Rattle.fz_filling.specs.Completed.IsCompleted.{Found, AsFilled, NotBetterThanFound}
use Rattle.fz_filling.specs.Verdict.{Fault, Verdict, not_better_if, objective_fails, verdict}
use Rattle.fz_filling.specs.Verdict.Fault.{NotBetter}
use Rattle.fz_filling.specs.Verdict.Verdict.{Satisfied, Undecided, Violated}
use Rattle.fz_filling.specs.of_stream.Found.{block_of}
use Rattle.fz_filling.proofs.Accepted.{satisfied_after}
use Rattle.fz_filling.specs.Judged.{JudgeState}
use Rattle.fz_filling.specs.View.{fault_view, reason_view, verdict_view}
use Rattle.fz_filling.specs.Working.{compared, not_shown_better}
use Rattle.fz_check.proofs.judge.Judge.completed.Goals as goal

by_test : (better : Bool) (n b : ℤ) (f : Fault) → not_better_if better n b ≡ Some f
    → (now : ℤ) × (before : ℤ) × (f ≡ NotBetter now before)
by_test true n b f e = cc
by_test false n b f e = (n, b, (let same : NotBetter n b ≡ f = cc in sym same))

-- an objective fails only by not being better
only_not_better : (a : Aim) (before now : Option ℤ) (f : Fault) → objective_fails a before now ≡ Some f
    → (n : ℤ) × (b : ℤ) × (f ≡ NotBetter n b)
only_not_better Satisfy before now f e = cc
only_not_better (Minimize t) None now f e = cc
only_not_better (Minimize t) (Some b) None f e = cc
only_not_better (Minimize t) (Some b) (Some n) f e = by_test (int_lt n b) n b f e
only_not_better (Maximize t) None now f e = cc
only_not_better (Maximize t) (Some b) None f e = cc
only_not_better (Maximize t) (Some b) (Some n) f e = by_test (int_lt b n) n b f e

-- a block that is satisfied under its filling, beside an objective that was looked for
satisfied_told : (m : Model) (block : SolutionBlock) (before found : Option ℤ) (F : Partial) (v w : Verdict)
    (kept : Option ℤ) → IsPartial m F → v ≡ verdict m F block before → v ≡ Satisfied
    → kept ≡ objective m F → w ≡ compared (objective_fails m.aim found kept)
    → IsCompleted m block found F v w kept
satisfied_told m block before found F v w kept partial is satisfied kept_is told =
    rw (told, kept_is, satisfied) (by_fault (objective_fails m.aim found (objective m F)) refl)
  where
    by_fault : (o : Option Fault) → objective_fails m.aim found (objective m F) ≡ o
        → IsCompleted m block found F Satisfied (compared o) (objective m F)
    by_fault None e = Found F tt partial (satisfied_after m F block before found (sym is ∙ satisfied) e)
    by_fault (Some f) e = (let (now, before', is) = only_not_better m.aim found (objective m F) f e in
        subst (λ g. IsCompleted m block found F Satisfied (not_shown_better g) (objective m F)) (sym is) (NotBetterThanFound (e ∙ ap Some is)))

pub returns-in-Satisfied-clause-told : goal.returns-in-Satisfied-clause-told
returns-in-Satisfied-clause-told c =
    let s = c.args.self.now in
    satisfied_told s.model (block_of c.args.block.now) s.before s.found c.args.filling.now (verdict_view c.args.under) (verdict_view c.compared.result) c.args.now c.requires.kinds c.requires.filled (ap verdict_view c.in-Satisfied.is) c.requires.objective
    (subst (λ (t : JudgeState). verdict_view c.compared.result ≡ compared (objective_fails t.model.aim t.found c.args.now)) c.self.view_is c.compared.ensures)

pub returns-in-Undecided-clause-told : goal.returns-in-Undecided-clause-told
returns-in-Undecided-clause-told c =
    let told : verdict_view c.args.under ≡ Undecided (reason_view c.in-Undecided.reason) = ap verdict_view c.in-Undecided.is in
    subst (λ w. IfOk c.undecided.result (λ r. IsCompleted c.args.self.now.model (block_of c.args.block.now) c.args.self.now.found c.args.filling.now w (verdict_view r.0) r.1)) (sym told) c.undecided.ensures.told

pub returns-in-Violated-clause-told : goal.returns-in-Violated-clause-told
returns-in-Violated-clause-told c =
    let told : verdict_view c.args.under ≡ Violated (fault_view c.in-Violated.field-0) = ap verdict_view c.in-Violated.is in
    rw c.requires.objective (AsFilled (λ e. (let no : Violated (fault_view c.in-Violated.field-0) ≡ Satisfied = sym told ∙ e in cc)))
