use Rattle.std.proofs.Common.{◌≡◌, ℤ, Option, None, Some, IfSome, refl, sym, ap, subst, ◌∙◌}
use Rattle.fz_search.specs.Found.{Asked, IsFoundFor, IsSought}
use Rattle.fz_search.specs.of_model.Meaning.{Assignment, Model, Partial, objective}
use Rattle.fz_search.specs.of_model.Shown.{point_name}
use Rattle.fz_filling.specs.of_stream.Parts.{SolutionBlock}
use Rattle.fz_filling.specs.Completed.{IsCompleted, LacksValuesAtMost}
use Rattle.fz_filling.specs.Completed.IsCompleted.{Found, AsFilled}
use Rattle.fz_filling.specs.Verdict.{Reason, Verdict}
use Rattle.fz_filling.specs.Verdict.Verdict.{Satisfied, Undecided, Violated}
use Rattle.fz_filling.specs.of_stream.Found.{block_of}
use Rattle.fz_filling.specs.Judged.{IsOfPoint, JudgeState}
use Rattle.fz_filling.specs.View.{fault_view, reason_view}
use Rattle.fz_filling.specs.Working.{IsFound}
use Rattle.fz_check.proofs.Refuting.{of_point, refuted_told}
use Rattle.fz_check.proofs.judge.Judge.undecided.Goals as goal

found_told : (m : Model) (block : SolutionBlock) (before : Option ℤ) (F : Partial) (v : Verdict)
    (kept : Option ℤ) (o : Option (Option ℤ)) → o ≡ Some kept → LacksValuesAtMost v
    → IfSome o (IsFound m block before)
    → IsCompleted m block before F v Satisfied kept
found_told m block before F v kept (Some k) is lacks (K, fits, satisfied, kept_is) =
    let same : k ≡ kept = cc in
    subst (λ n. IsCompleted m block before F v Satisfied n) (sym kept_is ∙ same) (Found K lacks fits satisfied)
found_told m block before F v kept None is lacks found = absurd cc

-- known-solutions that have the values
abbrev with_values : Model → Partial → Asked
with_values m F = record { model = m; filling = F; last = None }

abbrev HasNoneWith : Model → Partial → Type 0
HasNoneWith m F = (A : Assignment) → IsSought (with_values m F) A → ⊥

-- nothing is found, and the verdict stays
stays : (s : JudgeState) (block : SolutionBlock) (F : Partial) (r : Reason) (o : Option ℤ)
    → o ≡ objective s.model F → IsCompleted s.model block s.found F (Undecided r) (Undecided r) o
stays s block F r o is = rw is (AsFilled (λ (e : ◌≡◌ {A = Verdict} (Undecided r) Satisfied). cc))

pub returns-in_default : goal.returns-in_default
returns-in_default c = record { told = stays c.args.self.now (block_of c.args.block.now) c.args.filling.now (reason_view c.args.reason) c.args.now c.requires.objective; refuted = tt; same = refl }

pub returns-in-Some-clause-told : goal.returns-in-Some-clause-told
returns-in-Some-clause-told c =
    let told = ap (λ r. Undecided (reason_view r)) c.in-NoValue.is in
    found_told c.args.self.now.model (block_of c.args.block.now) c.args.self.now.found c.args.filling.now (Undecided (reason_view c.args.reason)) c.in-Some.found _ c.in-Some.is (subst LacksValuesAtMost (sym told) tt) (subst (λ (s : JudgeState). IfSome c.in_ok-found-in-Values.field-0 (IsFound s.model (block_of c.args.block.now) s.found)) c.self.view_is c.in_ok-found-in-Values.ensures.found)

pub returns-in-Values-clause-told : goal.returns-in-Values-clause-told
returns-in-Values-clause-told c = stays c.args.self.now (block_of c.args.block.now) c.args.filling.now (reason_view c.args.reason) c.args.now c.requires.objective

pub returns-in-Refuted : goal.returns-in-Refuted
returns-in-Refuted c =
    let told = ap (λ r. Undecided (reason_view r)) c.in-NoValue.is in
    let f = fault_view c.fault_named-fault.result in
    let k = c.in-Refuted.found.point in
    let (within, none) = subst (IsFoundFor (with_values c.self.inside.model.now c.args.filling.now)) c.in-Refuted.is c.in_ok-found.ensures.found in
    let there : IsOfPoint c.self.inside.model.now k (Violated f) = of_point c.self.inside.model.now k (point_name c.point.result) f within c.point.ensures.told c.fault_named-fault.ensures in
    let here : IsOfPoint c.args.self.now.model k (Violated f) = subst (λ (s : JudgeState). IsOfPoint s.model k (Violated f)) c.self.view_is there in
    let nobody : HasNoneWith c.args.self.now.model c.args.filling.now = subst (λ (s : JudgeState). HasNoneWith s.model c.args.filling.now) c.self.view_is none in
    record {
      told = subst (λ w. IsCompleted c.args.self.now.model (block_of c.args.block.now) c.args.self.now.found c.args.filling.now w (Violated f) c.args.now) (sym told)
          (refuted_told c.args.self.now.model (block_of c.args.block.now) c.args.self.now.found c.args.filling.now _ k (Violated f) c.args.now c.requires.filling here (λ A solution has. nobody A (solution, has, refl)) c.requires.objective);
      refuted = here;
      same = c.self.view_is;
    }

pub returns-clause-told : goal.returns-clause-told
returns-clause-told c = stays c.args.self.now (block_of c.args.block.now) c.args.filling.now (reason_view c.args.reason) c.args.now c.requires.objective
