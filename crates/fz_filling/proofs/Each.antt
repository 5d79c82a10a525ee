-- What holds of one block under its filling holds of each block of a report with such a verdict.
use Rattle.std.proofs.Common.{◌≡◌, ℕ, suc, zero, ℤ, List, Option, Some, None, refl, ap, subst, slice_get, ◌⊎◌, inl, inr}
use Rattle.fz_index.specs.of_model.Located.{LocatedTree}
use Rattle.fz_index.specs.of_model.Meaning.{Model, Partial, Assignment, objective, IsSolution}
use Rattle.fz_index.specs.of_model.States.{IsKnownSolution}
use Rattle.fz_index.specs.of_model.Names.{HasNoFault, model_of}
use Rattle.fz_stream.specs.Parts.{SolutionBlock}
use Rattle.fz_filling.specs.Solutions.{Extends, Improves}
use Rattle.fz_filling.specs.declared.completion.Completion.{Completion}
use Rattle.fz_filling.specs.Completed.{AreVerdicts}
use Rattle.fz_filling.specs.Verdict.{Verdict, Fault, verdict, AreJudged, IsFilled}
use Rattle.fz_filling.specs.Verdict.AreJudged.{NoneLeft, OneMore}
use Rattle.fz_filling.specs.Verdict.Verdict.{Satisfied, Violated}
use Rattle.fz_filling.specs.Verdict.Fault.{NotBetter}
use Rattle.fz_filling.proofs.Completing.{FilledVerdicts, filled_verdicts, told_solved}
use Rattle.fz_filling.proofs.Violated.{violated_has_none, not_better_has_none, is_not_better, never_first}

-- the block before the one at an index, and what was proposed for it, under which it has the
-- objective
record BlockBefore (m : Model) (P : SolutionBlock → Partial → Type 0) (blocks : List SolutionBlock) (i : ℕ) (kept : Option ℤ) : Type 0 where
  place : ℕ
  block : SolutionBlock
  follows : i ≡ suc place
  at : slice_get blocks place ≡ Some block
  proposed : Partial
  is_proposed : P block proposed
  kept_is : kept ≡ objective m proposed

-- how the block at an index of the list was judged
record JudgedAt (m : Model) (P : SolutionBlock → Partial → Type 0) (before : Option ℤ) (blocks : List SolutionBlock) (i : ℕ) (block : SolutionBlock) (v : Verdict) : Type 0 where
  kept : Option ℤ
  proposed : Partial
  is_proposed : P block proposed
  is : verdict m proposed block kept ≡ v
  kept_from : ((i ≡ zero) × (kept ≡ before)) ⊎ BlockBefore m P blocks i kept

judged_at : (m : Model) (P : SolutionBlock → Partial
    → Type 0) {before : Option ℤ} {blocks : List SolutionBlock} {vs : List Verdict}
    → AreJudged m P before blocks vs
    → (i : ℕ) (block : SolutionBlock) (v : Verdict) → slice_get blocks i ≡ Some block → slice_get vs i ≡ Some v → JudgedAt m P before blocks i block v
judged_at m P NoneLeft i block v at is = cc
judged_at m P (OneMore {before = before} {block = b} K proposed rest) zero block v at is =
    let same : b ≡ block = cc in
    let here : verdict m K b before ≡ v = cc in
    record { kept = before; proposed = K; is_proposed = subst (λ c. P c K) same proposed; is = subst (λ c. verdict m K c before ≡ v) same here; kept_from = inl (refl, refl) }
judged_at m P (OneMore {before = before} {block = b} K proposed rest) (suc i) block v at is =
    let j = judged_at m P rest i block v at is in
    record {
      kept = j.kept;
      proposed = j.proposed;
      is_proposed = j.is_proposed;
      is = j.is;
      kept_from = elim j.kept_from [
        | inl e ↦ inr (record { place = zero; block = b; follows = ap suc e.0; at = refl; proposed = K; is_proposed = proposed; kept_is = e.1 })
        | inr c ↦ inr (record { place = suc c.place; block = c.block; follows = ap suc c.follows; at = c.at; proposed = c.proposed; is_proposed = c.is_proposed; kept_is = c.kept_is })
      ];
    }

-- Block number i, counted from 0, that is violated by anything but its objective is extended by no
-- known-solution.
pub each_violated : (c : Completion) (m : Model) (blocks : List SolutionBlock) (vs : List Verdict) (i : ℕ)
    (block : SolutionBlock) (f : Fault) → AreVerdicts c m blocks vs → slice_get blocks i ≡ Some block
    → slice_get vs i ≡ Some (Violated f)
    → ((now earlier : ℤ) → f ≡ NotBetter now earlier → ⊥) → (A : Assignment) → IsKnownSolution m A → Extends m A block → ⊥
each_violated c m blocks vs i block f are at is other =
    let w : FilledVerdicts c m None blocks vs = filled_verdicts c m are in
    elim (w.violated i block f at is) [
      | inl here ↦
          let j : JudgedAt m (IsFilled c m) None blocks i block (Violated f) = judged_at m (IsFilled c m) w.judged i block (Violated f) at here in
          violated_has_none c m block j.proposed j.kept f j.is_proposed.filling j.is (λ h. let (now, earlier, e) = is_not_better f h in other now earlier e)
      | inr none ↦ none.1
    ]

-- Where it is violated by its objective, there is a block before it, and no two known-solutions
-- that extend the two improve.
pub each_not_better : (c : Completion) (m : Model) (blocks : List SolutionBlock) (vs : List Verdict) (i : ℕ)
    (block : SolutionBlock) (now before : ℤ) → AreVerdicts c m blocks vs → slice_get blocks i ≡ Some block
    → slice_get vs i ≡ Some (Violated (NotBetter now before))
    → (j : ℕ) × (earlier : SolutionBlock) × (i ≡ suc j) × (slice_get blocks j ≡ Some earlier)
    × ((A B : Assignment) → IsKnownSolution m A → Extends m A earlier → IsKnownSolution m B → Extends m B block → Improves m (Some A) B → ⊥)
each_not_better c m blocks vs i block now before are at is =
    let w : FilledVerdicts c m None blocks vs = filled_verdicts c m are in
    elim (w.violated i block (NotBetter now before) at is) [
      | inl here ↦
          let j : JudgedAt m (IsFilled c m) None blocks i block (Violated (NotBetter now before)) = judged_at m (IsFilled c m) w.judged i block (Violated (NotBetter now before)) at here in
          elim j.kept_from [
            | inl first ↦ absurd (never_first m j.proposed block (NotBetter now before) tt (subst (λ k. verdict m j.proposed block k ≡ Violated (NotBetter now before)) first.1 j.is))
            | inr b ↦ (
              b.place,
              b.block,
              b.follows,
              b.at,
              not_better_has_none c m b.block block b.proposed j.proposed (NotBetter now before) b.is_proposed.filling j.is_proposed.filling (subst (λ k. verdict m j.proposed block k ≡ Violated (NotBetter now before)) b.kept_is j.is),
            )
          ]
      | inr point ↦ absurd (point.0 now before refl)
    ]

-- Block number i that is satisfied has a solution that extends it.
pub each_satisfied : (c : Completion) (t : LocatedTree) (blocks : List SolutionBlock) (vs : List Verdict)
    (i : ℕ) (block : SolutionBlock) → HasNoFault t → AreVerdicts c (model_of t) blocks vs
    → slice_get blocks i ≡ Some block
    → slice_get vs i ≡ Some Satisfied → (A : Assignment) × Extends (model_of t) A block × IsSolution (model_of t) A
each_satisfied c t blocks vs i block sound are at is = told_solved c t sound are i block at is
