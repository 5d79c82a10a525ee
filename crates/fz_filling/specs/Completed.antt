-- The verdicts of a report, where values that a solver left out are looked for, and where they
-- aren't (this project's profile).
use Rattle.std.specs.Prelude.{◌≡◌, ℕ, ℤ, slice_get, List, [], ◌∷◌, Option, Some, None, ⊤}
use Rattle.fz_index.specs.of_model.Meaning.{Assignment, Model, Partial, Point, objective, points, IsPartial}
use Rattle.fz_index.specs.of_model.States.{IsKnownSolution, shown_point}
use Rattle.fz_filling.specs.declared.completion.Completion.{Completion}
use Rattle.fz_filling.specs.declared.completion.Completion.TheVariants.{Off, On}
use Rattle.fz_stream.specs.Parts.{SolutionBlock}
use Rattle.fz_filling.specs.Solutions.{Extends}
use Rattle.fz_filling.specs.Verdict.{Verdict, verdict, fault_named, objective_fails, IsFilled}
use Rattle.fz_filling.specs.Verdict.Fault.{NotBetter}
use Rattle.fz_filling.specs.Verdict.Reason.{NoValueFor, NotShownBetter}
use Rattle.fz_filling.specs.Verdict.Verdict.{Satisfied, Violated, Undecided}

-- the verdict is one for which values may be looked for: the block is satisfied under its filling,
-- or undecided because a variable has no value
abbrev pub LacksValuesAtMost : Verdict → Type 0
LacksValuesAtMost Satisfied = ⊤
LacksValuesAtMost (Undecided (NoValueFor x)) = ⊤
LacksValuesAtMost _ = ⊥

-- The verdict that is reported of a block with a filling and a verdict under it, where values are
-- looked for, and the objective that the next block is compared with. `before` is the objective
-- that this block is compared with.
pub data IsCompleted (m : Model) (block : SolutionBlock) (before : Option ℤ) (F : Partial) : Verdict
    → Verdict → Option ℤ → Type 0 where
  -- under some values the block is satisfied, and its objective is better than `before`
  Found : {v : Verdict} (K : Partial) → LacksValuesAtMost v → IsPartial m K
      → verdict m K block before ≡ Satisfied
      → IsCompleted m block before F v Satisfied (objective m K)
  -- a value is missing, and no known-solution extends the block; which point is told is left free
  Refuted : {name : List ℕ} (k : ℕ) (p : Point) → slice_get (points m) k ≡ Some p
      → ((A : Assignment) → IsKnownSolution m A → Extends m A block → ⊥)
      → IsCompleted m block before F (Undecided (NoValueFor name))
      (Violated (fault_named (shown_point p))) (objective m F)
  -- the verdict under the filling is reported, where that isn't satisfied
  AsFilled : {v : Verdict} → (v ≡ Satisfied → ⊥) → IsCompleted m block before F v v (objective m F)
  -- the block is satisfied under its filling, but its objective isn't better than `before`; since
  -- the values of the block before may have been looked for, that is no fault of the block
  NotBetterThanFound : {now found : ℤ}
      → objective_fails m.aim before (objective m F) ≡ Some (NotBetter now found)
      → IsCompleted m block before F Satisfied (Undecided (NotShownBetter now found))
      (objective m F)

-- the verdict that is reported of a block with a filling and a verdict under it: that same verdict,
-- where no values are looked for
abbrev pub IsToldBy : Completion → Model → SolutionBlock → Option ℤ → Partial → Verdict → Verdict
    → Option ℤ → Type 0
IsToldBy Off m block before F w v kept = v ≡ w
IsToldBy On m block before F w v kept = IsCompleted m block before F w v kept

-- The verdicts of the blocks in order. The verdict of each under its filling compares its objective
-- with that of the block before under its own, the first with the objective given first; the
-- verdict reported of each compares it with the objective that the block before left, the first
-- with the one given second.
pub data AreTold (c : Completion) (m : Model) : Option ℤ → Option ℤ → List SolutionBlock
    → List Verdict → Type 0 where
  NoneLeft : {filled found : Option ℤ} → AreTold c m filled found [] []
  OneMore : {filled found kept : Option ℤ} {block : SolutionBlock} {blocks : List SolutionBlock}
      {v : Verdict} {vs : List Verdict} (F : Partial) → IsFilled c m block F
      → IsToldBy c m block found F (verdict m F block filled) v kept
      → AreTold c m (objective m F) kept blocks vs
      → AreTold c m filled found (block ∷ blocks) (v ∷ vs)

-- the verdicts of a report
abbrev pub AreVerdicts : Completion → Model → List SolutionBlock → List Verdict → Type 0
AreVerdicts c m blocks vs = AreTold c m None None blocks vs
