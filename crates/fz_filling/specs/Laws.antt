-- What verdicts and reports say about solutions (this project's profile). Each law is the contract
-- of a public function of this crate.
use Rattle.std.specs.Prelude.{◌≡◌, ◌↔◌, ℕ, suc, ◌≤◌, ℤ, List, Option, None, Some, length}
use Rattle.std.specs.List.{slice_get}
use Rattle.fz_index.specs.of_model.Located.{LocatedTree}
use Rattle.fz_index.specs.of_model.Names.{HasNoFault, model_of}
use Rattle.fz_index.specs.of_model.Meaning.{Model, Partial, Assignment, objective, IsPartial, IsSolution, whole}
use Rattle.fz_index.specs.of_model.Openings.{HasEach}
use Rattle.fz_index.specs.of_model.States.{IsKnownSolution}
use Rattle.fz_stream.specs.Parts.{SolutionBlock}
use Rattle.fz_stream.specs.of_syntax.View.{bare_items}
use Rattle.fz_stream.specs.of_syntax.declared.Printed.{Printed}
use Rattle.fz_filling.specs.BlockFaults.{AllFit, items_fault}
use Rattle.fz_filling.specs.Solutions.{Extends, Improves, HaveSolutions}
use Rattle.fz_filling.specs.Filling.{IsFilling}
use Rattle.fz_filling.specs.declared.completion.Completion.{Completion}
use Rattle.fz_filling.specs.declared.completion.Completion.TheVariants.{Off, On}
use Rattle.fz_filling.specs.Completed.{AreVerdicts}
use Rattle.fz_filling.specs.Verdict.{Verdict, Fault, verdict, AreJudged, IsProposed, IsFilled, answer_of}
use Rattle.fz_filling.specs.Verdict.Verdict.{Satisfied, Violated}
use Rattle.fz_filling.specs.Verdict.Fault.{NotBetter}
use Rattle.fz_filling.specs.Verdict.Answer.{Accepted}

-- Where a block is satisfied under a partial assignment, that partial assignment has a value for
-- each variable, extends the block and is a solution.
abbrev pub SatisfiedIsSolved : Type 0
SatisfiedIsSolved =
    (m : Model) (K : Partial) (block : SolutionBlock) (before : Option ℤ) → IsPartial m K
    → verdict m K block before ≡ Satisfied
    → (A : Assignment) × (whole A ≡ K) × Extends m A block × IsSolution m A

-- Where the blocks of a model are judged under some partial assignments, and the answer is that
-- they are accepted, the blocks have solutions that improve in turn; and the number in the answer
-- is the number of blocks, at least one.
abbrev pub AcceptedHaveSolutions : Type 0
AcceptedHaveSolutions =
    (t : LocatedTree) (blocks : List SolutionBlock) (verdicts : List Verdict) (n : ℕ) → HasNoFault t
    → AreJudged (model_of t) (λ b K. IsPartial (model_of t) K) None blocks verdicts
    → answer_of verdicts ≡ Accepted n → HaveSolutions t blocks × (length blocks ≡ n) × (1 ≤ n)

-- Where the blocks of a report on a model's tree are accepted, whether values are looked for or
-- not, they are judged under some partial assignments.
abbrev pub AcceptedAreJudged : Type 0
AcceptedAreJudged =
    (c : Completion) (t : LocatedTree) (blocks : List SolutionBlock) (verdicts : List Verdict)
    (n : ℕ) → HasNoFault t → AreVerdicts c (model_of t) blocks verdicts
    → answer_of verdicts ≡ Accepted n
    → AreJudged (model_of t) (λ b K. IsPartial (model_of t) K) None blocks verdicts

-- Where values are looked for, each block is violated that is violated where they aren't. The fault
-- may be another one, since more values are known.
abbrev pub CompletedKeepVerdicts : Type 0
CompletedKeepVerdicts =
    (m : Model) (blocks : List SolutionBlock) (verdicts : List Verdict)
    → AreVerdicts On m blocks verdicts
    → (filled : List Verdict) × AreVerdicts Off m blocks filled × (length filled ≡ length verdicts)
    × ((i : ℕ) (f : Fault) → slice_get filled i ≡ Some (Violated f)
    → (g : Fault) × (slice_get verdicts i ≡ Some (Violated g)))

-- Where a block is violated under its filling by anything but the objective, no known-solution
-- extends it.
abbrev pub ViolatedHaveNone : Type 0
ViolatedHaveNone =
    (c : Completion) (m : Model) (block : SolutionBlock) (F : Partial) (before : Option ℤ)
    (f : Fault) → IsFilling c m block F → verdict m F block before ≡ Violated f
    → ((now earlier : ℤ) → f ≡ NotBetter now earlier → ⊥) → (A : Assignment) → IsKnownSolution m A
    → Extends m A block → ⊥

-- Where a block is violated by its objective, no known-solution that extends it improves on one
-- that extends the block before.
abbrev pub NotBetterHaveNone : Type 0
NotBetterHaveNone =
    (c : Completion) (m : Model) (earlier block : SolutionBlock) (E F : Partial) (f : Fault)
    → IsFilling c m earlier E → IsFilling c m block F
    → verdict m F block (objective m E) ≡ Violated f
    → (A B : Assignment) → IsKnownSolution m A → Extends m A earlier → IsKnownSolution m B
    → Extends m B block → Improves m (Some A) B → ⊥

-- The same of each block of a report: block number i, counted from 0, that is violated by anything
-- but the objective is extended by no known-solution.
abbrev pub EachViolatedHasNone : Type 0
EachViolatedHasNone =
    (c : Completion) (m : Model) (blocks : List SolutionBlock) (verdicts : List Verdict) (i : ℕ)
    (block : SolutionBlock) (f : Fault) → AreVerdicts c m blocks verdicts
    → slice_get blocks i ≡ Some block
    → slice_get verdicts i ≡ Some (Violated f) → ((now earlier : ℤ) → f ≡ NotBetter now earlier → ⊥)
    → (A : Assignment) → IsKnownSolution m A → Extends m A block → ⊥

-- And where it is violated by its objective, there is a block before it, and no known-solution that
-- extends this one improves on one that extends the block before.
abbrev pub EachNotBetterHasNone : Type 0
EachNotBetterHasNone =
    (c : Completion) (m : Model) (blocks : List SolutionBlock) (verdicts : List Verdict) (i : ℕ)
    (block : SolutionBlock) (now before : ℤ) → AreVerdicts c m blocks verdicts
    → slice_get blocks i ≡ Some block
    → slice_get verdicts i ≡ Some (Violated (NotBetter now before))
    → (j : ℕ) × (earlier : SolutionBlock) × (i ≡ suc j) × (slice_get blocks j ≡ Some earlier)
    × ((A B : Assignment) → IsKnownSolution m A → Extends m A earlier → IsKnownSolution m B
    → Extends m B block → Improves m (Some A) B → ⊥)

-- Each block of a report on a model's tree that is satisfied, whatever the others are, has a
-- solution that extends it.
abbrev pub EachSatisfiedHasOne : Type 0
EachSatisfiedHasOne =
    (c : Completion) (t : LocatedTree) (blocks : List SolutionBlock) (verdicts : List Verdict)
    (i : ℕ) (block : SolutionBlock) → HasNoFault t → AreVerdicts c (model_of t) blocks verdicts
    → slice_get blocks i ≡ Some block
    → slice_get verdicts i ≡ Some Satisfied
    → (A : Assignment) × Extends (model_of t) A block × IsSolution (model_of t) A

-- The items of a block fit the model where none has a fault, and only there.
abbrev pub FitWithoutFault : Type 0
FitWithoutFault =
    (m : Model) (items : List Printed) → (items_fault m items ≡ None) ↔ AllFit m (bare_items items)

-- A block has at most one filling where values aren't looked for.
abbrev pub FillingIsOne : Type 0
FillingIsOne = (m : Model) (block : SolutionBlock) (F G : Partial) → IsFilling Off m block F
    → IsFilling Off m block G → F ≡ G

-- Each filled value follows from the printed ones: a known-solution that extends the block has
-- every value of the filling.
abbrev pub FillingFollows : Type 0
FillingFollows = (c : Completion) (m : Model) (block : SolutionBlock) (F : Partial) (A : Assignment)
    → IsFilling c m block F → IsKnownSolution m A → Extends m A block → HasEach F (whole A)

-- In a model of a tree without faults, the filling of a block without fault is a partial assignment
-- with every value of the block's start.
abbrev pub FillingIsProposed : Type 0
FillingIsProposed = (c : Completion) (t : LocatedTree) (block : SolutionBlock) (F : Partial)
    → HasNoFault t → IsFilled c (model_of t) block F → IsProposed (model_of t) block F
