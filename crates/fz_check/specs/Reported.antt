-- What holds of a report (this project's profile).
use Rattle.std.specs.Prelude.{◌≡◌, ℕ, suc, ℤ, List, Some}
use Rattle.std.specs.List.{slice_get}
use Rattle.fz_filling.specs.of_syntax.Places.{standard_limits}
use Rattle.fz_filling.specs.of_syntax.Limits.{Limits}
use Rattle.fz_search.specs.of_model.Meaning.{Model, Assignment, IsSolution}
use Rattle.fz_search.specs.of_model.States.{IsKnownSolution}
use Rattle.fz_search.specs.of_model.Texts.{IsLoadedFromWithin}
use Rattle.fz_filling.specs.of_stream.Parts.{SolutionBlock}
use Rattle.fz_filling.specs.Solutions.{Extends, Improves}
use Rattle.fz_filling.specs.Verdict.{Verdict, Fault}
use Rattle.fz_filling.specs.Verdict.Verdict.{Satisfied, Violated}
use Rattle.fz_filling.specs.Verdict.Fault.{NotBetter}
use Rattle.fz_check.specs.Headline.{HasSolutionsWithin}

-- Within the limits the model's bytes are a text of a tree without faults, and this holds of its
-- model.
pub record HoldsOfModelWithin (limits : Limits) (model : List ℕ)
    (Holds : Model → Type 0) : Type 0 where
  pub m : Model
  pub loaded : IsLoadedFromWithin limits model m
  pub holds : Holds m

abbrev pub HoldsOfModel : List ℕ → (Model → Type 0) → Type 0
HoldsOfModel = HoldsOfModelWithin standard_limits

-- ---- what the verdicts of a report say of solutions

-- an assignment that is a solution extends the block
abbrev pub HasOne : Model → SolutionBlock → Type 0
HasOne m block = (A : Assignment) × Extends m A block × IsSolution m A

-- no assignment that is a known-solution extends the block
abbrev pub HasNone : Model → SolutionBlock → Type 0
HasNone m block = (A : Assignment) → IsKnownSolution m A → Extends m A block → ⊥

-- no two known-solutions that extend the two blocks improve
abbrev pub NoneImproves : Model → SolutionBlock → SolutionBlock → Type 0
NoneImproves m earlier block = (A B : Assignment) → IsKnownSolution m A → Extends m A earlier
    → IsKnownSolution m B → Extends m B block → Improves m (Some A) B → ⊥

abbrev pub IsObjective : Fault → Type 0
IsObjective f = (now before : ℤ) × (f ≡ NotBetter now before)

-- Block number i, counted from 0, that is satisfied has a solution that extends it, whatever the
-- other blocks are. One that is violated by anything but its objective has no known-solution that
-- extends it; and where it is violated by its objective, there is a block before it, and none that
-- extends this one improves on one that extends that one.
pub record AreBorneOut (m : Model) (blocks : List SolutionBlock)
    (verdicts : List Verdict) : Type 0 where
  pub satisfied : (i : ℕ) (block : SolutionBlock) → slice_get blocks i ≡ Some block
      → slice_get verdicts i ≡ Some Satisfied → HasOne m block
  pub violated : (i : ℕ) (block : SolutionBlock) (f : Fault) → slice_get blocks i ≡ Some block
      → slice_get verdicts i ≡ Some (Violated f) → (IsObjective f → ⊥) → HasNone m block
  pub not_better : (i : ℕ) (block : SolutionBlock) (f : Fault) → slice_get blocks i ≡ Some block
      → slice_get verdicts i ≡ Some (Violated f) → IsObjective f
      → (j : ℕ) × (earlier : SolutionBlock) × (i ≡ suc j) × (slice_get blocks j ≡ Some earlier)
      × NoneImproves m earlier block

-- the stream has solutions, at the standard limits
abbrev pub HasSolutions : List ℕ → List ℕ → ℕ → Type 0
HasSolutions = HasSolutionsWithin standard_limits
