-- A bound on the objectives that a block leaves open (this project's profile).
use Rattle.std.specs.Prelude.{◌≡◌, ℤ, true, Some}
use Rattle.fz_search.specs.Claims.{beats}
use Rattle.fz_search.specs.of_model.Meaning.{Assignment, Model, objective, whole}
use Rattle.fz_search.specs.of_model.States.{IsKnownSolution}
use Rattle.fz_filling.specs.Solutions.{Extends}
use Rattle.fz_filling.specs.of_stream.Parts.{SolutionBlock}

-- no known-solution that extends the block has an objective better than this
abbrev pub IsBound : Model → SolutionBlock → ℤ → Type 0
IsBound m block b = (A : Assignment) → IsKnownSolution m A → Extends m A block
    → beats m.aim (Some b) (objective m (whole A)) ≡ true → ⊥
