-- The steps of a filling as the code has them: the contract of `fill_with_steps` cites these.
use Rattle.std.specs.Prelude.{◌≡◌, ℕ, IsTrue, List, ◌++◌, map}
use Rattle.fz_index.specs.of_model.Meaning.{Model, Partial}
use Rattle.fz_filling.specs.declared.completion.Completion.{Completion}
use Rattle.fz_filling.specs.Filling.{AreInTurn, Run}
use Rattle.fz_filling.specs.declared.steps.Giver.{Giver}
use Rattle.fz_filling.specs.declared.steps.Steps.{Steps}

-- a step's variable and point
abbrev pub giver_view : Giver → ℕ × ℕ
giver_view g = (g.variable, g.point)

-- the steps lead from the one partial assignment to the other, in their order
abbrev pub AreGivers : Completion → Model → Partial → Partial → List Giver → Type 0
AreGivers c m K F gs = Run c m K F (map giver_view gs)

-- the steps are told behind those before, where steps are
abbrev pub Appends : List (ℕ × ℕ) → Steps → Steps → Type 0
Appends steps before after = (after.is_told ≡ before.is_told)
    × (IsTrue before.is_told
    → map giver_view after.told.items ≡ map giver_view before.told.items ++ steps)

-- further steps were taken, and are told so
abbrev pub AddsSteps : Completion → Model → Partial → Partial → Steps → Steps → Type 0
AddsSteps c m K L before after =
    (steps : List (ℕ × ℕ)) × Run c m K L steps × Appends steps before after

-- those of both fillings were taken, the second behind the first, and are told so
abbrev pub AddsInTurn : Model → Partial → Partial → Steps → Steps → Type 0
AddsInTurn m K G before after =
    (steps : List (ℕ × ℕ)) × AreInTurn m K G steps × Appends steps before after
