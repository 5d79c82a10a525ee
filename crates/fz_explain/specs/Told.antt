-- The point that a verdict is about: one that fails, or one that is undecided, which neither holds
-- nor fails (this project's profile).
use Rattle.std.specs.Prelude.{◌≡◌, ℕ, suc, Bool, true, false, cond, List, [], ◌∷◌}
use Rattle.fz_filling.specs.of_model.declared.State.{State}
use Rattle.fz_filling.specs.of_model.declared.State.TheVariants.{Holds, Fails, NoValue, Unknown, TooLarge}
use Rattle.fz_filling.specs.of_model.Meaning.{Partial, Point}
use Rattle.fz_filling.specs.of_model.States.{state}
use Rattle.fz_explain.specs.declared.failing.Sought.{Sought}
use Rattle.fz_explain.specs.declared.failing.Sought.TheVariants.{Failing, Undecided}

abbrev pub is_failing : Sought → Bool
is_failing Failing = true
is_failing Undecided = false

abbrev pub is_undecided : Sought → Bool
is_undecided Failing = false
is_undecided Undecided = true

abbrev pub is_sought : Sought → State → Bool
is_sought s Holds = false
is_sought s Fails = is_failing s
is_sought s NoValue = is_undecided s
is_sought s Unknown = is_undecided s
is_sought s TooLarge = is_undecided s

-- the point's state is one that is sought
abbrev pub IsSought : Partial → Sought → Point → Type 0
IsSought F s p = is_sought s (state F p) ≡ true

-- the numbers of the points that fail, in their order, where they are counted from a number on
abbrev pub failing_from : Partial → ℕ → List Point → List ℕ
failing_from F k [] = []
failing_from F k (p ∷ ps) =
    cond (is_sought Failing (state F p)) (k ∷ failing_from F (suc k) ps) (failing_from F (suc k) ps)

abbrev pub failing_in : Partial → List Point → List ℕ
failing_in F ps = failing_from F 0 ps
