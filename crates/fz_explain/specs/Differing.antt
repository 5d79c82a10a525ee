-- The element of a printed array whose value isn't the printed one (this project's profile).
use Rattle.std.specs.Prelude.{ℕ, suc, Bool, false, cond, List, ◌∷◌, Option, None, Some}
use Rattle.std.specs.Option.{option_map_or}
use Rattle.fz_store.specs.of_meaning.of_base.declared.value.Value.{Value}
use Rattle.fz_filling.specs.of_model.Meaning.{Partial, value}
use Rattle.fz_filling.specs.of_model.States.{same_value}
use Rattle.fz_filling.specs.of_model.declared.Term.{Term}

-- it has a value under the filling, and that is the printed one
abbrev pub has_value : Partial → Term → Value → Bool
has_value F t printed = option_map_or (λ v. same_value v printed) (value F t) false

-- the place of the first of these that hasn't the value beside it, where they begin at a place
abbrev pub differing_from : Partial → ℕ → List Term → List Value → Option ℕ
differing_from F k (t ∷ ts) (v ∷ vs) =
    cond (has_value F t v) (differing_from F (suc k) ts vs) (Some k)
differing_from F k ts vs = None

-- the same from 0 on
abbrev pub first_differing : Partial → List Term → List Value → Option ℕ
first_differing F ts vs = differing_from F 0 ts vs
