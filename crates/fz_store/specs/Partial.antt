-- The partial assignment without a value, and its values by their kinds (this project's profile).
use Rattle.std.specs.Prelude.{◌≡◌, ℕ, suc, ℤ, pos, Bool, false, List, [], ◌∷◌, map, Option, None, Some, is_some, slice_set}
use Rattle.fz_meaning.specs.of_base.declared.value.Value.{Value}
use Rattle.fz_meaning.specs.of_base.declared.value.Value.TheVariants.{Int, Bool as Truth}
use Rattle.fz_meaning.specs.Meaning.{Model, Partial, variables_of}

-- no variable of the model has a value
abbrev pub nothing_for : Model → Partial
nothing_for m = map (λ x. None) (variables_of m)

-- the same, but this variable has no value
abbrev pub without : Partial → ℕ → Partial
without K n = slice_set K n None

-- ---- a value as it is read, also where there is none of the kind

abbrev pub number_in : Option Value → ℤ
number_in (Some (Int n)) = n
number_in _ = pos 0

abbrev pub truth_in : Option Value → Bool
truth_in (Some (Truth b)) = b
truth_in _ = false

-- the narrow tables have each value's number, its Boolean, and whether there is one
pub record IsTabled (K : List (Option Value)) (ns : List ℤ) (bs gs : List Bool) : Type 0 where
  pub numbers : ns ≡ map number_in K
  pub truths : bs ≡ map truth_in K
  pub given : gs ≡ map is_some K

-- how many variables have no value
abbrev pub unset_count : List (Option Value) → ℕ
unset_count [] = 0
unset_count (None ∷ K) = suc (unset_count K)
unset_count (Some v ∷ K) = unset_count K
