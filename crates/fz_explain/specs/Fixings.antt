-- What a name stands for that is no variable (this project's profile).
use Rattle.std.specs.Prelude.{ℕ, Bool, true, false, List, [], ◌∷◌, Option, Some, None, option_map}
use Rattle.std.specs.Option.{option_and_then}
use Rattle.fz_store.specs.of_meaning.of_base.declared.value.Value.{Value}
use Rattle.fz_filling.specs.of_model.Meaning.{Model, Place, find_name}
use Rattle.fz_filling.specs.of_model.declared.Term.{Term}
use Rattle.fz_filling.specs.of_model.declared.Term.TheVariants.{Fixed, Var}
use Rattle.fz_explain.specs.declared.fixed.Fixing.{Fixing}

abbrev pub fixed_value : Term → Option Value
fixed_value (Fixed v) = Some v
fixed_value (Var n) = None

-- the values of all of these, where none is a variable
abbrev pub fixed_values : List Term → Option (List Value)
fixed_values [] = Some []
fixed_values (t ∷ ts) =
    option_and_then (λ v. option_map (λ vs. v ∷ vs) (fixed_values ts)) (fixed_value t)

-- whether it is an array, and the values of its elements, or its one value
abbrev pub fixing_at : Place → Option (Bool × List Value)
fixing_at (Place.Scalar k t) = option_map (λ vs. (false, vs)) (fixed_values (t ∷ []))
fixing_at (Place.Array x k ts) = option_map (λ vs. (true, vs)) (fixed_values ts)

-- the same of a name in the model; none where it stands for nothing, or a variable is in it
abbrev pub fixing : Model → List ℕ → Option (Bool × List Value)
fixing m x = option_and_then fixing_at (find_name m x)

abbrev pub fixing_view : Fixing → Bool × List Value
fixing_view f = (f.is_array, f.values.items)
