-- Which arguments of a constraint `defines_var` may fill (this project's profile). Forced steps
-- read this; whether a row holds doesn't depend on it.
use Prim.Native.String.{String}
use Rattle.std.specs.Prelude.{ℕ, ◌-◌, List, [], ◌∷◌, length, codes, bytes_eq, find, get_or}
use Rattle.std.specs.Option.{option_map_or}
use Rattle.fz_meaning.specs.Builtins.{Row}
use Rattle.fz_meaning.specs.declared.known.Form.{Form}
use Rattle.fz_meaning.specs.declared.known.Form.TheVariants.{Base, Reified, Implied}

pub data Result : Type 0 where
  -- none
  NoResult : Result
  -- one whose index is one of these, counted from 0
  Places : List ℕ → Result
  -- one element of the second array that has the coefficient 1 or -1
  UnitTerm : Result

abbrev pub a : Result
a = Places (0 ∷ [])

abbrev pub b : Result
b = Places (1 ∷ [])

abbrev pub c : Result
c = Places (2 ∷ [])

abbrev pub d : Result
d = Places (3 ∷ [])

abbrev pub a_or_b : Result
a_or_b = Places (0 ∷ 1 ∷ [])

-- the rows that have a result, each by its first name
abbrev pub results : List (String × Result)
results =
    ("int_eq", a_or_b) ∷ ("int_lin_eq", UnitTerm) ∷ ("int_plus", c) ∷ ("int_minus", c) ∷
    ("int_times", c) ∷ ("int_min", c) ∷ ("int_max", c) ∷ ("int_abs", b) ∷ ("int_negate", b) ∷
    ("int_div", c) ∷ ("int_mod", c) ∷ ("int_pow", c) ∷ ("array_int_element", c) ∷
    ("array_int_maximum", a) ∷ ("array_int_minimum", a) ∷ ("bool_eq", a_or_b) ∷
    ("bool_not", a_or_b) ∷ ("bool_and", c) ∷ ("bool_or", c) ∷ ("bool_xor", c) ∷
    ("array_bool_and", b) ∷ ("array_bool_or", b) ∷ ("array_bool_element", c) ∷
    ("bool2int", a_or_b) ∷ ("bool_lin_eq", c) ∷ ("set_eq", a_or_b) ∷ ("set_union", c) ∷
    ("set_intersect", c) ∷ ("set_diff", c) ∷ ("set_symdiff", c) ∷ ("set_card", b) ∷
    ("array_set_element", c) ∷ ("gecode_array_set_element_union", c) ∷ ("fzn_count_eq", c) ∷
    ("fzn_among", a) ∷ ("fzn_nvalue", a) ∷ ("gecode_maximum_arg_int_offset", c) ∷
    ("gecode_minimum_arg_int_offset", c) ∷ ("gecode_maximum_arg_bool_offset", c) ∷
    ("gecode_set_weights", d) ∷ ("gecode_range", d) ∷ []

abbrev pub first_name : Row → List ℕ
first_name r = get_or r.names 0 []

abbrev pub result_named : List ℕ → Result
result_named name =
    option_map_or (λ (e : String × Result). e.1) (find (λ e. bytes_eq (codes e.0) name) results)
    NoResult

-- the result of a reified form is its Boolean, which is last
abbrev pub result_in : Form → Row → Result
result_in Base r = result_named (first_name r)
result_in Reified r = Places ((length r.shapes - 1) ∷ [])
result_in Implied r = NoResult

-- It is opaque: a proof that reads it says `unfolding result_of`.
unfoldable pub result_of : Row → Result
result_of r = result_in r.form r
