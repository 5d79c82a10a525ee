-- What declared names stand for, as the declarations of a model.
use Rattle.std.specs.Prelude.{ℕ, List, cond, slice_get}
use Rattle.std.specs.Option.{option_map_or}
use Rattle.fz_meaning.specs.Relations.{kind_of}
use Rattle.fz_meaning.specs.declared.term.Term.{Term}
use Rattle.fz_meaning.specs.declared.term.Term.TheVariants.{Var, Fixed}
use Rattle.fz_meaning.specs.Meaning as meaning
use Rattle.fz_store.specs.Naming.{Declared, Declared as declarations}
use Rattle.fz_store.specs.declared.parts.Variable.{Variable}
use Rattle.fz_store.specs.declared.parts.Array.{Array}
use Rattle.fz_store.specs.Parts.{variable_at, definition_at, scalar_view, elements_of, array_view, array_at, no_array}

abbrev pub scalar_declared : List Variable → List ℕ → Term → meaning.Declared
scalar_declared vs x (Var n) =
    meaning.Declared.ScalarVariable (variable_at vs n) (definition_at vs n)
scalar_declared vs x (Fixed v) =
    meaning.Declared.Parameter x (meaning.Place.Scalar (kind_of v) (Fixed v))

abbrev pub array_declared : Array → meaning.Declared
array_declared x =
    cond x.is_variable
    (meaning.Declared.ArrayOfVariables x.name.now x.kind x.domain (elements_of x))
    (meaning.Declared.Parameter x.name.now (array_view x))

abbrev pub declared_view : List Variable → List Array → List ℕ → Declared → meaning.Declared
declared_view vs xs name (declarations.Scalar t) = scalar_declared vs name t
declared_view vs xs name (declarations.Array i) =
    option_map_or array_declared (slice_get xs i) (meaning.Declared.Parameter name no_array)

-- what the declared name stands for
abbrev pub declared_place : List Variable → List Array → Declared → meaning.Place
declared_place vs xs (declarations.Scalar t) = scalar_view vs t
declared_place vs xs (declarations.Array i) = array_at xs i
