-- Only private functions use these: what the names that were declared so far stand for, as the
-- loader stores them.
use Rattle.std.specs.Prelude.{◌≡◌, ◌++◌, ◌∷◌, ℕ, Bool, true, false, List, [], Option, Some, None, cond, option_map, map, length, is_some, is_none, not, ◌&&◌}
use Rattle.std.specs.Map.{lookup}
use Rattle.fz_store.specs.of_meaning.declared.kind.Kind.{Kind}
use Rattle.fz_store.specs.of_meaning.declared.term.Term.TheVariants.{Var, Fixed}
use Rattle.fz_store.specs.of_meaning.Relations.{kind_of, same_kind}
use Rattle.fz_store.specs.of_meaning.Located.{Decl, Constraint}
use Rattle.fz_data.specs.Fitting.{kinds_among}
use Rattle.fz_store.specs.of_meaning.Meaning.{Place, admits_all}
use Rattle.fz_store.specs.of_meaning.Meaning.Place.{Scalar, Array}
use Rattle.fz_store.specs.of_meaning.Names.{literal_of, parts, kind_of_base, domain_of, is_scalar, variable_declared, Fault, Kinds, Places, term_of, definition_of, parts_fault, constraint_fault}
use Rattle.fz_store.specs.declared.scope.Scope.{Scope}
use Rattle.fz_data.specs.declared.scope.Item.{Item}
use Rattle.fz_data.specs.declared.scope.Item.TheVariants as items
use Rattle.fz_store.specs.declared.parts.Array as the_array
use Rattle.fz_store.specs.Naming as the_declared
use Rattle.fz_store.specs.Naming.{has_text, Declared as declarations}
use Rattle.fz_store.specs.declared.parts.DeclaredPoint.{DeclaredPoint}
use Rattle.fz_store.specs.declared.parts.DeclaredPoint.TheVariants as points
use Rattle.fz_store.specs.declared.parts.Variable.{Variable}
use Rattle.fz_store.specs.Parts.{variable_view, elements_of}
use Rattle.fz_store.specs.Declarations.{declared_place}

-- what a name stands for
abbrev pub place_in : Scope → Places
place_in s x =
    option_map (declared_place s.variables.items s.arrays.items) (lookup (has_text x) s.names)

abbrev pub place_kind : Place → Option Kind
place_kind (Scalar k t) = Some k
place_kind (Array x k ts) = None

abbrev pub kinds_in : Scope → Kinds
kinds_in s x = option_map place_kind (place_in s x)

-- at the first part of a declared value
abbrev pub value_fault_in : Scope → Decl → Option Fault
value_fault_in s d = parts_fault (kinds_in s) (Some (kind_of_base d.base)) (parts d.value)

abbrev pub constraint_fault_in : Scope → Constraint → Option Fault
constraint_fault_in s c = constraint_fault (kinds_in s) c

-- ---- declarations

abbrev pub IsNewName : Scope → List ℕ → Type 0
IsNewName s x = is_none (lookup (has_text x) s.names) ≡ true

abbrev pub IsArrayOf : Scope → Decl → the_array.Array → Type 0
IsArrayOf s d x = (x.is_variable ≡ d.is_var) × (x.name.now ≡ d.name.text)
    × (x.kind ≡ kind_of_base d.base) × (x.domain ≡ domain_of d.base)
    × (elements_of x ≡ map (term_of (place_in s)) (parts d.value))

-- what is declared: a parameter by its value, a variable, or an array
abbrev pub IsItem : Scope → Decl → Item → Type 0
IsItem s d (items.Parameter v) = (is_scalar d ≡ true) × (d.is_var ≡ false)
    × (v ≡ literal_of d.value) × (same_kind (kind_of v) (kind_of_base d.base) ≡ true)
IsItem s d (items.Variable v) = (is_scalar d ≡ true) × (d.is_var ≡ true)
    × (variable_view v ≡ variable_declared d) × (v.definition ≡ definition_of (place_in s) d.value)
IsItem s d (items.Array x) = (is_scalar d ≡ false) × IsArrayOf s d x

-- what its name cites
abbrev pub kept_with : Scope → Item → the_declared.Declared
kept_with s (items.Parameter v) = declarations.Scalar (Fixed v)
kept_with s (items.Variable v) = declarations.Scalar (Var (length s.variables.items))
kept_with s (items.Array x) = declarations.Array (length s.arrays.items)

abbrev pub new_variables : Item → List Variable
new_variables (items.Variable v) = v ∷ []
new_variables (items.Parameter v) = []
new_variables (items.Array x) = []

abbrev pub new_arrays : Item → List the_array.Array
new_arrays (items.Array x) = x ∷ []
new_arrays (items.Parameter v) = []
new_arrays (items.Variable v) = []

abbrev pub has_elements_point : the_array.Array → Bool
has_elements_point x = x.is_variable && not (admits_all x.domain)

abbrev pub new_points : Scope → Item → List DeclaredPoint
new_points s (items.Parameter v) = []
new_points s (items.Variable v) =
    points.Domain (length s.variables.items)
    ∷ cond (is_some v.definition) (points.Definition (length s.variables.items) ∷ []) []
new_points s (items.Array x) =
    cond (has_elements_point x) (points.Elements (length s.arrays.items) ∷ []) []

-- the kinds of the variables are listed in their order
abbrev pub HasKinds : Scope → Type 0
HasKinds s = s.kinds.items ≡ kinds_among s.variables.items

-- the scope with what the name declares
pub record IsAdded (old : Scope) (name : List ℕ) (item : Item) (new : Scope) : Type 0 where
  pub names : new.names ≡ old.names ++ (name, kept_with old item) ∷ []
  pub variables : new.variables.items ≡ old.variables.items ++ new_variables item
  pub kinds : new.kinds.items ≡ old.kinds.items ++ kinds_among (new_variables item)
  pub arrays : new.arrays.items ≡ old.arrays.items ++ new_arrays item
  pub points : new.points.items ≡ old.points.items ++ new_points old item
