-- What the parts of a loaded model stand for: the model as it is defined, apart from memory (this
-- project's profile). Variables and arrays are cited by their numbers; nothing depends on what a
-- number stands for that no variable or array has.
use Rattle.std.specs.Prelude.{ℕ, List, [], map, Option, None, Some, option_map, slice_get}
use Rattle.std.specs.Option.{option_map_or}
use Rattle.fz_meaning.specs.Relations.{kind_of}
use Rattle.fz_meaning.specs.declared.kind.Kind.{Kind}
use Rattle.fz_meaning.specs.declared.kind.Kind.TheVariants.{Int as IntKind}
use Rattle.fz_meaning.specs.declared.term.Term.{Term}
use Rattle.fz_meaning.specs.declared.term.Term.TheVariants.{Var, Fixed}
use Rattle.fz_meaning.specs.declared.term.Domain.TheVariants.{All}
use Rattle.fz_meaning.specs.Builtins.{Row}
use Rattle.fz_meaning.specs.Known.{known_row}
use Rattle.fz_meaning.specs.Meaning as meaning
use Rattle.fz_store.specs.declared.parts.Variable.{Variable}
use Rattle.fz_store.specs.declared.parts.Array.{Array}
use Rattle.fz_store.specs.declared.parts.ScalarList.{ScalarList}
use Rattle.fz_meaning.specs.of_base.declared.value.Value.{Value}
use Rattle.fz_store.specs.declared.store.Slot.{Slot}
use Rattle.fz_store.specs.declared.store.Slot.TheVariants as slots
use Rattle.fz_store.specs.declared.store.Argument.{Argument}
use Rattle.fz_store.specs.declared.store.Argument.TheVariants as arguments
use Rattle.fz_store.specs.declared.store.Store.{Store}
use Rattle.fz_store.specs.declared.parts.Posted.{Posted}
use Rattle.fz_store.specs.declared.point.ConstraintParts.{ConstraintParts}
use Rattle.fz_store.specs.Slots.{slot_term, segment}
use Rattle.fz_store.specs.declared.parts.Goal.{Goal}
use Rattle.fz_store.specs.declared.parts.Goal.TheVariants as goals
use Rattle.fz_store.specs.declared.parts.DeclaredPoint.{DeclaredPoint}
use Rattle.fz_store.specs.declared.parts.DeclaredPoint.TheVariants as points

-- ---- variables and arrays

abbrev pub variable_view : Variable → meaning.Variable
variable_view v = record { name = v.name.now; kind = v.kind; domain = v.domain }

abbrev pub no_variable : meaning.Variable
no_variable = record { name = []; kind = IntKind; domain = All }

abbrev pub variable_at : List Variable → ℕ → meaning.Variable
variable_at vs n = option_map_or variable_view (slice_get vs n) no_variable

abbrev pub definition_at : List Variable → ℕ → Option Term
definition_at vs n = option_map_or (λ v. v.definition) (slice_get vs n) None

-- the kind of a scalar: its variable's, or its value's
abbrev pub kind_of_term : List Variable → Term → Kind
kind_of_term vs (Var n) = (variable_at vs n).kind
kind_of_term vs (Fixed v) = kind_of v

abbrev pub scalar_view : List Variable → Term → meaning.Place
scalar_view vs t = meaning.Place.Scalar (kind_of_term vs t) t

abbrev pub terms_of : ScalarList → List Term
terms_of l = map (slot_term l.constants.items) l.slots.items

-- the elements of an array
abbrev pub elements_of : Array → List Term
elements_of x = terms_of x.elements

abbrev pub array_view : Array → meaning.Place
array_view x = meaning.Place.Array x.name.now x.kind (elements_of x)

abbrev pub no_array : meaning.Place
no_array = meaning.Place.Array [] IntKind []

abbrev pub array_at : List Array → ℕ → meaning.Place
array_at xs i = option_map_or array_view (slice_get xs i) no_array

-- ---- constraints and the goal

-- what a slot stands for, with these constants
abbrev pub place_view : List Variable → List Array → List Value → Slot → meaning.Place
place_view vs xs cs (slots.Variable n) = scalar_view vs (slot_term cs (slots.Variable n))
place_view vs xs cs (slots.Number i) = scalar_view vs (slot_term cs (slots.Number i))
place_view vs xs cs (slots.Truth b) = scalar_view vs (slot_term cs (slots.Truth b))
place_view vs xs cs (slots.Constant k) = scalar_view vs (slot_term cs (slots.Constant k))
place_view vs xs cs (slots.Array i) = array_at xs i

abbrev pub argument_view : List Variable → List Array → Store → Argument → meaning.Argument
argument_view vs xs st (arguments.One s) =
    meaning.Argument.One (place_view vs xs st.constants.items s)
argument_view vs xs st (arguments.List g) =
    meaning.Argument.ListOf (map (place_view vs xs st.constants.items) (segment st.slots.items g))

abbrev pub posted_view : List Variable → List Array → Store → Posted → meaning.Posted
posted_view vs xs st p = record {
  name = p.name.now;
  arguments = map (argument_view vs xs st)
      (segment st.arguments.items p.arguments);
  target = p.target;
}

-- the row of the table that it is stored with
abbrev pub kept_row : Posted → Option Row
kept_row p = option_map known_row p.known

abbrev pub constraint_view : ConstraintParts → meaning.Posted
constraint_view c = posted_view c.variables.now c.arrays.now c.store.now c.posted.now

abbrev pub goal_view : Goal → meaning.Aim
goal_view goals.Satisfy = meaning.Aim.Satisfy
goal_view (goals.Minimize t) = meaning.Aim.Minimize t
goal_view (goals.Maximize t) = meaning.Aim.Maximize t

-- ---- points of declarations

abbrev pub definition_point : List Variable → ℕ → Option Term → meaning.Point
definition_point vs n None = meaning.Point.DomainPoint (variable_at vs n) n
definition_point vs n (Some e) = meaning.Point.DefinitionPoint (variable_at vs n) n e

abbrev pub elements_point : Array → meaning.Point
elements_point x = meaning.Point.ArrayPoint x.name.now x.domain (elements_of x)

abbrev pub declared_point : List Variable → List Array → DeclaredPoint → meaning.Point
declared_point vs xs (points.Domain n) = meaning.Point.DomainPoint (variable_at vs n) n
declared_point vs xs (points.Definition n) = definition_point vs n (definition_at vs n)
declared_point vs xs (points.Elements i) =
    option_map_or elements_point (slice_get xs i) (meaning.Point.ArrayPoint [] All [])
