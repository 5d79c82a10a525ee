-- What a caller is shown of a model: points by their names, and what a name stands for (this
-- project's profile).
use Rattle.std.specs.Prelude.{ℕ, List, map, slice_get, ⊤}
use Rattle.std.specs.Option.{option_map_or}
use Rattle.fz_meaning.specs.Relations.{kind_of}
use Rattle.fz_meaning.specs.declared.kind.Kind.{Kind}
use Rattle.fz_meaning.specs.declared.kind.Kind.TheVariants.{Int as IntKind}
use Rattle.fz_meaning.specs.declared.term.Term.{Term}
use Rattle.fz_meaning.specs.declared.term.Term.TheVariants.{Var, Fixed}
use Rattle.fz_meaning.specs.Meaning as meaning
use Rattle.fz_meaning.specs.States as states
use Rattle.fz_store.specs.Slots.{scalar_term, slot_term}
use Rattle.fz_store.specs.Parts.{variable_view, constraint_view}
use Rattle.fz_store.specs.declared.point.Point.{Point}
use Rattle.fz_store.specs.declared.point.Point.TheVariants as points
use Rattle.fz_store.specs.declared.point.ConstraintParts.{ConstraintParts}
use Rattle.fz_store.specs.declared.point.PointParts.{PointParts}
use Rattle.fz_store.specs.declared.point.PointParts.TheVariants as parts
use Rattle.fz_store.specs.declared.found.Found.{Found}
use Rattle.fz_store.specs.declared.found.Scalars.{Scalars}
use Rattle.fz_store.specs.declared.found.What.{What}
use Rattle.fz_store.specs.declared.found.What.TheVariants as whats

-- ---- scalars

abbrev pub scalar_terms : Scalars → List Term
scalar_terms s = map (slot_term s.constants.now) s.slots.now

-- ---- points

-- how a point is reported
abbrev pub point_name : Point → states.PointName
point_name (points.Domain x) = states.DomainOf x.now
point_name (points.Definition x) = states.DefinitionOf x.now
point_name (points.Constraint k x) = states.ConstraintOf k x.now

-- a point by its parts
abbrev pub point_view : PointParts → meaning.Point
point_view (parts.Domain x n) = meaning.Point.DomainPoint (variable_view x.now) n
point_view (parts.Definition x n e) = meaning.Point.DefinitionPoint (variable_view x.now) n e.now
point_view (parts.Elements x d ts) = meaning.Point.ArrayPoint x.now d.now (scalar_terms ts)
point_view (parts.Constraint c) = meaning.Point.ConstraintPoint c.number (constraint_view c)

-- what holds of a constraint's parts, where the point is a constraint
abbrev pub IfConstraint : PointParts → (ConstraintParts → Type 0) → Type 0
IfConstraint (parts.Constraint c) P = P c
IfConstraint (parts.Domain x n) P = ⊤
IfConstraint (parts.Definition x n e) P = ⊤
IfConstraint (parts.Elements x d ts) P = ⊤

-- ---- names

-- the kind of a scalar among these variables: its variable's, or its value's
abbrev pub kind_among : List meaning.Variable → Term → Kind
kind_among vs (Var n) = option_map_or (λ v. v.kind) (slice_get vs n) IntKind
kind_among vs (Fixed v) = kind_of v

abbrev pub what_place : List meaning.Variable → List ℕ → What → meaning.Place
what_place vs x (whats.Scalar s) =
    meaning.Place.Scalar (kind_among vs (scalar_term s)) (scalar_term s)
what_place vs x (whats.Array k ts) = meaning.Place.Array x k (scalar_terms ts)

-- what is found under a name, among these variables
abbrev pub found_place : List meaning.Variable → Found → meaning.Place
found_place vs f = what_place vs f.name.now f.what
