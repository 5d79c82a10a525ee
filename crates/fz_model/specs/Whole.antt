-- Where every variable has a value of its kind inside its domain, and which tests needn't be made
-- then. Only private functions use these, but for `is_domain`, which `IsOverview` cites.
use Rattle.std.specs.Prelude.{◌≡◌, Bool, true, false, ◌&&◌, List, [], ◌∷◌, Option, Some, None}
use Rattle.fz_builtins.specs.of_meaning.of_base.declared.value.Value.{Value}
use Rattle.fz_builtins.specs.of_meaning.declared.kind.Kind.{Kind}
use Rattle.fz_builtins.specs.of_meaning.Relations.{kind_of, same_kind}
use Rattle.fz_builtins.specs.of_meaning.Builtins.{Row, Shape}
use Rattle.fz_builtins.specs.of_meaning.Builtins.Shape.{ScalarOf, ArrayOf}
use Rattle.fz_builtins.specs.of_meaning.Meaning.{Partial, Point, Posted, Variable, inside, row_of}
use Rattle.fz_builtins.specs.of_meaning.Meaning.Point.{DomainPoint, DefinitionPoint, ArrayPoint, ConstraintPoint}
use Rattle.fz_builtins.specs.of_kernel.Given.{are_read}

-- there is a value of the variable's kind, and it lies in the variable's domain
abbrev pub lies_inside : Variable → Option Value → Bool
lies_inside x None = false
lies_inside x (Some v) = same_kind (kind_of v) x.kind && inside x.domain v

-- every variable has a value of its kind that lies in its domain, and there are no other values
abbrev pub lie_inside : List Variable → Partial → Bool
lie_inside [] [] = true
lie_inside (x ∷ xs) (o ∷ K) = lies_inside x o && lie_inside xs K
lie_inside _ _ = false

-- the point is that of a variable's domain
abbrev pub is_domain : Point → Bool
is_domain (DomainPoint x n) = true
is_domain (DefinitionPoint x n e) = false
is_domain (ArrayPoint name d ts) = false
is_domain (ConstraintPoint k p) = false

-- each scalar of the constraint has a value of the kind that its row asks for, where it has a row
abbrev pub IsReady : Partial → Posted → Type 0
IsReady K p = (r : Row) → row_of p ≡ Some r → are_read K r.shapes p.arguments ≡ true

-- the kind that is asked of a scalar, or of each element
abbrev pub kind_in : Shape → Kind
kind_in (ScalarOf k) = k
kind_in (ArrayOf k) = k
