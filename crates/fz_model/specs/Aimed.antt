-- The step of a point by any result of its row, whatever `defines_var` names: the contract of
-- `forced_any` cites `GivesAny` and `GivesNone` (this project's profile).
use Rattle.std.specs.Prelude.{ℕ, Some}
use Rattle.fz_builtins.specs.of_meaning.of_base.declared.value.Value.{Value}
use Rattle.fz_builtins.specs.of_meaning.Meaning.{Model, Partial, Point, Posted}
use Rattle.fz_builtins.specs.of_meaning.Meaning.Point.{DomainPoint, DefinitionPoint, ArrayPoint, ConstraintPoint}
use Rattle.fz_builtins.specs.of_meaning.Steps.{Gives}

-- the constraint with this defined variable
abbrev pub with_target : ℕ → Posted → Posted
with_target n p = record { name = p.name; arguments = p.arguments; target = Some n }

-- the point, where a constraint may give its value to this variable
abbrev pub aimed : ℕ → Point → Point
aimed n (DomainPoint x k) = DomainPoint x k
aimed n (DefinitionPoint x k e) = DefinitionPoint x k e
aimed n (ArrayPoint name d ts) = ArrayPoint name d ts
aimed n (ConstraintPoint k p) = ConstraintPoint k (with_target n p)

-- The point gives the variable the value, where a constraint may give each variable one that its
-- row has as a result: each one that `defines_var` might name.
abbrev pub GivesAny : Model → Partial → Point → ℕ → Value → Type 0
GivesAny m K p n v = Gives m K (aimed n p) n v

-- the point gives no variable a value in this way
abbrev pub GivesNone : Model → Partial → Point → Type 0
GivesNone m K p = (n : ℕ) (v : Value) → GivesAny m K p n v → ⊥
