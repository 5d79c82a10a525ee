-- The kinds of what a name stands for, and of the scalars of a constraint (this project's profile).
use Rattle.std.specs.Prelude.{◌≡◌, Some}
use Rattle.std.specs.List.{AllByRecursion}
use Rattle.fz_meaning.specs.Relations.{kind_of}
use Rattle.fz_meaning.specs.declared.kind.Kind.{Kind}
use Rattle.fz_meaning.specs.declared.term.Term.{Term}
use Rattle.fz_meaning.specs.declared.term.Term.TheVariants.{Var, Fixed}
use Rattle.fz_meaning.specs.Meaning.{Argument, Model, Place, Posted}
use Rattle.fz_meaning.specs.Meaning.Place.{Scalar, Array}
use Rattle.fz_meaning.specs.Meaning.Argument.{One, ListOf}
use Rattle.fz_meaning.specs.Steps.{kind_at}

-- a scalar has the kind: its variable, or its value
abbrev pub TermFits : Model → Kind → Term → Type 0
TermFits m k (Var n) = kind_at m n ≡ Some k
TermFits m k (Fixed v) = kind_of v ≡ k

-- each scalar there has the kind
abbrev pub PlaceFits : Model → Place → Type 0
PlaceFits m (Scalar k t) = TermFits m k t
PlaceFits m (Array x k ts) = AllByRecursion (TermFits m k) ts

abbrev pub ArgumentFits : Model → Argument → Type 0
ArgumentFits m (One p) = PlaceFits m p
ArgumentFits m (ListOf ps) = AllByRecursion (PlaceFits m) ps

-- the same of all arguments of a constraint
abbrev pub PostedFits : Model → Posted → Type 0
PostedFits m p = AllByRecursion (ArgumentFits m) p.arguments
