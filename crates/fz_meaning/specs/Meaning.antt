-- What a model means, once its names are numbered: assignments, the value of an expression, the
-- domains, the points, solutions and the objective (MiniZinc Handbook, FlatZinc, "variable
-- declarations" and "constraint items"; the points and their order are this project's profile).
use Rattle.std.specs.Prelude.{◌≡◌, ℕ, zero, suc, ◌%◌, nat_eq, ℤ, pos, ◌*ℤ◌, Bool, true, false, cond, ◌&&◌, List, [], ◌∷◌, ◌++◌, length, map, ◌==◌, int_le, Option, Some, None, bytes_eq, option_map, option_and_then, slice_get, IsTrue, IsSomeAnd, IfSome, ⊤, flat_map, find, codes}
use Rattle.std.specs.List.{list_all, list_any, starts_with, AllByRecursion}
use Rattle.std.specs.Option.{option_map_or, option_flatten, option_or}
use Rattle.std.specs.FinSet as sets
use Rattle.fz_base.specs.declared.value.Value.{Value}
use Rattle.fz_base.specs.declared.value.Value.TheVariants.{Int, Bool as Truth, Set}
use Rattle.fz_meaning.specs.declared.kind.Kind.{Kind}
use Rattle.fz_meaning.specs.declared.term.Term.{Term}
use Rattle.fz_meaning.specs.declared.term.Term.TheVariants.{Var, Fixed}
use Rattle.fz_meaning.specs.declared.term.Domain.{Domain}
use Rattle.fz_meaning.specs.declared.term.Domain.TheVariants.{All, Within, Among}
use Rattle.fz_meaning.specs.declared.row.Matrix.{Matrix}
use Rattle.fz_meaning.specs.declared.row.Matrix.TheVariants.{Absent, RowsLike, RowsBy}
use Rattle.fz_meaning.specs.Relations.{◌=ℤ◌, all_some, kind_of, same_kind}
use Rattle.fz_meaning.specs.Builtins.{Shape, ScalarOf, ArrayOf, Row, rows, is_named, ArgValue, OneValue, ManyValues, passes}

-- ---- a model with its names looked up

-- what a literal or a name stands for: a scalar of a kind, or an array by its name, its kind and
-- its elements
pub data Place : Type 0 where
  Scalar : Kind → Term → Place
  Array : List ℕ → Kind → List Term → Place

-- an argument of a constraint: a literal or a name, or a list in brackets
pub data Argument : Type 0 where
  One : Place → Argument
  ListOf : List Place → Argument

-- a scalar variable
pub record Variable : Type 0 where
  pub name : List ℕ
  pub kind : Kind
  pub domain : Domain

pub data Declared : Type 0 where
  -- a parameter's name stands for its value
  Parameter : List ℕ → Place → Declared
  -- a scalar variable, perhaps with a definition
  ScalarVariable : Variable → Option Term → Declared
  -- an array of variables
  ArrayOfVariables : List ℕ → Kind → Domain → List Term → Declared

-- a constraint, with the variable that its first `defines_var` names
pub record Posted : Type 0 where
  pub name : List ℕ
  pub arguments : List Argument
  pub target : Option ℕ

-- what is asked for: any solution, or the least or the greatest value of a scalar
pub data Aim : Type 0 where
  Satisfy : Aim
  Minimize : Term → Aim
  Maximize : Term → Aim

pub record Model : Type 0 where
  pub declared : List Declared
  pub constraints : List Posted
  pub aim : Aim

-- the scalar variables in source order, so that the one with number n is at index n
abbrev pub variable_of : Declared → List Variable
variable_of (ScalarVariable x e) = x ∷ []
variable_of _ = []

abbrev pub variables_of : Model → List Variable
variables_of m = flat_map variable_of m.declared

-- each declaration with the number of scalar variables before it, which is a scalar variable's own
-- number
abbrev pub numbered_from : ℕ → List Declared → List (ℕ × Declared)
numbered_from n [] = []
numbered_from n (ScalarVariable x e ∷ ds) = (n, ScalarVariable x e) ∷ numbered_from (suc n) ds
numbered_from n (Parameter name p ∷ ds) = (n, Parameter name p) ∷ numbered_from n ds
numbered_from n (ArrayOfVariables name k d ts ∷ ds) =
    (n, ArrayOfVariables name k d ts) ∷ numbered_from n ds

abbrev pub numbered : Model → List (ℕ × Declared)
numbered m = numbered_from 0 m.declared

-- the first answer that there is
abbrev pub first_some : {A B : Type 0} → (A → Option B) → List A → Option B
first_some f [] = None
first_some f (x ∷ xs) = option_or (f x) (first_some f xs)

-- what a declared name stands for
abbrev pub name_of : Declared → List ℕ
name_of (Parameter x p) = x
name_of (ScalarVariable x e) = x.name
name_of (ArrayOfVariables x k d ts) = x

abbrev pub place_named : ℕ → Declared → Place
place_named n (Parameter x p) = p
place_named n (ScalarVariable x e) = Scalar x.kind (Var n)
place_named n (ArrayOfVariables x k d ts) = Array x k ts

abbrev pub place_if_named : List ℕ → (ℕ × Declared) → Option Place
place_if_named x (n, d) = cond (bytes_eq (name_of d) x) (Some (place_named n d)) None

abbrev pub find_name : Model → List ℕ → Option Place
find_name m x = first_some (place_if_named x) (numbered m)

-- a declared name begins with these bytes
abbrev pub begins_name : Model → List ℕ → Bool
begins_name m front = list_any (λ d. starts_with nat_eq (name_of d.1) front) (numbered m)

-- ---- assignments

-- a partial assignment gives some variables a value, by their numbers; an assignment gives each one
abbrev pub Partial : Type 0
Partial = List (Option Value)

abbrev pub Assignment : Type 0
Assignment = List Value

-- an assignment as a partial one
abbrev pub whole : Assignment → Partial
whole A = map Some A

-- the value of a variable, if it has one
abbrev pub value_at : Partial → ℕ → Option Value
value_at K n = option_flatten (slice_get K n)

-- each value has its variable's kind
abbrev pub FitVariables : List Variable → Partial → Type 0
FitVariables [] [] = ⊤
FitVariables (x ∷ xs) (o ∷ K) = IfSome o (λ v. kind_of v ≡ x.kind) × FitVariables xs K
FitVariables _ _ = ⊥

abbrev pub IsPartial : Model → Partial → Type 0
IsPartial m K = FitVariables (variables_of m) K

abbrev pub IsAssignment : Model → Assignment → Type 0
IsAssignment m A = IsPartial m (whole A)

-- ---- the value of an expression

-- a fixed value is itself, and a variable has the value that it is given
abbrev pub value : Partial → Term → Option Value
value K (Var n) = value_at K n
value K (Fixed v) = Some v

-- the values of the terms, where each has one
abbrev pub values : Partial → List Term → Option (List Value)
values K ts = all_some (map (value K) ts)

-- ---- domains

-- the numbers of a domain
abbrev pub admits : Domain → ℤ → Bool
admits All n = true
admits (Within lo hi) n = int_le lo n && int_le n hi
admits (Among s) n = sets.contains s n

abbrev pub admits_all : Domain → Bool
admits_all All = true
admits_all _ = false

-- The value lies in the domain: a number is one of its numbers, and a set is a subset of it. No
-- Boolean lies in a domain with bounds.
abbrev pub inside : Domain → Value → Bool
inside d (Int n) = admits d n
inside d (Set s) = list_all (admits d) (sets.items s)
inside d (Truth b) = admits_all d

-- ---- constraints

abbrev pub as_int : Value → Option ℤ
as_int (Int n) = Some n
as_int _ = None

abbrev pub terms_at : Place → List Term
terms_at (Scalar k t) = t ∷ []
terms_at (Array x k ts) = ts

-- the scalars in an argument
abbrev pub terms_in : Argument → List Term
terms_in (One p) = terms_at p
terms_in (ListOf ps) = flat_map terms_at ps

-- the value of an argument, where each scalar in it has one
abbrev pub argument_value : Partial → Argument → Option ArgValue
argument_value K (One (Scalar k t)) = option_map OneValue (value K t)
argument_value K (One (Array x k ts)) = option_map ManyValues (values K ts)
argument_value K (ListOf ps) = option_map ManyValues (values K (terms_in (ListOf ps)))

abbrev pub argument_values : Partial → List Argument → Option (List ArgValue)
argument_values K as' = all_some (map (argument_value K) as')

abbrev pub is_term_of : Kind → Place → Bool
is_term_of k (Scalar j t) = same_kind j k
is_term_of k (Array x j ts) = false

-- the argument is of the kind asked for: an array literal is where each element is a scalar of that
-- kind, so an empty one is of each kind
abbrev pub has_shape : Shape → Argument → Bool
has_shape (ScalarOf k) (One (Scalar j t)) = same_kind j k
has_shape (ArrayOf k) (One (Array x j ts)) = same_kind j k
has_shape (ArrayOf k) (ListOf ps) = list_all (is_term_of k) ps
has_shape _ _ = false

abbrev pub have_shapes : List Shape → List Argument → Bool
have_shapes [] [] = true
have_shapes (s ∷ ss) (x ∷ xs) = has_shape s x && have_shapes ss xs
have_shapes _ _ = false

abbrev pub length_at : List Argument → ℕ → ℕ
length_at xs i = option_map_or (λ x. length (terms_in x)) (slice_get xs i) 0

-- the arguments at these indices have equal lengths
abbrev pub equally_long : List ℕ → List Argument → Bool
equally_long [] xs = true
equally_long (i ∷ is) xs = list_all (λ j. length_at xs j == length_at xs i) is

-- the number of the argument at an index, where it is fixed: no variable's
abbrev pub fixed_number : Argument → Option ℤ
fixed_number (One (Scalar k (Fixed v))) = as_int v
fixed_number _ = None

abbrev pub fixed_number_at : List Argument → ℕ → Option ℤ
fixed_number_at xs i = option_and_then fixed_number (slice_get xs i)

-- so many elements are whole rows of this width; where the width is 0, their number is lost
abbrev pub are_whole_rows : ℕ → ℕ → Bool
are_whole_rows zero count = false
are_whole_rows (suc width) count = nat_eq (count % suc width) 0

-- so many elements are so many rows of this width
abbrev pub are_rows_of : Option ℤ → Option ℤ → ℕ → Bool
are_rows_of (Some height) (Some width) count = pos count =ℤ (height *ℤ width)
are_rows_of _ _ count = false

-- The array that was a matrix, and is written row by row, has whole rows: each as long as another
-- array, or as many and as long as two fixed numbers say.
abbrev pub has_whole_rows : Matrix → List Argument → Bool
has_whole_rows Absent xs = true
has_whole_rows (RowsLike x t) xs = are_whole_rows (length_at xs x) (length_at xs t)
has_whole_rows (RowsBy q s d) xs =
    are_rows_of (fixed_number_at xs q) (fixed_number_at xs s) (length_at xs d)

abbrev pub fits : Row → List Argument → Bool
fits r xs = have_shapes r.shapes xs && (equally_long r.together xs && has_whole_rows r.matrix xs)

-- The name under which the table has a constraint of this name and so many arguments: one name has
-- one row, and `bool_xor` of two arguments is `bool_ne`.
unfoldable pub table_name : List ℕ → ℕ → List ℕ
table_name name count =
    cond (count == 2 && bytes_eq name (codes "bool_xor")) (codes "bool_ne") name

-- the row that a constraint fits; a constraint is known where there is one, but for a power whose
-- exponent is negative
abbrev pub row_of : Posted → Option Row
row_of p =
    find (λ r. is_named (table_name p.name (length p.arguments)) r && fits r p.arguments) rows

-- the row's relation holds of the values
abbrev pub row_holds : Row → List ArgValue → Bool
row_holds r vs = passes r.shapes r.holds vs

abbrev pub number_at : Partial → Term → Option ℤ
number_at K t = option_and_then as_int (value K t)

-- ---- points

-- what is checked, one after another
pub data Point : Type 0 where
  -- the domain of a scalar variable with its number
  DomainPoint : Variable → ℕ → Point
  -- its definition
  DefinitionPoint : Variable → ℕ → Term → Point
  -- the domain of an array's elements, where it has bounds
  ArrayPoint : List ℕ → Domain → List Term → Point
  -- a constraint with its number, from 1
  ConstraintPoint : ℕ → Posted → Point

abbrev pub definition_points : Variable → ℕ → Option Term → List Point
definition_points x n None = []
definition_points x n (Some e) = DefinitionPoint x n e ∷ []

abbrev pub array_points : List ℕ → Domain → List Term → List Point
array_points name All ts = []
array_points name d ts = ArrayPoint name d ts ∷ []

abbrev pub declared_points : (ℕ × Declared) → List Point
declared_points (n, Parameter name p) = []
declared_points (n, ScalarVariable x e) = DomainPoint x n ∷ definition_points x n e
declared_points (n, ArrayOfVariables name k d ts) = array_points name d ts

abbrev pub constraint_points : ℕ → List Posted → List Point
constraint_points n [] = []
constraint_points n (p ∷ ps) = ConstraintPoint n p ∷ constraint_points (suc n) ps

-- the points of a model: those of the declarations in source order, then the constraints
abbrev pub points : Model → List Point
points m = flat_map declared_points (numbered m) ++ constraint_points 1 m.constraints

-- ---- solutions

-- Under a partial assignment a domain holds where the values lie in it, a definition where both
-- sides are equal, and a constraint where it is known and its relation holds of the values of its
-- arguments. Numbers have no width here.
abbrev pub HoldsUnder : Partial → Point → Type 0
HoldsUnder K (DomainPoint x n) = IsSomeAnd (value_at K n) (λ v. IsTrue (inside x.domain v))
HoldsUnder K (DefinitionPoint x n e) =
    IsSomeAnd (value_at K n) (λ v. IsSomeAnd (value K e) (λ w. v ≡ w))
HoldsUnder K (ArrayPoint name d ts) =
    IsSomeAnd (values K ts) (λ vs. AllByRecursion (λ v. IsTrue (inside d v)) vs)
HoldsUnder K (ConstraintPoint k p) =
    IsSomeAnd (row_of p) (λ r. IsSomeAnd (argument_values K p.arguments)
    (λ vs. IsTrue (row_holds r vs)))

-- an assignment inside all domains, with equal sides of every definition, and at which every
-- constraint is known and holds
pub record IsSolution (m : Model) (A : Assignment) : Type 0 where
  pub assignment : IsAssignment m A
  pub each_holds : AllByRecursion (HoldsUnder (whole A)) (points m)

-- ---- the objective

-- the number that is minimized or maximized, where it has a value
abbrev pub objective_of : Aim → Partial → Option ℤ
objective_of Satisfy K = None
objective_of (Minimize t) K = number_at K t
objective_of (Maximize t) K = number_at K t

abbrev pub objective : Model → Partial → Option ℤ
objective m K = objective_of m.aim K
