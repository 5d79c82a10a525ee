-- The names of a tree, its first fault, and the model that a tree without faults is (MiniZinc
-- Handbook, FlatZinc, "Parameter declaration items" and "Variable declaration items").
use Rattle.std.specs.Prelude.{◌≡◌, ℕ, pos, Bool, false, not, cond, ◌&&◌, List, [], ◌∷◌, ◌++◌, length, map, ◌==◌, Option, Some, None, bytes_eq, find, codes, is_some, option_and_then, option_map}
use Rattle.std.specs.List.{filter, position_or_len}
use Rattle.std.specs.Option.{option_map_or, option_or}
use Rattle.std.specs.FinSet.{from_list}
use Rattle.fz_base.specs.Sets.{numbers_between}
use Rattle.fz_tree.specs.declared.span.Span.{Span}
use Rattle.fz_base.specs.declared.value.Value.{Value}
use Rattle.fz_base.specs.declared.value.Value.TheVariants.{Int, Bool as Truth, Set}
use Rattle.fz_meaning.specs.declared.kind.Kind.{Kind}
use Rattle.fz_meaning.specs.declared.kind.Kind.TheVariants.{Int as IntKind, Bool as BoolKind, Set as SetKind}
use Rattle.fz_meaning.specs.Relations.{kind_of, same_kind}
use Rattle.fz_tree.specs.Tree as tree
use Rattle.fz_tree.specs.Tree.{Number, Truth as TruthWord, Range, Braces, Called, NoMoreArgs, MoreArgs, OneBasic, Inner, BoolBase, IntBase, SetBase}
use Rattle.fz_meaning.specs.Located.{Basic, Lit, Named, Expr, One, Several, Decl, Constraint, Goal, Satisfy, Minimize, Maximize, LocatedTree}
use Rattle.fz_meaning.specs.Meaning.{Place, Scalar, Array, Argument, Variable, Declared, Parameter, ScalarVariable, ArrayOfVariables, Posted, Aim, Model, first_some}
use Rattle.fz_meaning.specs.declared.term.Term.{Term}
use Rattle.fz_meaning.specs.declared.term.Term.TheVariants.{Var, Fixed}
use Rattle.fz_meaning.specs.declared.term.Domain.{Domain}
use Rattle.fz_meaning.specs.declared.term.Domain.TheVariants.{All, Within, Among}

-- ---- the value of a literal

abbrev pub literal_value : tree.Literal → Value
literal_value (Number n) = Int n
literal_value (TruthWord b) = Truth b
literal_value (Range lo hi) = Set (numbers_between lo hi)
literal_value (Braces ns) = Set (from_list ns)

abbrev pub kind_of_base : tree.Base → Kind
kind_of_base BoolBase = BoolKind
kind_of_base (IntBase d) = IntKind
kind_of_base (SetBase d) = SetKind

-- ---- what is declared

abbrev pub named_as : List ℕ → Decl → Bool
named_as x d = bytes_eq d.name.text x

-- the declaration of a name, the first where there are several
abbrev pub declaration : List Decl → List ℕ → Option Decl
declaration ds x = find (named_as x) ds

abbrev pub is_scalar : Decl → Bool
is_scalar d = not (is_some d.array_length)

abbrev pub is_scalar_variable : Decl → Bool
is_scalar_variable d = d.is_var && is_scalar d

-- the basic expressions of a declaration's value
abbrev pub parts : Option Expr → List Basic
parts None = []
parts (Some (One b)) = b ∷ []
parts (Some (Several bs)) = bs

-- a declared array's value has another number of elements than its length says
abbrev pub differs_in_length : Decl → Bool
differs_in_length d = option_map_or (λ n. not (length (parts d.value) == n)) d.array_length false

-- the kind of what is declared, where it is a scalar
abbrev pub scalar_kind : Decl → Option Kind
scalar_kind d = cond (is_scalar d) (Some (kind_of_base d.base)) None

-- ---- look-ups
--
-- What follows asks names of a look-up. The declarations that are known at an item give one.

-- the kind of a declared name's scalar: none of an array
abbrev pub Kinds : Type 0
Kinds = List ℕ → Option (Option Kind)

abbrev pub kinds : List Decl → Kinds
kinds ds x = option_map scalar_kind (declaration ds x)

-- what a declared name stands for
abbrev pub Places : Type 0
Places = List ℕ → Option Place

-- ---- faults
--
-- The first fault of names in a tree, in the order of the text (that of several faults the first is
-- told is this project's profile). Items come in source order: declarations, constraints, the
-- objective. In a declaration the name comes first, and then its value from left to right.

pub data FaultKind : Type 0 where
  DuplicateName : FaultKind
  UnknownName : FaultKind
  WrongKind : FaultKind
  WrongLength : FaultKind

-- a fault and the byte range of the name or literal that has it
abbrev pub Fault : Type 0
Fault = FaultKind × Span

-- ---- at a literal or a name, where a scalar of a kind is wanted, or anything

-- what stands there is an array, or a scalar of another kind
abbrev pub kind_fault : Option Kind → Option Kind → Span → Option Fault
kind_fault None o at = None
kind_fault (Some k) None at = Some (WrongKind, at)
kind_fault (Some k) (Some j) at = cond (same_kind j k) None (Some (WrongKind, at))

-- or no earlier item declares the name
abbrev pub part_fault : Kinds → Option Kind → Basic → Option Fault
part_fault known wanted (Lit l) = kind_fault wanted (Some (kind_of (literal_value l.what))) l.span
part_fault known wanted (Named x) =
    option_map_or (λ o. kind_fault wanted o x.span) (known x.text) (Some (UnknownName, x.span))

-- at the first of several
abbrev pub parts_fault : Kinds → Option Kind → List Basic → Option Fault
parts_fault known wanted bs = first_some (part_fault known wanted) bs

-- ---- at an item

-- At a declared name: it was declared before, or an array's value has another number of elements
-- than its declared length.
abbrev pub name_fault : Kinds → Decl → Option Fault
name_fault before d = cond (is_some (before d.name.text)) (Some (DuplicateName, d.name.span))
    (cond (differs_in_length d) (Some (WrongLength, d.name.span)) None)

-- At a declaration: at its name, or else in its value, whose literals and names are to be scalars
-- of the declared kind.
abbrev pub fault_at_decl : Kinds → Decl → Option Fault
fault_at_decl before d = option_or (name_fault before d)
    (parts_fault before (Some (kind_of_base d.base)) (parts d.value))

-- at the first of several declarations, each with those before it
abbrev pub decls_fault : List Decl → List Decl → Option Fault
decls_fault before [] = None
decls_fault before (d ∷ ds) =
    option_or (fault_at_decl (kinds before) d) (decls_fault (before ++ d ∷ []) ds)

-- at a constraint: a name in its arguments is not declared
abbrev pub argument_fault : Kinds → Expr → Option Fault
argument_fault known e = parts_fault known None (parts (Some e))

abbrev pub constraint_fault : Kinds → Constraint → Option Fault
constraint_fault known c = first_some (argument_fault known) c.args

-- at the objective, which is to be an integer
abbrev pub goal_fault : Kinds → Goal → Option Fault
goal_fault known Satisfy = None
goal_fault known (Minimize b) = parts_fault known (Some IntKind) (b ∷ [])
goal_fault known (Maximize b) = parts_fault known (Some IntKind) (b ∷ [])

-- ---- in a tree

-- the first fault, if there is one
abbrev pub first_fault : LocatedTree → Option Fault
first_fault t = option_or (decls_fault [] t.decls) (option_or
    (first_some (constraint_fault (kinds t.decls)) t.constraints)
    (goal_fault (kinds t.decls) t.solve.goal))

abbrev pub HasNoFault : LocatedTree → Type 0
HasNoFault t = first_fault t ≡ None

-- ---- what a name stands for
--
-- In a tree with the forms of the grammar and without faults each name is declared and each
-- declaration has the parts that are read here; nothing depends on what stands for the others.

-- scalar variables are numbered from 0 in source order
abbrev pub number_of : List Decl → List ℕ → ℕ
number_of ds x = position_or_len (named_as x) (filter is_scalar_variable ds)

abbrev pub literal_of : Option Expr → Value
literal_of (Some (One (Lit l))) = literal_value l.what
literal_of _ = Int (pos 0)

-- a scalar is a variable, or stands for its literal's value
abbrev pub scalar_term : List Decl → Decl → Term
scalar_term ds d = cond d.is_var (Var (number_of ds d.name.text)) (Fixed (literal_of d.value))

abbrev pub scalar_place : List Decl → Decl → Place
scalar_place ds d = Scalar (kind_of_base d.base) (scalar_term ds d)

-- a literal stands for its value
abbrev pub place_of : Places → Basic → Place
place_of names (Lit l) = Scalar (kind_of (literal_value l.what)) (Fixed (literal_value l.what))
place_of names (Named x) = option_map_or (λ p. p) (names x.text) (Array x.text IntKind [])

abbrev pub term_at : Place → Term
term_at (Scalar k t) = t
term_at (Array x k ts) = Fixed (Int (pos 0))

abbrev pub term_of : Places → Basic → Term
term_of names b = term_at (place_of names b)

abbrev pub scalars : List Decl → Places
scalars ds x = option_map (scalar_place ds) (declaration ds x)

-- each element of an array is a literal or a scalar's name
abbrev pub declared_elements : List Decl → Decl → List Term
declared_elements ds d = map (term_of (scalars ds)) (parts d.value)

abbrev pub place_of_declared : List Decl → Decl → Place
place_of_declared ds d = cond (is_scalar d) (scalar_place ds d)
    (Array d.name.text (kind_of_base d.base) (declared_elements ds d))

abbrev pub places : List Decl → Places
places ds x = option_map (place_of_declared ds) (declaration ds x)

-- ---- the model of a tree

abbrev pub domain_of_literal : Option tree.Literal → Domain
domain_of_literal (Some (Range lo hi)) = Within lo hi
domain_of_literal (Some (Braces ns)) = Among (from_list ns)
domain_of_literal _ = All

abbrev pub domain_of : tree.Base → Domain
domain_of BoolBase = All
domain_of (IntBase d) = domain_of_literal d
domain_of (SetBase d) = domain_of_literal d

abbrev pub variable_declared : Decl → Variable
variable_declared d =
    record { name = d.name.text; kind = kind_of_base d.base; domain = domain_of d.base }

abbrev pub definition_of : Places → Option Expr → Option Term
definition_of names (Some (One b)) = Some (term_of names b)
definition_of names _ = None

abbrev pub declared_of : List Decl → Decl → Declared
declared_of ds d = cond d.is_var (cond (is_scalar d)
    (ScalarVariable (variable_declared d) (definition_of (scalars ds) d.value))
    (ArrayOfVariables d.name.text (kind_of_base d.base) (domain_of d.base)
    (declared_elements ds d)))
    (Parameter d.name.text (place_of_declared ds d))

abbrev pub argument_of : Places → Expr → Argument
argument_of names (One b) = Argument.One (place_of names b)
argument_of names (Several bs) = Argument.ListOf (map (place_of names) bs)

abbrev pub variable_at : Place → Option ℕ
variable_at (Scalar k (Var n)) = Some n
variable_at _ = None

-- the name that is the only argument of an annotation, where it is a name by itself
abbrev pub only_name : tree.NoteArgs → Option (List ℕ)
only_name (MoreArgs (OneBasic (Inner (Called x NoMoreArgs))) NoMoreArgs) = Some x
only_name _ = None

-- the variable that an annotation of the form defines_var(x) names
abbrev pub defined_by : Places → tree.Note → Option ℕ
defined_by names (Called n args) = cond (bytes_eq n (codes "defines_var"))
    (option_and_then (λ x. option_and_then variable_at (names x)) (only_name args)) None

abbrev pub posted_of : Places → Constraint → Posted
posted_of names c = record {
  name = c.name;
  arguments = map (argument_of names) c.args;
  target = first_some (defined_by names) c.notes;
}

abbrev pub aim_of : Places → Goal → Aim
aim_of names Satisfy = Aim.Satisfy
aim_of names (Minimize b) = Aim.Minimize (term_of names b)
aim_of names (Maximize b) = Aim.Maximize (term_of names b)

-- the model of a tree
abbrev pub model_of : LocatedTree → Model
model_of t = record {
  declared = map (declared_of t.decls) t.decls;
  constraints = map (posted_of (places t.decls)) t.constraints;
  aim = aim_of (places t.decls) t.solve.goal;
}
