-- Texts of a tree and of printed items, and what a call that reads them gives. (MiniZinc Handbook,
-- FlatZinc grammar; the limits are this project's profile.)
use Rattle.std.specs.Prelude.{◌≡◌, ℕ, List, bytes_eq, length, map, ◌≤◌, ◌+◌, zero, suc, Bool, true, false, [], ◌∷◌, Option, Some, None, codes, IfSome}
use Rattle.std.specs.List.{AllByRecursion, list_any}
use Rattle.fz_tree.specs.Lexing.{IsTextOfTokensWithin}
use Rattle.fz_tree.specs.declared.limits.Limits.{Limits}
use Rattle.fz_tree.specs.Tree.{Tree, Printed, Literal, Number, Truth, Braces, Basic, Lit, Named, Expr, One, Several, Note, Called, NoteArgs, NoMoreArgs, MoreArgs, NoteArg, OneBasic, ListOf, NoteBasics, NoMoreBasics, MoreBasics, NoteBasic, NoteLiteral, Inner, Base, BoolBase, IntBase, SetBase, Param, Predicate, Decl, Constraint, Goal, Satisfy, Minimize, Maximize, Solve, PrintedValue, OneValue, ArrayOf}
use Rattle.fz_tree.specs.Tokens.{toks, itoks}
use Rattle.fz_tree.specs.Token.{IsTokenText}

-- the words that are no names (MiniZinc Handbook; the list is this project's profile)
abbrev pub reserved_words : List (List ℕ)
reserved_words = map codes ("array" ∷ "of" ∷ "var" ∷ "bool" ∷ "int" ∷ "float" ∷ "set" ∷ "true"
    ∷ "false" ∷ "predicate" ∷ "constraint" ∷ "solve" ∷ "satisfy" ∷ "minimize" ∷ "maximize" ∷ [])

abbrev pub is_reserved : List ℕ → Bool
is_reserved text = list_any (bytes_eq text) reserved_words

abbrev pub IsName : List ℕ → Type 0
IsName text = is_reserved text ≡ false

-- ---- expressions

abbrev pub IsLiteral : Limits → Literal → Type 0
IsLiteral limits (Braces numbers) = length numbers ≤ limits.elements
IsLiteral limits _ = Unit {0}

-- the bounds of a type: a range or numbers in braces
abbrev pub IsBounds : Limits → Literal → Type 0
IsBounds limits (Number n) = ⊥
IsBounds limits (Truth b) = ⊥
IsBounds limits l = IsLiteral limits l

abbrev pub IsBasic : Limits → Basic → Type 0
IsBasic limits (Lit l) = IsLiteral limits l
IsBasic limits (Named name) = IsName name

abbrev pub IsExpr : Limits → Expr → Type 0
IsExpr limits (One b) = IsBasic limits b
IsExpr limits (Several bs) = (length bs ≤ limits.elements) × AllByRecursion (IsBasic limits) bs

-- ---- annotations, nested at most this many levels deep

abbrev pub count_basics : NoteBasics → ℕ
count_basics NoMoreBasics = 0
count_basics (MoreBasics first others) = 1 + count_basics others

abbrev mutual
  pub IsNote : Note → Limits → ℕ → Type 0
  IsNote (Called name args) limits zero = ⊥
  IsNote (Called name args) limits (suc depth) = IsName name × AreArgs args limits depth

  pub AreArgs : NoteArgs → Limits → ℕ → Type 0
  AreArgs NoMoreArgs limits depth = Unit {0}
  AreArgs (MoreArgs first others) limits depth =
      IsArg first limits depth × AreArgs others limits depth

  pub IsArg : NoteArg → Limits → ℕ → Type 0
  IsArg (OneBasic b) limits depth = IsNoteBasic b limits depth
  IsArg (ListOf bs) limits depth = (count_basics bs ≤ limits.elements) × AreBasics bs limits depth

  pub AreBasics : NoteBasics → Limits → ℕ → Type 0
  AreBasics NoMoreBasics limits depth = Unit {0}
  AreBasics (MoreBasics first others) limits depth =
      IsNoteBasic first limits depth × AreBasics others limits depth

  pub IsNoteBasic : NoteBasic → Limits → ℕ → Type 0
  IsNoteBasic (NoteLiteral l) limits depth = IsLiteral limits l
  IsNoteBasic (Inner n) limits depth = IsNote n limits depth
  IsNoteBasic _ limits depth = Unit {0}

abbrev pub AreNotes : Limits → List Note → Type 0
AreNotes limits notes = AllByRecursion (λ n. IsNote n limits limits.depth) notes

-- ---- types

abbrev pub IsBase : Limits → Base → Type 0
IsBase limits BoolBase = Unit {0}
IsBase limits (IntBase bounds) = IfSome bounds (IsBounds limits)
IsBase limits (SetBase bounds) = IfSome bounds (IsBounds limits)

-- the type of a parameter: without bounds
abbrev pub IsPlain : Base → Type 0
IsPlain BoolBase = Unit {0}
IsPlain (IntBase bounds) = bounds ≡ None
IsPlain (SetBase bounds) = bounds ≡ None

abbrev pub IsAnyIndex : Limits → Option ℕ → Type 0
IsAnyIndex limits o = IfSome o (λ length. length ≤ limits.size)

-- the most index sets of an array (MiniZinc Handbook, "Arrays and Sets": one to six)
abbrev pub most_indexes : ℕ
most_indexes = 6

abbrev pub IsParamArray : Limits → Option (List (Option ℕ)) → Type 0
IsParamArray limits None = Unit {0}
IsParamArray limits (Some indexes) =
    (1 ≤ length indexes) × (length indexes ≤ most_indexes)
    × AllByRecursion (IsAnyIndex limits) indexes

-- ---- items

pub record IsParam (limits : Limits) (p : Param) : Type 0 where
  pub array : IsParamArray limits p.array
  pub base : IsBase limits p.base
  pub name : IsName p.name

pub record IsPredicate (limits : Limits) (p : Predicate) : Type 0 where
  pub name : IsName p.name
  pub params : AllByRecursion (IsParam limits) p.params

abbrev pub IsLiteralBasic : Limits → Basic → Type 0
IsLiteralBasic limits (Lit l) = IsLiteral limits l
IsLiteralBasic limits (Named name) = ⊥

-- The value of a declaration: a parameter has one, made of literals; an array has a list; a scalar
-- variable may have one, and no list.
abbrev pub IsValueOf : Limits → (is_var : Bool) → (length : Option ℕ) → Option Expr → Type 0
IsValueOf limits false None (Some (One b)) = IsLiteralBasic limits b
IsValueOf limits false (Some n) (Some (Several bs)) =
    (length bs ≤ limits.elements) × AllByRecursion (IsLiteralBasic limits) bs
IsValueOf limits true None None = Unit {0}
IsValueOf limits true None (Some (One b)) = IsBasic limits b
IsValueOf limits true (Some n) (Some (Several bs)) = IsExpr limits (Several bs)
IsValueOf limits _ _ _ = ⊥

abbrev pub IsBaseOf : Limits → (is_var : Bool) → Base → Type 0
IsBaseOf limits true base = IsBase limits base
IsBaseOf limits false base = IsPlain base

pub record IsDecl (limits : Limits) (d : Decl) : Type 0 where
  pub length : IfSome d.length (λ n. n ≤ limits.size)
  pub base : IsBaseOf limits d.is_var d.base
  pub name : IsName d.name
  pub notes : AreNotes limits d.notes
  pub value : IsValueOf limits d.is_var d.length d.value

pub record IsConstraint (limits : Limits) (c : Constraint) : Type 0 where
  pub name : IsName c.name
  pub args : AllByRecursion (IsExpr limits) c.args
  pub notes : AreNotes limits c.notes

abbrev pub IsGoal : Limits → Goal → Type 0
IsGoal limits Satisfy = Unit {0}
IsGoal limits (Minimize e) = IsBasic limits e
IsGoal limits (Maximize e) = IsBasic limits e

pub record IsSolve (limits : Limits) (s : Solve) : Type 0 where
  pub notes : AreNotes limits s.notes
  pub goal : IsGoal limits s.goal

-- the parts of a tree are of the grammar and within the limits
pub record HasShape (limits : Limits) (m : Tree) : Type 0 where
  pub predicates : AllByRecursion (IsPredicate limits) m.predicates
  pub decls : AllByRecursion (IsDecl limits) m.decls
  pub constraints : AllByRecursion (IsConstraint limits) m.constraints
  pub solve : IsSolve limits m.solve

-- A tree of the grammar within the limits: its parts are so, and each of its tokens has a text (so
-- a name is a word that can be written, and a float's text is that of a float).
pub record IsTree (limits : Limits) (t : Tree) : Type 0 where
  pub shape : HasShape limits t
  pub texts : AllByRecursion IsTokenText (toks t)

-- ---- printed items

abbrev pub IsPrintedValue : Limits → PrintedValue → Type 0
IsPrintedValue limits (OneValue l) = IsLiteral limits l
IsPrintedValue limits (ArrayOf indexes elements) =
    (1 ≤ length indexes) × (length indexes ≤ most_indexes)
    × AllByRecursion (IsBounds limits) indexes
    × (length elements ≤ limits.elements) × AllByRecursion (IsLiteral limits) elements

pub record IsPrinted (limits : Limits) (p : Printed) : Type 0 where
  pub name : IsName p.name
  pub value : IsPrintedValue limits p.value

-- The source lexes to the tokens of the tree, and both are within the limits.
pub record IsTextOfTreeWithin (limits : Limits) (source : List ℕ) (t : Tree) : Type 0 where
  pub lexes : IsTextOfTokensWithin limits source (toks t)
  pub of_grammar : IsTree limits t

-- The source lexes to the tokens of the printed items, and both are within the limits.
pub record IsTextOfItemsWithin (limits : Limits) (source : List ℕ)
    (items : List Printed) : Type 0 where
  pub lexes : IsTextOfTokensWithin limits source (itoks items)
  pub of_grammar : AllByRecursion (IsPrinted limits) items
