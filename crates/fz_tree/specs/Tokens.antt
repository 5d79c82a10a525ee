-- The token list of a tree, by cases on its parts.
-- (MiniZinc Handbook, FlatZinc grammar, read from a tree to its text.)
use Rattle.std.specs.Prelude.{ℕ, ℤ, ◌+◌, length, pos, Bool, true, false, List, [], ◌∷◌, ◌++◌, Option, Some, None, codes, flat_map}
use Rattle.fz_tree.specs.declared.token.Mark.{Mark}
use Rattle.fz_tree.specs.declared.token.Mark.TheVariants.{OpenParen, CloseParen, OpenBracket, CloseBracket, OpenBrace, CloseBrace, Comma, Semicolon, Colon, ColonColon, Equals, DotDot}
use Rattle.fz_tree.specs.Token.{TokenValue, Word, Whole, FloatText, StringText, Marked}
use Rattle.fz_tree.specs.Tree.{Literal, Number, Truth, Range, Braces, Basic, Lit, Named, Expr, One, Several, Note, Called, NoteArgs, NoMoreArgs, MoreArgs, NoteArg, OneBasic, ListOf, NoteBasics, NoMoreBasics, MoreBasics, NoteBasic, NoteLiteral, NoteFloat, NoteString, Inner, Base, BoolBase, IntBase, SetBase, Param, Predicate, Decl, Constraint, Goal, Satisfy, Minimize, Maximize, Solve, Tree, PrintedValue, OneValue, ArrayOf, Printed}

abbrev pub mark : Mark → List TokenValue
mark m = Marked m ∷ []

-- a reserved word or a name
abbrev pub word : List ℕ → List TokenValue
word text = Word text ∷ []

-- elements, each after a comma
abbrev pub after_commas : {A : Type 0} → (A → List TokenValue) → List A → List TokenValue
after_commas toks xs = flat_map (λ x. Marked Comma ∷ toks x) xs

-- elements with commas between them
abbrev pub separated : {A : Type 0} → (A → List TokenValue) → List A → List TokenValue
separated toks [] = []
separated toks (x ∷ xs) = toks x ++ after_commas toks xs

abbrev pub in_parens : List TokenValue → List TokenValue
in_parens inside = Marked OpenParen ∷ (inside ++ mark CloseParen)

abbrev pub in_brackets : List TokenValue → List TokenValue
in_brackets inside = Marked OpenBracket ∷ (inside ++ mark CloseBracket)

-- ---- expressions

abbrev pub number_toks : ℤ → List TokenValue
number_toks n = Whole n ∷ []

abbrev pub truth_word : Bool → List ℕ
truth_word true = codes "true"
truth_word false = codes "false"

abbrev pub literal_toks : Literal → List TokenValue
literal_toks (Number n) = number_toks n
literal_toks (Truth b) = word (truth_word b)
literal_toks (Range low high) = Whole low ∷ Marked DotDot ∷ Whole high ∷ []
literal_toks (Braces numbers) =
    Marked OpenBrace ∷ (separated number_toks numbers ++ mark CloseBrace)

abbrev pub basic_toks : Basic → List TokenValue
basic_toks (Lit l) = literal_toks l
basic_toks (Named name) = word name

abbrev pub expr_toks : Expr → List TokenValue
expr_toks (One b) = basic_toks b
expr_toks (Several bs) = in_brackets (separated basic_toks bs)

-- ---- annotations

-- annotations and their arguments: a list of arguments is in parentheses, with commas in between,
-- and is nothing where it is empty
abbrev mutual
  pub note_toks : Note → List TokenValue
  note_toks (Called name args) = Word name ∷ args_toks args

  pub args_toks : NoteArgs → List TokenValue
  args_toks NoMoreArgs = []
  args_toks (MoreArgs first others) = in_parens (arg_toks first ++ more_args_toks others)

  pub more_args_toks : NoteArgs → List TokenValue
  more_args_toks NoMoreArgs = []
  more_args_toks (MoreArgs first others) = (Marked Comma ∷ arg_toks first) ++ more_args_toks others

  pub arg_toks : NoteArg → List TokenValue
  arg_toks (OneBasic b) = note_basic_toks b
  arg_toks (ListOf bs) = in_brackets (basics_toks bs)

  pub basics_toks : NoteBasics → List TokenValue
  basics_toks NoMoreBasics = []
  basics_toks (MoreBasics first others) = note_basic_toks first ++ more_basics_toks others

  pub more_basics_toks : NoteBasics → List TokenValue
  more_basics_toks NoMoreBasics = []
  more_basics_toks (MoreBasics first others) =
      (Marked Comma ∷ note_basic_toks first) ++ more_basics_toks others

  pub note_basic_toks : NoteBasic → List TokenValue
  note_basic_toks (NoteLiteral l) = literal_toks l
  note_basic_toks (NoteFloat text) = FloatText text ∷ []
  note_basic_toks (NoteString text) = StringText text ∷ []
  note_basic_toks (Inner n) = note_toks n

-- annotations, each after `::`
abbrev pub notes_toks : List Note → List TokenValue
notes_toks notes = flat_map (λ n. Marked ColonColon ∷ note_toks n) notes

-- ---- types

abbrev pub bounds_toks : Option Literal → List TokenValue
bounds_toks None = word (codes "int")
bounds_toks (Some l) = literal_toks l

abbrev pub base_toks : Base → List TokenValue
base_toks BoolBase = word (codes "bool")
base_toks (IntBase bounds) = bounds_toks bounds
base_toks (SetBase bounds) = word (codes "set") ++ word (codes "of") ++ bounds_toks bounds

abbrev pub var_toks : Bool → List TokenValue
var_toks true = word (codes "var")
var_toks false = []

abbrev pub index_toks : ℕ → List TokenValue
index_toks length = Whole (pos 1) ∷ Marked DotDot ∷ Whole (pos length) ∷ []

abbrev pub array_toks : List TokenValue → List TokenValue
array_toks index = word (codes "array") ++ in_brackets index ++ word (codes "of")

-- of a declaration: no array, or one of a length
abbrev pub prefix_toks : Option ℕ → List TokenValue
prefix_toks None = []
prefix_toks (Some length) = array_toks (index_toks length)

-- an index set of a predicate's parameter: also one of any length
abbrev pub any_index_toks : Option ℕ → List TokenValue
any_index_toks None = word (codes "int")
any_index_toks (Some length) = index_toks length

-- of a predicate's parameter: no array, or one with index sets
abbrev pub param_prefix_toks : Option (List (Option ℕ)) → List TokenValue
param_prefix_toks None = []
param_prefix_toks (Some indexes) = array_toks (separated any_index_toks indexes)

-- ---- items

abbrev pub param_toks : Param → List TokenValue
param_toks p = param_prefix_toks p.array ++ var_toks p.is_var ++ base_toks p.base ++ mark Colon
    ++ word p.name

abbrev pub predicate_toks : Predicate → List TokenValue
predicate_toks p = word (codes "predicate") ++ word p.name
    ++ in_parens (separated param_toks p.params) ++ mark Semicolon

abbrev pub value_toks : Option Expr → List TokenValue
value_toks None = []
value_toks (Some e) = Marked Equals ∷ expr_toks e

abbrev pub decl_toks : Decl → List TokenValue
decl_toks d = prefix_toks d.length ++ var_toks d.is_var ++ base_toks d.base ++ mark Colon
    ++ word d.name ++ notes_toks d.notes ++ value_toks d.value ++ mark Semicolon

abbrev pub constraint_toks : Constraint → List TokenValue
constraint_toks c = word (codes "constraint") ++ word c.name
    ++ in_parens (separated expr_toks c.args) ++ notes_toks c.notes ++ mark Semicolon

abbrev pub goal_toks : Goal → List TokenValue
goal_toks Satisfy = word (codes "satisfy")
goal_toks (Minimize e) = word (codes "minimize") ++ basic_toks e
goal_toks (Maximize e) = word (codes "maximize") ++ basic_toks e

abbrev pub solve_toks : Solve → List TokenValue
solve_toks s = word (codes "solve") ++ notes_toks s.notes ++ goal_toks s.goal ++ mark Semicolon

-- the tokens of a tree
abbrev pub toks : Tree → List TokenValue
toks m = flat_map predicate_toks m.predicates ++ flat_map decl_toks m.decls
    ++ flat_map constraint_toks m.constraints ++ solve_toks m.solve

-- ---- printed items

-- the word that begins a printed array of this many index sets, array1d to array6d: 48 is the code
-- of `0`
abbrev pub array_word : ℕ → List ℕ
array_word dimensions = codes "array" ++ (48 + dimensions) ∷ codes "d"

abbrev pub printed_value_toks : PrintedValue → List TokenValue
printed_value_toks (OneValue l) = literal_toks l
printed_value_toks (ArrayOf indexes elements) =
    word (array_word (length indexes)) ++ in_parens (flat_map
    (λ i. literal_toks i ++ mark Comma) indexes
    ++ in_brackets (separated literal_toks elements))

abbrev pub printed_toks : Printed → List TokenValue
printed_toks p = word p.name ++ mark Equals ++ printed_value_toks p.value ++ mark Semicolon

-- the tokens of a list of printed items
abbrev pub itoks : List Printed → List TokenValue
itoks items = flat_map printed_toks items
