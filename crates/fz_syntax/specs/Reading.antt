-- Used only by private functions: a reader of the contracts need not believe this file. Reading a
-- tree from the front of a token list, from left to right, gives the value and the tokens after it,
-- or a fault, where the tokens are refused: they begin no text of the grammar within the limits.
use Rattle.std.specs.Prelude.{ℕ, zero, suc, ◌+◌, ℤ, pos, negsuc, Bool, true, false, not, ◌||◌, ◌&&◌, if◌then◌else◌, ◌==◌, nat_le, List, [], ◌∷◌, length, drop, Option, Some, None, Result, Ok, Err, codes}
use Rattle.std.specs.Str.{bytes_eq}
use Rattle.std.specs.Ordering.{int_eq}
use Rattle.fz_tree.specs.declared.token.Mark.{Mark}
use Rattle.fz_tree.specs.declared.token.Mark.TheVariants.{OpenParen, CloseParen, OpenBracket, CloseBracket, OpenBrace, CloseBrace, Comma, Semicolon, Colon, ColonColon, Equals, DotDot}
use Rattle.fz_tree.specs.Token.{TokenValue, Word, Whole, FloatText, StringText, Marked}
use Rattle.fz_tree.specs.Tree.{Literal, Number, Truth, Range, Braces, Basic, Lit, Named, Expr, One, Several, Note, Called, NoteArg, OneBasic, ListOf, NoteBasic, NoteLiteral, NoteFloat, NoteString, Inner, Base, BoolBase, IntBase, SetBase, Param, Predicate, Decl, Constraint, Goal, Satisfy, Minimize, Maximize, Solve, Tree}
use Rattle.fz_tree.specs.View.{arg_list, basic_list}
use Rattle.fz_tree.specs.declared.limits.Limits.{Limits}
use Rattle.fz_tree.specs.Text.{is_reserved, most_indexes}

-- No public clause says which token is refused, or why: so a fault says nothing more.
abbrev pub Fault : Type 0
Fault = Unit {0}

-- a value and the tokens after it, or a fault
abbrev pub Read : Type 0 → Type 0
Read A = Result (A × List TokenValue) Fault

abbrev pub Reader : Type 0 → Type 0
Reader A = List TokenValue → Read A

infixl 10 ◌>>=◌
abbrev pub ◌>>=◌ : {A B : Type 0} → Read A → (A × List TokenValue → Read B) → Read B
(Ok x) >>= f = f x
(Err e) >>= f = Err e

-- ---- the next token

abbrev pub mark_number : Mark → ℕ
mark_number OpenParen = 0
mark_number CloseParen = 1
mark_number OpenBracket = 2
mark_number CloseBracket = 3
mark_number OpenBrace = 4
mark_number CloseBrace = 5
mark_number Comma = 6
mark_number Semicolon = 7
mark_number Colon = 8
mark_number ColonColon = 9
mark_number Equals = 10
mark_number DotDot = 11

abbrev pub is_mark : Mark → TokenValue → Bool
is_mark m (Marked n) = mark_number m == mark_number n
is_mark m _ = false

abbrev pub is_word : List ℕ → TokenValue → Bool
is_word text (Word w) = bytes_eq w text
is_word text _ = false

-- the first token passes a test
abbrev pub next_passes : (TokenValue → Bool) → List TokenValue → Bool
next_passes test [] = false
next_passes test (t ∷ rest) = test t

abbrev pub next_is : Mark → List TokenValue → Bool
next_is m = next_passes (is_mark m)

abbrev pub next_word : List ℕ → List TokenValue → Bool
next_word text = next_passes (is_word text)

-- the first token isn't allowed here
abbrev pub refused : {A : Type 0} → Read A
refused = Err tt

-- a mark
unfoldable pub mark_at : Mark → Reader (Unit {0})
mark_at m tokens = if next_is m tokens then Ok (tt, drop 1 tokens) else refused

-- a reserved word
unfoldable pub word_at : List ℕ → Reader (Unit {0})
word_at text tokens = if next_word text tokens then Ok (tt, drop 1 tokens) else refused

unfoldable pub name_at : Reader (List ℕ)
name_at (Word w ∷ rest) = if is_reserved w then refused else Ok (w, rest)
name_at tokens = refused

unfoldable pub whole_at : Reader ℤ
whole_at (Whole n ∷ rest) = Ok (n, rest)
whole_at tokens = refused

-- ---- lists

-- Parts one after another, as long as the next token passes a test, and at most so many. The reader
-- of a part is given the part's index.
unfoldable pub many_upto : {A : Type 0} → ℕ → (TokenValue → Bool) → (ℕ → Reader A) → ℕ
    → Reader (List A)
many_upto zero more part i tokens = Ok ([], tokens)
many_upto (suc fuel) more part i tokens =
    if next_passes more tokens then (part i tokens >>= λ first. many_upto fuel more part
    (i + 1) first.1 >>= λ others. Ok (first.0 ∷ others.0, others.1)) else Ok ([], tokens)

-- The same without a bound: each part takes at least one token, so there are no more parts than
-- tokens.
unfoldable pub many_at : {A : Type 0} → (TokenValue → Bool) → (ℕ → Reader A) → ℕ → Reader (List A)
many_at more part i tokens = many_upto (length tokens) more part i tokens

abbrev pub after_token : {A : Type 0} → (ℕ → Reader A) → ℕ → Reader A
after_token part i tokens = part i (drop 1 tokens)

-- one element, and those after commas
unfoldable pub separated_at : {A : Type 0} → (ℕ → Reader A) → Reader (List A)
separated_at element tokens = do
  first ← element 0 tokens
  others ← many_at (is_mark Comma) (after_token element) 1 first.1
  Ok (first.0 ∷ others.0, others.1)

-- elements with commas between them, up to the mark that closes the list
unfoldable pub list_at : {A : Type 0} → Mark → (ℕ → Reader A) → Reader (List A)
list_at close element tokens =
    if next_is close tokens then Ok ([], drop 1 tokens) else
    (separated_at element tokens >>= λ elements. mark_at close elements.1 >>= λ closed. Ok
    (elements.0, closed.1))

-- an element, whatever its index
abbrev pub any_number : {A : Type 0} → Reader A → ℕ → Reader A
any_number element i tokens = element tokens

-- an element of a list of at most so many
abbrev pub at_most : {A : Type 0} → ℕ → Reader A → ℕ → Reader A
at_most limit element i tokens = if nat_le limit i then refused else element tokens

-- ---- expressions

abbrev pub is_whole : TokenValue → Bool
is_whole (Whole n) = true
is_whole _ = false

abbrev pub is_name : TokenValue → Bool
is_name (Word w) = not (is_reserved w)
is_name _ = false

-- numbers in braces, after the brace that opens
unfoldable pub braces_at : Limits → Reader Literal
braces_at limits tokens = do
  numbers ← list_at CloseBrace (at_most limits.elements whole_at) tokens
  Ok (Braces numbers.0, numbers.1)

-- after an integer: it is the low end of a range, or a literal by itself
unfoldable pub from_whole : ℤ → Reader Literal
from_whole low tokens =
    if next_is DotDot tokens then (whole_at (drop 1 tokens) >>= λ high. Ok
    (Range low high.0, high.1)) else Ok (Number low, tokens)

unfoldable pub literal_at : Limits → Reader Literal
literal_at limits tokens =
    if next_passes is_whole tokens then (whole_at tokens >>= λ low. from_whole low.0 low.1)
    else (if next_word (codes "true") tokens then Ok (Truth true, drop 1 tokens)
    else (if next_word (codes "false") tokens then Ok (Truth false, drop 1 tokens)
    else (if next_is OpenBrace tokens then braces_at limits (drop 1 tokens)
    else refused)))

unfoldable pub basic_at : Limits → Reader Basic
basic_at limits tokens =
    if next_passes is_name tokens then (name_at tokens >>= λ name. Ok (Named name.0, name.1))
    else (literal_at limits tokens >>= λ l. Ok (Lit l.0, l.1))

unfoldable pub expr_at : Limits → Reader Expr
expr_at limits tokens =
    if next_is OpenBracket tokens then (list_at CloseBracket (at_most limits.elements
    (basic_at limits)) (drop 1 tokens) >>= λ bs. Ok (Several bs.0, bs.1))
    else (basic_at limits tokens >>= λ b. Ok (One b.0, b.1))

-- ---- annotations

-- an element of an annotation's arguments, where `inner` reads an annotation
unfoldable pub note_basic_at : Limits → Reader Note → Reader NoteBasic
note_basic_at limits inner (FloatText text ∷ rest) = Ok (NoteFloat text, rest)
note_basic_at limits inner (StringText text ∷ rest) = Ok (NoteString text, rest)
note_basic_at limits inner tokens =
    if next_passes is_name tokens then (inner tokens >>= λ n. Ok (Inner n.0, n.1))
    else (literal_at limits tokens >>= λ l. Ok (NoteLiteral l.0, l.1))

unfoldable pub note_arg_at : Limits → ℕ → Reader Note → Reader NoteArg
note_arg_at limits depth inner tokens =
    if next_is OpenBracket tokens then (list_at CloseBracket (at_most limits.elements
    (note_basic_at limits inner)) (drop 1 tokens) >>= λ bs. Ok (ListOf (basic_list bs.0), bs.1))
    else (note_basic_at limits inner tokens >>= λ b. Ok (OneBasic b.0, b.1))

-- after an annotation's name: its arguments, if it has any
unfoldable pub note_args_at : Limits → ℕ → Reader Note → Reader (List NoteArg)
note_args_at limits depth inner tokens =
    if next_is OpenParen tokens
    then (separated_at (any_number (note_arg_at limits depth inner))
    (drop 1 tokens) >>= λ args. mark_at CloseParen args.1 >>= λ closed. Ok (args.0, closed.1))
    else Ok ([], tokens)

-- an annotation that has at most so many levels
unfoldable pub note_at : Limits → ℕ → Reader Note
note_at limits zero tokens = refused
note_at limits (suc depth) tokens = do
  name ← name_at tokens
  args ← note_args_at limits depth (note_at limits depth) name.1
  Ok (Called name.0 (arg_list args.0), args.1)

unfoldable pub notes_at : Limits → Reader (List Note)
notes_at limits tokens =
    many_at (is_mark ColonColon) (after_token (any_number (note_at limits limits.depth))) 0 tokens

-- ---- types

unfoldable pub range_at : Reader Literal
range_at tokens = do
  low ← whole_at tokens
  dots ← mark_at DotDot low.1
  high ← whole_at dots.1
  Ok (Range low.0 high.0, high.1)

unfoldable pub bounds_at : Limits → Reader Literal
bounds_at limits tokens =
    if next_is OpenBrace tokens then braces_at limits (drop 1 tokens) else range_at tokens

-- the word `int`, or bounds
unfoldable pub int_at : Limits → Reader (Option Literal)
int_at limits tokens =
    if next_word (codes "int") tokens then Ok (None, drop 1 tokens)
    else (bounds_at limits tokens >>= λ l. Ok (Some l.0, l.1))

unfoldable pub base_at : Limits → Reader Base
base_at limits tokens =
    if next_word (codes "bool") tokens then Ok (BoolBase, drop 1 tokens)
    else (if next_word (codes "set") tokens then (word_at (codes "of")
    (drop 1 tokens) >>= λ of. int_at limits of.1 >>= λ bounds. Ok (SetBase bounds.0, bounds.1))
    else (int_at limits tokens >>= λ bounds. Ok (IntBase bounds.0, bounds.1)))

-- the type of a parameter
unfoldable pub plain_at : Reader Base
plain_at tokens =
    if next_word (codes "bool") tokens then Ok (BoolBase, drop 1 tokens)
    else (if next_word (codes "set") tokens then (word_at (codes "of")
    (drop 1 tokens) >>= λ of. word_at (codes "int") of.1 >>= λ int. Ok (SetBase None, int.1))
    else (word_at (codes "int") tokens >>= λ int. Ok (IntBase None, int.1)))

-- the number 1
abbrev pub is_one : TokenValue → Bool
is_one (Whole n) = int_eq n (pos 1)
is_one _ = false

unfoldable pub one_at : Reader (Unit {0})
one_at tokens = if next_passes is_one tokens then Ok (tt, drop 1 tokens) else refused

-- a number that is 0 or more
abbrev pub size_from : Limits → ℤ → Reader ℕ
size_from limits (pos n) rest = if nat_le n limits.size then Ok (n, rest) else refused
size_from limits (negsuc n) rest = refused

unfoldable pub size_at : Limits → Reader ℕ
size_at limits (Whole n ∷ rest) = size_from limits n rest
size_at limits tokens = refused

unfoldable pub index_at : Limits → Reader ℕ
index_at limits tokens = do
  one ← one_at tokens
  dots ← mark_at DotDot one.1
  size_at limits dots.1

-- after the word `array`: the length, in brackets, and the word `of`
unfoldable pub array_at : {A : Type 0} → Reader A → Reader A
array_at index tokens = do
  opened ← mark_at OpenBracket tokens
  length ← index opened.1
  closed ← mark_at CloseBracket length.1
  of ← word_at (codes "of") closed.1
  Ok (length.0, of.1)

unfoldable pub any_index_at : Limits → Reader (Option ℕ)
any_index_at limits tokens =
    if next_word (codes "int") tokens then Ok (None, drop 1 tokens)
    else (index_at limits tokens >>= λ n. Ok (Some n.0, n.1))

-- an index set of a list that isn't full
abbrev pub listed_index : Limits → ℕ → Reader (Option ℕ)
listed_index limits = at_most most_indexes (any_index_at limits)

-- ---- items

unfoldable pub var_at : Reader Bool
var_at tokens =
    if next_word (codes "var") tokens then Ok (true, drop 1 tokens) else Ok (false, tokens)

unfoldable pub param_prefix_at : Limits → Reader (Option (List (Option ℕ)))
param_prefix_at limits tokens =
    if next_word (codes "array") tokens then (array_at (separated_at (listed_index limits))
    (drop 1 tokens) >>= λ array. Ok (Some array.0, array.1)) else Ok (None, tokens)

unfoldable pub param_at : Limits → Reader Param
param_at limits tokens = do
  array ← param_prefix_at limits tokens
  is_var ← var_at array.1
  base ← base_at limits is_var.1
  colon ← mark_at Colon base.1
  name ← name_at colon.1
  Ok (record { array = array.0; is_var = is_var.0; base = base.0; name = name.0 }, name.1)

unfoldable pub predicate_at : Limits → Reader Predicate
predicate_at limits tokens = do
  start ← word_at (codes "predicate") tokens
  name ← name_at start.1
  opened ← mark_at OpenParen name.1
  params ← list_at CloseParen (any_number (param_at limits)) opened.1
  end ← mark_at Semicolon params.1
  Ok (record { name = name.0; params = params.0 }, end.1)

unfoldable pub prefix_at : Limits → Reader (Option ℕ)
prefix_at limits tokens =
    if next_word (codes "array") tokens then (array_at (index_at limits)
    (drop 1 tokens) >>= λ length. Ok (Some length.0, length.1)) else Ok (None, tokens)

unfoldable pub literal_basic_at : Limits → Reader Basic
literal_basic_at limits tokens = literal_at limits tokens >>= λ l. Ok (Lit l.0, l.1)

-- the value after `=`, or after its bracket: of an array a list, of a parameter of literals
unfoldable pub value_at : Limits → (is_var : Bool) → (length : Option ℕ) → Reader Expr
value_at limits true None tokens = basic_at limits tokens >>= λ b. Ok (One b.0, b.1)
value_at limits false None tokens = literal_basic_at limits tokens >>= λ b. Ok (One b.0, b.1)
value_at limits true (Some n) tokens =
    mark_at OpenBracket tokens >>= λ opened. list_at CloseBracket
    (at_most limits.elements (basic_at limits)) opened.1 >>= λ bs. Ok (Several bs.0, bs.1)
value_at limits false (Some n) tokens =
    mark_at OpenBracket tokens >>= λ opened. list_at CloseBracket
    (at_most limits.elements (literal_basic_at limits)) opened.1 >>= λ bs. Ok (Several bs.0, bs.1)

-- only a scalar variable may go without a value
abbrev pub may_lack_value : (is_var : Bool) → (length : Option ℕ) → Bool
may_lack_value true None = true
may_lack_value _ _ = false

unfoldable pub given_value_at : Limits → (is_var : Bool) → (length : Option ℕ)
    → Reader (Option Expr)
given_value_at limits is_var length tokens =
    if may_lack_value is_var length && not (next_is Equals tokens) then Ok (None, tokens)
    else (mark_at Equals tokens >>= λ equals. value_at limits is_var length equals.1 >>= λ e. Ok
    (Some e.0, e.1))

unfoldable pub type_at : Limits → (is_var : Bool) → Reader Base
type_at limits true tokens = base_at limits tokens
type_at limits false tokens = plain_at tokens

unfoldable pub decl_at : Limits → Reader Decl
decl_at limits tokens = do
  length ← prefix_at limits tokens
  is_var ← var_at length.1
  base ← type_at limits is_var.0 is_var.1
  colon ← mark_at Colon base.1
  name ← name_at colon.1
  notes ← notes_at limits name.1
  value ← given_value_at limits is_var.0 length.0 notes.1
  end ← mark_at Semicolon value.1
  Ok (
    record {
      is_var = is_var.0;
      length = length.0;
      base = base.0;
      name = name.0;
      notes = notes.0;
      value = value.0;
    },
    end.1,
  )

unfoldable pub constraint_at : Limits → Reader Constraint
constraint_at limits tokens = do
  start ← word_at (codes "constraint") tokens
  name ← name_at start.1
  opened ← mark_at OpenParen name.1
  args ← list_at CloseParen (any_number (expr_at limits)) opened.1
  notes ← notes_at limits args.1
  end ← mark_at Semicolon notes.1
  Ok (record { name = name.0; args = args.0; notes = notes.0 }, end.1)

unfoldable pub goal_at : Limits → Reader Goal
goal_at limits tokens =
    if next_word (codes "minimize") tokens
    then (basic_at limits (drop 1 tokens) >>= λ e. Ok (Minimize e.0, e.1))
    else (if next_word (codes "maximize") tokens
    then (basic_at limits (drop 1 tokens) >>= λ e. Ok (Maximize e.0, e.1))
    else (word_at (codes "satisfy") tokens >>= λ satisfy. Ok (Satisfy, satisfy.1)))

unfoldable pub solve_at : Limits → Reader Solve
solve_at limits tokens = do
  start ← word_at (codes "solve") tokens
  notes ← notes_at limits start.1
  goal ← goal_at limits notes.1
  end ← mark_at Semicolon goal.1
  Ok (record { notes = notes.0; goal = goal.0 }, end.1)

-- ---- a whole tree

abbrev pub begins_decl : TokenValue → Bool
begins_decl t = is_word (codes "var") t || is_word (codes "array") t || is_word (codes "bool") t
    || is_word (codes "int") t || is_word (codes "set") t

unfoldable pub tree_at : Limits → Reader Tree
tree_at limits tokens = do
  predicates ← many_at (is_word (codes "predicate")) (any_number (predicate_at limits)) 0 tokens
  decls ← many_at begins_decl (any_number (decl_at limits)) 0 predicates.1
  constraints ← many_at (is_word (codes "constraint")) (any_number (constraint_at limits)) 0 decls.1
  solve ← solve_at limits constraints.1
  Ok (
    record {
      predicates = predicates.0;
      decls = decls.0;
      constraints = constraints.0;
      solve = solve.0;
    },
    solve.1,
  )

-- no token is left
unfoldable pub ended : {A : Type 0} → A × List TokenValue → Result A Fault
ended (x, []) = Ok x
ended (x, t ∷ rest) = Err tt

abbrev pub whole : {A : Type 0} → Read A → Result A Fault
whole (Ok x) = ended x
whole (Err f) = Err f

-- the tree that the tokens are
unfoldable pub tree_of : Limits → List TokenValue → Result Tree Fault
tree_of limits tokens = whole (tree_at limits tokens)
