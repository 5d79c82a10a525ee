-- The syntax tree of FlatZinc as plain data: no byte ranges in the source, no memory. Names and
-- texts are lists of bytes, numbers have no width. (MiniZinc Handbook, FlatZinc grammar; which
-- parts of a text are in the tree is this project's profile.)
use Rattle.std.specs.Prelude.{ℕ, ℤ, Bool, List, Option}

-- ---- expressions

-- A literal: an integer, a Boolean, a range by its two ends, or numbers in braces in their written
-- order.
pub data Literal : Type 0 where
  Number : (value : ℤ) → Literal
  Truth : (value : Bool) → Literal
  Range : (low high : ℤ) → Literal
  Braces : (numbers : List ℤ) → Literal

-- a literal or a name
pub data Basic : Type 0 where
  Lit : (literal : Literal) → Basic
  Named : (name : List ℕ) → Basic

-- one basic expression, or a list of them in brackets
pub data Expr : Type 0 where
  One : (basic : Basic) → Expr
  Several : (basics : List Basic) → Expr

-- ---- annotations

-- An annotation is a name, with arguments in parentheses where it has any. An argument is one basic
-- annotation expression or a list of them in brackets; such an expression may again be an
-- annotation.
mutual
  pub data Note : Type 0 where
    Called : (name : List ℕ) (args : NoteArgs) → Note

  -- the arguments in order
  pub data NoteArgs : Type 0 where
    NoMoreArgs : NoteArgs
    MoreArgs : (first : NoteArg) (others : NoteArgs) → NoteArgs

  pub data NoteArg : Type 0 where
    OneBasic : (basic : NoteBasic) → NoteArg
    ListOf : (basics : NoteBasics) → NoteArg

  -- the elements of a list in order
  pub data NoteBasics : Type 0 where
    NoMoreBasics : NoteBasics
    MoreBasics : (first : NoteBasic) (others : NoteBasics) → NoteBasics

  pub data NoteBasic : Type 0 where
    NoteLiteral : (literal : Literal) → NoteBasic
    NoteFloat : (text : List ℕ) → NoteBasic
    NoteString : (text : List ℕ) → NoteBasic
    Inner : (note : Note) → NoteBasic

-- ---- items

-- A type of elements. An integer or set type may have bounds, a range or numbers in braces.
pub data Base : Type 0 where
  BoolBase : Base
  IntBase : (bounds : Option Literal) → Base
  SetBase : (bounds : Option Literal) → Base

-- A parameter of a predicate item. Of an array it has the index sets, each as its length, or as
-- none where it is `int`.
pub record Param : Type 0 where
  pub array : Option (List (Option ℕ))
  pub is_var : Bool
  pub base : Base
  pub name : List ℕ

pub record Predicate : Type 0 where
  pub name : List ℕ
  pub params : List Param

-- A declaration of a parameter or a variable, scalar or array.
pub record Decl : Type 0 where
  pub is_var : Bool
  pub length : Option ℕ
  pub base : Base
  pub name : List ℕ
  pub notes : List Note
  pub value : Option Expr

pub record Constraint : Type 0 where
  pub name : List ℕ
  pub args : List Expr
  pub notes : List Note

pub data Goal : Type 0 where
  Satisfy : Goal
  Minimize : (objective : Basic) → Goal
  Maximize : (objective : Basic) → Goal

pub record Solve : Type 0 where
  pub notes : List Note
  pub goal : Goal

-- A whole tree: its items by kind, each kind in source order.
pub record Tree : Type 0 where
  pub predicates : List Predicate
  pub decls : List Decl
  pub constraints : List Constraint
  pub solve : Solve

-- ---- printed items

-- The value after a printed name: a literal, or an array by its index sets and its elements.
pub data PrintedValue : Type 0 where
  OneValue : (literal : Literal) → PrintedValue
  ArrayOf : (indexes elements : List Literal) → PrintedValue

pub record Printed : Type 0 where
  pub name : List ℕ
  pub value : PrintedValue
