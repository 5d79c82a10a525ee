-- The tokens of a tree with their byte offsets in its source, as far as the tree has them: of a
-- name where its token starts and ends, of a literal where its first token starts and where its
-- last one ends. Without the offsets the lists are those of Tokens. (This project's profile.)
use Rattle.std.specs.Prelude.{◌≡◌, ℕ, List, [], ◌∷◌, ◌++◌, length, map, Option, Some, None, IfSome, codes}
use Rattle.std.specs.List.{flat_map}
use Rattle.fz_tree.specs.declared.token.Mark.{Mark}
use Rattle.fz_tree.specs.declared.token.Mark.TheVariants.{OpenParen, CloseParen, OpenBracket, CloseBracket, Comma, Semicolon, Colon, ColonColon, Equals}
use Rattle.fz_tree.specs.Token.{TokenValue, Word, FloatText, StringText, Marked}
use Rattle.fz_tree.specs.Lexing.{SpannedToken}
use Rattle.fz_tree.specs.Spanned.{LexesToSpanned}
use Rattle.fz_tree.specs.Tokens.{literal_toks, prefix_toks, param_prefix_toks, var_toks, array_word}
use Rattle.fz_tree.specs.View.{bare_literal, bare_indexes}
use Rattle.fz_tree.specs.declared.tree.Literal.{Literal}
use Rattle.fz_tree.specs.declared.tree.Name.{Name}
use Rattle.fz_tree.specs.declared.tree.Basic.{Basic}
use Rattle.fz_tree.specs.declared.tree.Basic.TheVariants as basics
use Rattle.fz_tree.specs.declared.tree.Expr.{Expr}
use Rattle.fz_tree.specs.declared.tree.Expr.TheVariants as exprs
use Rattle.fz_tree.specs.declared.tree.Base.{Base}
use Rattle.fz_tree.specs.declared.tree.Base.TheVariants as bases
use Rattle.fz_tree.specs.declared.tree.Param.{Param}
use Rattle.fz_tree.specs.declared.tree.Predicate.{Predicate}
use Rattle.fz_tree.specs.declared.tree.Decl.{Decl}
use Rattle.fz_tree.specs.declared.tree.Constraint.{Constraint}
use Rattle.fz_tree.specs.declared.tree.Goal.{Goal}
use Rattle.fz_tree.specs.declared.tree.Goal.TheVariants as goals
use Rattle.fz_tree.specs.declared.tree.Solve.{Solve}
use Rattle.fz_tree.specs.declared.tree.Ast.{Ast}
use Rattle.fz_tree.specs.declared.tree.PrintedValue.{PrintedValue}
use Rattle.fz_tree.specs.declared.tree.PrintedValue.TheVariants as printed
use Rattle.fz_tree.specs.declared.tree.Printed.{Printed}
use Rattle.fz_tree.specs.declared.tree.Note.{Note}
use Rattle.fz_tree.specs.declared.tree.NoteArg.{NoteArg}
use Rattle.fz_tree.specs.declared.tree.NoteBasic.{NoteBasic}
use Rattle.fz_tree.specs.declared.tree.NoteArg.TheFolds.{fold-NoteArg, fold-NoteBasic, fold-Note}
use Rattle.fz_tree.specs.declared.tree.NoteArg.TheOpen.{NoteArg-F, NoteBasic-F, Note-F}

-- A token, and the byte offsets of its start and its end, where they are known.
pub record PlacedToken : Type 0 where
  pub token : TokenValue
  pub start : Option ℕ
  pub end : Option ℕ

-- ---- tokens with offsets against a cut of the source

-- It is this token of a cut, with the offsets that are known.
pub record Agrees (p : PlacedToken) (t : SpannedToken) : Type 0 where
  pub token : p.token ≡ t.token
  pub start : IfSome p.start (λ n. n ≡ t.start)
  pub end : IfSome p.end (λ n. n ≡ t.end)

-- They are the tokens of a cut, one by one.
abbrev pub AgreeWith : List PlacedToken → List SpannedToken → Type 0
AgreeWith [] [] = Unit {0}
AgreeWith [] (t ∷ cut) = ⊥
AgreeWith (p ∷ placed) [] = ⊥
AgreeWith (p ∷ placed) (t ∷ cut) = Agrees p t × AgreeWith placed cut

-- The source is cut into these tokens, and each has the offsets that are known. (A source has one
-- cut.)
abbrev pub ArePlacedIn : List ℕ → List PlacedToken → Type 0
ArePlacedIn source placed =
    (cut : List SpannedToken) × LexesToSpanned source cut × AgreeWith placed cut

-- ---- tokens of which no offset is known

abbrev pub unplaced : TokenValue → PlacedToken
unplaced t = record { token = t; start = None; end = None }

abbrev pub plain : List TokenValue → List PlacedToken
plain tokens = map unplaced tokens

abbrev pub placed_mark : Mark → List PlacedToken
placed_mark m = unplaced (Marked m) ∷ []

-- a reserved word
abbrev pub placed_word : List ℕ → List PlacedToken
placed_word text = unplaced (Word text) ∷ []

-- parts with commas between them
abbrev pub placed_separated : {A : Type 0} → (A → List PlacedToken) → List A → List PlacedToken
placed_separated placed [] = []
placed_separated placed (x ∷ xs) = placed x ++ flat_map (λ y. unplaced (Marked Comma) ∷ placed y) xs

abbrev pub placed_between : Mark → Mark → List PlacedToken → List PlacedToken
placed_between opening closing inside = unplaced (Marked opening) ∷ (inside ++ placed_mark closing)

-- ---- expressions

abbrev pub placed_name : Name → List PlacedToken
placed_name n =
    (record { token = Word n.text.now; start = Some n.span.start; end = Some n.span.end }) ∷ []

-- the first token starts here
abbrev pub starting_at : ℕ → List PlacedToken → List PlacedToken
starting_at n [] = []
starting_at n (t ∷ rest) = (record { token = t.token; start = Some n; end = t.end }) ∷ rest

-- the last token ends here
abbrev pub ending_at : ℕ → List PlacedToken → List PlacedToken
ending_at n [] = []
ending_at n (t ∷ []) = (record { token = t.token; start = t.start; end = Some n }) ∷ []
ending_at n (t ∷ (u ∷ rest)) = t ∷ ending_at n (u ∷ rest)

abbrev pub placed_literal : Literal → List PlacedToken
placed_literal l =
    starting_at l.span.start (ending_at l.span.end (plain (literal_toks (bare_literal l))))

abbrev pub placed_basic : Basic → List PlacedToken
placed_basic (basics.Lit l) = placed_literal l
placed_basic (basics.Named n) = placed_name n

abbrev pub placed_expr : Expr → List PlacedToken
placed_expr (exprs.One b) = placed_basic b
placed_expr (exprs.List bs) =
    placed_between OpenBracket CloseBracket (placed_separated placed_basic bs.items)

-- ---- annotations, a layer at a time: the parts of a layer are given as their tokens

abbrev pub placed_parts : List (List PlacedToken) → List PlacedToken
placed_parts parts = placed_separated (λ part. part) parts

abbrev pub placed_args : List (List PlacedToken) → List PlacedToken
placed_args [] = []
placed_args (first ∷ others) = placed_between OpenParen CloseParen (placed_parts (first ∷ others))

abbrev pub placed_arg_layer : NoteArg-F (List PlacedToken) (List PlacedToken) (List PlacedToken)
    → List PlacedToken
placed_arg_layer (NoteArg-F.One b) = b
placed_arg_layer (NoteArg-F.List bs) =
    placed_between OpenBracket CloseBracket (placed_parts bs.items)

abbrev pub placed_note_basic_layer : NoteBasic-F (List PlacedToken) (List PlacedToken)
    (List PlacedToken) → List PlacedToken
placed_note_basic_layer (NoteBasic-F.Lit l) = placed_literal l
placed_note_basic_layer (NoteBasic-F.Float text) = unplaced (FloatText text.now) ∷ []
placed_note_basic_layer (NoteBasic-F.Str text) = unplaced (StringText text.now) ∷ []
placed_note_basic_layer (NoteBasic-F.Inner n) = n

abbrev pub placed_note_layer : Note-F (List PlacedToken) (List PlacedToken) (List PlacedToken)
    → List PlacedToken
placed_note_layer x = placed_name x.name ++ placed_args x.args.items

abbrev pub placed_arg : NoteArg → List PlacedToken
placed_arg = fold-NoteArg (List PlacedToken) (List PlacedToken)
    (List PlacedToken) placed_arg_layer placed_note_basic_layer placed_note_layer

abbrev pub placed_note_basic : NoteBasic → List PlacedToken
placed_note_basic = fold-NoteBasic (List PlacedToken) (List PlacedToken)
    (List PlacedToken) placed_arg_layer placed_note_basic_layer placed_note_layer

abbrev pub placed_note : Note → List PlacedToken
placed_note = fold-Note (List PlacedToken) (List PlacedToken)
    (List PlacedToken) placed_arg_layer placed_note_basic_layer placed_note_layer

-- annotations, each after `::`
abbrev pub placed_notes : List Note → List PlacedToken
placed_notes notes = flat_map (λ n. unplaced (Marked ColonColon) ∷ placed_note n) notes

-- ---- types

abbrev pub placed_bounds : Option Literal → List PlacedToken
placed_bounds None = placed_word (codes "int")
placed_bounds (Some l) = placed_literal l

abbrev pub placed_base : Base → List PlacedToken
placed_base bases.Bool = placed_word (codes "bool")
placed_base (bases.Int bounds) = placed_bounds bounds
placed_base (bases.Set bounds) =
    placed_word (codes "set") ++ placed_word (codes "of") ++ placed_bounds bounds

-- ---- items

abbrev pub placed_param : Param → List PlacedToken
placed_param p = plain (param_prefix_toks (bare_indexes p.array)) ++ plain (var_toks p.is_var)
    ++ placed_base p.base ++ placed_mark Colon ++ placed_name p.name

abbrev pub placed_params : List Param → List PlacedToken
placed_params params = placed_between OpenParen CloseParen (placed_separated placed_param params)

abbrev pub placed_predicate : Predicate → List PlacedToken
placed_predicate p = placed_word (codes "predicate") ++ placed_name p.name
    ++ placed_params p.params.items ++ placed_mark Semicolon

abbrev pub placed_value : Option Expr → List PlacedToken
placed_value None = []
placed_value (Some e) = placed_mark Equals ++ placed_expr e

abbrev pub placed_decl : Decl → List PlacedToken
placed_decl d =
    plain (prefix_toks d.length) ++ plain (var_toks d.is_var) ++ placed_base d.base
    ++ placed_mark Colon ++ placed_name d.name ++ placed_notes d.notes.items
    ++ placed_value d.value ++ placed_mark Semicolon

abbrev pub placed_arguments : List Expr → List PlacedToken
placed_arguments args = placed_between OpenParen CloseParen (placed_separated placed_expr args)

abbrev pub placed_constraint : Constraint → List PlacedToken
placed_constraint c = placed_word (codes "constraint") ++ placed_name c.name
    ++ placed_arguments c.args.items ++ placed_notes c.notes.items ++ placed_mark Semicolon

abbrev pub placed_goal : Goal → List PlacedToken
placed_goal goals.Satisfy = placed_word (codes "satisfy")
placed_goal (goals.Minimize e) = placed_word (codes "minimize") ++ placed_basic e
placed_goal (goals.Maximize e) = placed_word (codes "maximize") ++ placed_basic e

abbrev pub placed_solve : Solve → List PlacedToken
placed_solve s = placed_word (codes "solve") ++ placed_notes s.notes.items ++ placed_goal s.goal
    ++ placed_mark Semicolon

-- of a whole tree
abbrev pub placed_tree : Ast → List PlacedToken
placed_tree a = flat_map placed_predicate a.predicates.items ++ flat_map placed_decl a.decls.items
    ++ flat_map placed_constraint a.constraints.items ++ placed_solve a.solve

-- ---- printed items

abbrev pub placed_indexes : List Literal → List PlacedToken
placed_indexes indexes = flat_map (λ l. placed_literal l ++ placed_mark Comma) indexes

abbrev pub placed_elements : List Literal → List PlacedToken
placed_elements elements =
    placed_between OpenBracket CloseBracket (placed_separated placed_literal elements)

abbrev pub placed_printed_value : PrintedValue → List PlacedToken
placed_printed_value (printed.One l) = placed_literal l
placed_printed_value (printed.Array indexes elements) =
    placed_word (array_word (length indexes.items)) ++ placed_between OpenParen CloseParen
    (placed_indexes indexes.items ++ placed_elements elements.items)

abbrev pub placed_printed : Printed → List PlacedToken
placed_printed p = placed_name p.name ++ placed_mark Equals ++ placed_printed_value p.value
    ++ placed_mark Semicolon

-- of printed items
abbrev pub placed_items : List Printed → List PlacedToken
placed_items items = flat_map placed_printed items
