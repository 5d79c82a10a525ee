-- The items of a model as they are offered, one after another, each kind in its turn. A reader need
-- believe only what is above `Part`. The rest says what is left to be offered:
-- `PredicateItems::new` promises that what is left then is all of the text, each call that with the
-- item that it offers what is left behind it was left before, and the last one that nothing is
-- left.
use Rattle.std.specs.Prelude.{◌≡◌, ◌<◌, ◌≤◌, ℕ, List, [], ◌∷◌, ◌++◌, map, length, codes, Bool, None, Result, Ok, Err}
use Rattle.std.specs.List.{flat_map}
use Rattle.fz_tree.specs.Spanned.{IsLexicalFaultWithin, IsPlacedWithin}
use Rattle.fz_tree.specs.Lexing.{LexesWithin, SpannedToken}
use Rattle.fz_tree.specs.declared.limits.Limits.{Limits}
use Rattle.fz_syntax.specs.Outcome.{IsErrorOf}
use Rattle.fz_syntax.specs.declared.parser.refusal.Refusal.{Refusal}
use Rattle.fz_tree.specs.Ahead.{tokens_ahead}
use Rattle.fz_tree.specs.Left.{source_of}
use Rattle.fz_tree.specs.Token.{TokenValue}
use Rattle.fz_tree.specs.declared.error.SyntaxError.{SyntaxError}
use Rattle.fz_tree.specs.declared.error.SyntaxError.TheVariants.{Memory}
use Rattle.fz_tree.specs.Tree as tree
use Rattle.fz_syntax.specs.declared.parser.cursor.Parser.{Parser}
use Rattle.fz_syntax.specs.declared.reader.Offer.{Offer}
use Rattle.fz_syntax.specs.declared.reader.Offer.TheVariants.{Item, End}
use Rattle.fz_syntax.specs.declared.reader.Rest.{Rest}
use Rattle.fz_tree.specs.declared.tree.Predicate.{Predicate}
use Rattle.fz_tree.specs.declared.tree.Decl.{Decl}
use Rattle.fz_tree.specs.declared.tree.Constraint.{Constraint}
use Rattle.fz_tree.specs.declared.tree.Solve.{Solve}
use Rattle.fz_tree.specs.View.{TreeItems, bare_all, bare_predicate, bare_decl, bare_constraint, bare_solve}
use Rattle.fz_syntax.specs.Placed.{PlacedToken, ArePlacedIn, placed_predicate, placed_decl, placed_constraint, placed_solve}
use Rattle.fz_tree.specs.Text.{IsTextOfTreeWithin}
use Rattle.fz_syntax.specs.Spots.{Stand, spots_from}
use Rattle.fz_syntax.specs.Reading.{Fault, Read, Reader, ◌>>=◌, many_at, any_number, is_word, begins_decl, predicate_at, decl_at, constraint_at, solve_at, whole}
use Rattle.fz_tree.specs.Refusals.{IsRefusalWithin}
use Rattle.fz_syntax.specs.Walk.{ahead, lexemes, Walk}

abbrev pub placed_all : TreeItems → List PlacedToken
placed_all t = flat_map placed_predicate t.predicates ++ flat_map placed_decl t.decls
    ++ flat_map placed_constraint t.constraints ++ placed_solve t.solve

-- The source is a text of these items, and they have the byte ranges of their tokens, so the names
-- and literals follow one another.
pub record IsTextOfAllWithin (limits : Limits) (source : List ℕ) (t : TreeItems) : Type 0 where
  pub text : IsTextOfTreeWithin limits source (bare_all t)
  pub placed : ArePlacedIn source (placed_all t)
  pub stands : Stand source 0 (length source) (spots_from None (placed_all t))

-- The source is a text of no tree within the limits, unless memory ran out, and the fault is the
-- first in the order of faults.
pub record IsRefusedWithin (limits : Limits) (source : List ℕ) (e : SyntaxError) : Type 0 where
  pub no_tree : (t : tree.Tree) → IsTextOfTreeWithin limits source t → e ≡ Memory
  pub order : IsRefusalWithin limits source e
  pub place : IsPlacedWithin (length source) e

-- The grammar refused a token, and this is the error given: a fault of the lexer, or else one of
-- the grammar, at some byte range.
pub data IsRefusedBy (limits : Limits) (source : List ℕ) (reason : Refusal)
    (e : SyntaxError) : Type 0 where
  by_lexer : IsLexicalFaultWithin limits source e → ((tokens : List SpannedToken)
      → LexesWithin limits source tokens → ⊥) → IsPlacedWithin (length source) e
      → IsRefusedBy limits source reason e
  by_grammar : LexesWithin limits source (tokens_ahead source 0) → IsErrorOf reason e
      → IsPlacedWithin (length source) e → IsRefusedBy limits source reason e

-- ---- what is left

-- The last part of a text: how its tokens are read under limits, what they are read as, and the
-- tokens of its items.
pub record Part (R B : Type 0) : Type 0 where
  pub read : Limits → Reader B
  pub bare : R → B
  pub placed : R → List PlacedToken

-- what is read, with its value changed
abbrev pub changed : {A B : Type 0} → (A → B) → Read A → Read B
changed f read = read >>= λ r. Ok (f r.0, r.1)

-- The items of a kind: which token begins one, how it is read, what it is read as, and its tokens.
pub record Kind (X A : Type 0) : Type 0 where
  pub begins : TokenValue → Bool
  pub read : Limits → Reader A
  pub bare : X → A
  pub placed : X → List PlacedToken

-- items of a kind, as long as a token begins one, and the part behind them
abbrev pub kind_before : {X A R B : Type 0} → Kind X A → Part R B → Part (List X × R) (List A × B)
kind_before kind behind = record {
  read = λ limits tokens. many_at kind.begins (any_number (kind.read limits)) 0 tokens >>= λ xs.
      changed (λ r. (xs.0, r)) (behind.read limits xs.1);
  bare = λ r. (map kind.bare r.0, behind.bare r.1);
  placed = λ r. flat_map kind.placed r.0 ++ behind.placed r.1;
}

abbrev pub predicate_kind : Kind Predicate tree.Predicate
predicate_kind = record {
  begins = is_word (codes "predicate");
  read = predicate_at;
  bare = bare_predicate;
  placed = placed_predicate;
}

abbrev pub decl_kind : Kind Decl tree.Decl
decl_kind = record {
  begins = begins_decl;
  read = decl_at;
  bare = bare_decl;
  placed = placed_decl;
}

abbrev pub constraint_kind : Kind Constraint tree.Constraint
constraint_kind = record {
  begins = is_word (codes "constraint");
  read = constraint_at;
  bare = bare_constraint;
  placed = placed_constraint;
}

abbrev pub from_solve : Part Solve tree.Solve
from_solve = record { read = solve_at; bare = bare_solve; placed = placed_solve }

abbrev pub from_constraints : Part (List Constraint × Solve) (List tree.Constraint × tree.Solve)
from_constraints = kind_before constraint_kind from_solve

abbrev pub from_decls : Part (List Decl × (List Constraint × Solve))
    (List tree.Decl × (List tree.Constraint × tree.Solve))
from_decls = kind_before decl_kind from_constraints

abbrev pub from_predicates : Part (List Predicate × (List Decl × (List Constraint × Solve)))
    (List tree.Predicate × (List tree.Decl × (List tree.Constraint × tree.Solve)))
from_predicates = kind_before predicate_kind from_decls

-- what is left at the beginning, as the items of a tree
abbrev pub all_items : List Predicate × (List Decl × (List Constraint × Solve)) → TreeItems
all_items r = record {
  predicates = r.0;
  decls = r.1.0;
  constraints = r.1.1.0;
  solve = r.1.1.1;
}

-- The tokens from here to the end of the source are those of these items, and the source lexes.
pub record IsLeft {R B : Type 0} (part : Part R B) (i : Rest) (r : R) : Type 0 where
  pub lexed : LexesWithin i.limits i.source.now (tokens_ahead i.source.now 0)
  pub read : part.read i.limits (lexemes i.parser) ≡ Ok (part.bare r, [])
  pub last : Parser
  pub walked : Walk i.parser last (part.placed r)
  pub ended : ahead last ≡ []

-- The parser is in the source, which is a text of no tree if the last part of it can't be read.
pub record IsWithin {R B : Type 0} (part : Part R B) (i : Rest) : Type 0 where
  pub short : length i.source.now ≤ i.limits.bytes
  pub of_source : source_of i.parser.tokens ≡ i.source.now
  pub ends : i.parser.end ≡ length i.source.now
  pub no_tree : (f : Fault) → whole (part.read i.limits (lexemes i.parser)) ≡ Err f
      → (t : tree.Tree) → IsTextOfTreeWithin i.limits i.source.now t → ⊥

-- Two states of a reader, of the same source under the same limits: any items that are left in the
-- new one were left in the old one, together with those that were taken in between.
pub record Leaves {R B Q C : Type 0} (before : Part R B) (after : Part Q C) (all : Q → R)
    (old new : Rest) : Type 0 where
  pub same : new.source.now ≡ old.source.now
  pub same_limits : new.limits ≡ old.limits
  pub all_left : (r : Q) → IsLeft after new r → IsLeft before old (all r)

-- These items were taken, and more of their kind may be left.
abbrev pub Took : {X A R B : Type 0} → Part (List X × R) (List A × B) → List X → Rest → Rest
    → Type 0
Took part xs old new = Leaves part part (λ r. (xs ++ r.0, r.1)) old new

-- These are all items of their kind.
abbrev pub TookAll : {X A R B : Type 0} → Part (List X × R) (List A × B) → Part R B → List X
    → Rest → Rest → Type 0
TookAll part behind xs old new = Leaves part behind (λ r. (xs, r)) old new

-- how many tokens are left
abbrev pub left_of : Rest → ℕ
left_of i = length (lexemes i.parser)

-- One item was taken.
abbrev pub TookOne : {X A R B : Type 0} → Part (List X × R) (List A × B) → X → Rest → Rest → Type 0
TookOne part x old new = Took part (x ∷ []) old new × (left_of new < left_of old)

-- The source is refused.
abbrev pub IsRefusedAt : Rest → SyntaxError → Type 0
IsRefusedAt i e = IsRefusedWithin i.limits i.source.now e

-- An item is offered, or there are no more of its kind, or the source is refused.
abbrev pub Offers : {X S T : Type 0} → Rest → (X → S → Type 0) → (T → Type 0)
    → Result (Offer X S T) SyntaxError → Type 0
Offers i one none (Ok (Item x more)) = one x more
Offers i one none (Ok (End behind)) = none behind
Offers i one none (Err e) = IsRefusedAt i e
