-- Used only by private functions: a reader of the contracts need not believe this file. How what a
-- method of the parser returned agrees with what the definitions in Reading give.
use Rattle.std.specs.Prelude.{◌≡◌, List, ◌∷◌, Result, Ok, Err}
use Rattle.fz_tree.specs.declared.error.SyntaxError.{SyntaxError}
use Rattle.fz_tree.specs.declared.error.SyntaxError.TheVariants as errors
use Rattle.fz_syntax.specs.declared.parser.refusal.Refusal.{Refusal}
use Rattle.fz_syntax.specs.declared.parser.refusal.Refusal.TheVariants as refusals
use Rattle.fz_syntax.specs.declared.parser.cursor.Parser.{Parser}
use Rattle.fz_syntax.specs.declared.parser.kinds.Plain.{Plain}
use Rattle.fz_syntax.specs.declared.parser.kinds.Plain.TheVariants as plains
use Rattle.fz_tree.specs.Token.{TokenValue, Word, Whole, Marked}
use Rattle.fz_tree.specs.declared.token.Mark.TheVariants.{Comma}
use Rattle.fz_tree.specs.declared.tree.LiteralKind.{LiteralKind}
use Rattle.fz_tree.specs.declared.tree.LiteralKind.TheVariants as literals
use Rattle.fz_tree.specs.Tree.{Literal, Number, Truth}
use Rattle.fz_tree.specs.Tokens.{truth_word}
use Rattle.fz_syntax.specs.Reading.{Fault, Reader}
use Rattle.fz_syntax.specs.Walk.{lexemes}

-- an error that the lexer doesn't find
abbrev pub IsFault : SyntaxError → Type 0
IsFault errors.TooLong = ⊥
IsFault (errors.BadByte place) = ⊥
IsFault (errors.TooLarge place) = ⊥
IsFault _ = Unit {0}

-- an error that is given for a refusal
abbrev pub IsErrorOf : Refusal → SyntaxError → Type 0
IsErrorOf refusals.Memory e = e ≡ errors.Memory
IsErrorOf _ e = IsFault e

-- A refusal: reading fails, unless memory ran out.
abbrev pub Fails : {A : Type 0} → Refusal → Result A Fault → Type 0
Fails refusals.Memory read = Unit {0}
Fails _ read = read ≡ Err tt

-- Between the two states of the parser, a result, as plain data by `view`, and the tokens that are
-- left are what reading gives, unless memory ran out.
abbrev pub Gives : {X A : Type 0} → Parser → Parser → Result X Refusal → (X → A) → Reader A
    → Type 0
Gives p q (Ok x) view read = read (lexemes p) ≡ Ok (view x, lexemes q)
Gives p q (Err e) view read = Fails e (read (lexemes p))

-- A result is what reading all of the tokens gives, unless memory ran out.
abbrev pub IsWhole : {X A : Type 0} → (X → A) → Result X SyntaxError → Result A Fault → Type 0
IsWhole view (Ok x) read = read ≡ Ok (view x)
IsWhole view (Err errors.Memory) read = Unit {0}
IsWhole view (Err e) read = IsFault e × (read ≡ Err tt)

-- the token of a literal of one token
abbrev pub plain_token : Plain → TokenValue
plain_token (plains.Whole z) = Whole z
plain_token (plains.Truth b) = Word (truth_word b)

-- and the kind of that literal
abbrev pub plain_kind : Plain → LiteralKind
plain_kind (plains.Whole z) = literals.Whole z
plain_kind (plains.Truth b) = literals.Truth b

-- the literal is the first token, a comma is the second, and the other tokens follow
abbrev pub IsListed : Literal → List TokenValue → List TokenValue → Type 0
IsListed (Number z) before after = before ≡ Whole z ∷ (Marked Comma ∷ after)
IsListed (Truth b) before after = before ≡ Word (truth_word b) ∷ (Marked Comma ∷ after)
IsListed _ before after = ⊥
