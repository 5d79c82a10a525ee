-- All of the tokens: what is read of them is of the grammar, spelled by them, and only that.
use Rattle.std.proofs.Common.{ℕ, ◌≡◌, ◌∙◌, ◌<◌, List, [], ◌∷◌, length, Result, Ok, Err, ap, arith}
use Rattle.std.proofs.lemmas.List.{append-nil}
use Rattle.fz_tree.specs.declared.error.SyntaxError.{SyntaxError}
use Rattle.fz_tree.specs.declared.error.SyntaxError.TheVariants as errors
use Rattle.fz_syntax.specs.declared.parser.refusal.Refusal.{Refusal}
use Rattle.fz_syntax.specs.declared.parser.refusal.Refusal.TheVariants as refusals
use Rattle.fz_tree.specs.Token.{TokenValue}
use Rattle.fz_syntax.specs.Reading.{Fault, Read, Reader, ended, whole}
use Rattle.fz_syntax.specs.Outcome.{IsWhole, IsErrorOf, Fails}
use Rattle.fz_tree.specs.Lexing.{SpannedToken, LexesWithin}
use Rattle.fz_tree.specs.Spanned.{IsLexicalFaultWithin}
use Rattle.fz_tree.specs.declared.limits.Limits.{Limits}
use Rattle.fz_tree.specs.Refusals.{IsValue, IsRefusalWithin}
use Rattle.fz_syntax.proofs.Laws.{Takes}
use Rattle.fz_syntax.proofs.Separated.{fails_from}

-- what is refused is a fault
pub refused_so : {X A : Type 0} (view : X → A) (r : Refusal) (e : SyntaxError) (read : Result A Fault)
    → Fails r read → IsErrorOf r e → IsWhole view (Err e) read
refused_so view refusals.Memory e read h of = rw of tt
refused_so view _ errors.Memory read h of = tt
refused_so view _ _ read h of = (of, h)

-- tokens behind what was read are refused
pub refused_more : {X A : Type 0} (view : X → A) (r : Refusal) (e : SyntaxError) (read : Reader A)
    (tokens left : List TokenValue) (x : A) → read tokens ≡ Ok (x, left) → 0 < length left
    → IsErrorOf r e → IsWhole view (Err e) (whole (read tokens))
unfolding ended
refused_more view r e read tokens [] x found some of = absurd (omega arith)
refused_more view r e read tokens (t ∷ rest) x found some of =
    refused_so view r e (whole (read tokens)) (fails_from r (whole (read tokens)) (ap whole found)) of

ends_whole : {A : Type 0} (r : Read A) (x : A) → whole r ≡ Ok x → r ≡ Ok (x, [])
unfolding ended
ends_whole {A} (Ok (y, [])) x e = let same : y ≡ x = cc in ap (λ (z : A). Ok (z, [])) same
ends_whole _ x e = absurd cc

-- what is read of all of the tokens is of the grammar within the limits, and these are its tokens
pub is_found : {A : Type 0} (toks : A → List TokenValue) (Is : A → Type 0) (read : Reader A)
    → Takes toks Is read → (tokens : List TokenValue) (x : A) → whole (read tokens) ≡ Ok x
    → Is x × (tokens ≡ toks x)
is_found toks Is read takes tokens x e =
    let t = takes tokens (x, []) (ends_whole (read tokens) x e) in
    (t.fits, t.parts ∙ append-nil (toks x))

value_of : {X A : Type 0} (view : X → A) (result : Result X SyntaxError) (read : Result A Fault)
    (m : A) → IsWhole view result read → read ≡ Ok m → IsValue view result m
value_of view (Ok x) read m e f = let same : view x ≡ m = cc in same
value_of view (Err errors.Memory) read m h f = tt
value_of view (Err _) read m h f = let fails = h.1 in absurd cc

-- what is of the grammar within the limits and has these tokens is what is given
pub only_of : {X A : Type 0} (view : X → A) (toks : A → List TokenValue) (Is : A → Type 0)
    (read : Reader A) → ((x : A) → Is x → whole (read (toks x)) ≡ Ok x)
    → (result : Result X SyntaxError) (tokens : List TokenValue) → IsWhole view result (whole (read tokens)) → (x : A) → Is x → tokens ≡ toks x → IsValue view result x
only_of view toks Is read again result tokens h x is e = value_of view result (whole (read tokens)) x h (ap (λ ts. whole (read ts)) e ∙ again x is)

-- the grammar finds its own faults alone, and here the source lexes
pub grammar_refuses : {X A : Type 0} (view : X → A) (limits : Limits) (source : List ℕ)
    (e : SyntaxError) (read : Result A Fault) (tokens : List SpannedToken)
    → LexesWithin limits source tokens → IsWhole view (Err e) read
    → IsRefusalWithin limits source e
grammar_refuses view limits source errors.Memory read tokens lexed h = tt
grammar_refuses view limits source errors.TooLong read tokens lexed h = absurd h.0
grammar_refuses view limits source (errors.BadByte p) read tokens lexed h = absurd h.0
grammar_refuses view limits source (errors.TooLarge p) read tokens lexed h = absurd h.0
grammar_refuses view limits source _ read tokens lexed h = (tokens, lexed)

-- the lexer finds its own
pub lexer_refuses : (limits : Limits) (source : List ℕ) (e : SyntaxError)
    → IsLexicalFaultWithin limits source e → IsRefusalWithin limits source e
lexer_refuses limits source errors.Memory f = tt
lexer_refuses limits source errors.TooLong f = f
lexer_refuses limits source (errors.BadByte p) f = f
lexer_refuses limits source (errors.TooLarge p) f = f
lexer_refuses limits source _ f = absurd f
