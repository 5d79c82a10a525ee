-- What a lexed source lexes to, and that it is refused for no other reason.
use Rattle.std.proofs.Common.{◌≡◌, ℕ, ◌<◌, List, [], ◌∷◌, ◌++◌, length, refl, subst, arith}
use Rattle.std.specs.List.{AllByRecursion}
use Rattle.std.proofs.lemmas.List.{length-drop}
use Rattle.fz_tree.specs.Lexing.{SpannedToken, IsTokenWithinLimit, LexesWithin}
use Rattle.fz_tree.specs.Spanned.{IsLexicalFaultWithin, IsPlacedWithin, all_spanned, LexesWithinLimits, AreWithinLimit}
use Rattle.fz_tree.specs.Found.{IsLexed}
use Rattle.fz_tree.specs.declared.limits.Limits.{Limits}
use Rattle.fz_tree.specs.declared.token.Token.{Token}
use Rattle.fz_tree.specs.declared.error.SyntaxError.{SyntaxError}
use Rattle.fz_tree.specs.declared.error.SyntaxError.TheVariants.{TooLong, BadByte, TooLarge, Memory}
use Rattle.fz_tree.proofs.Laws.{longest_is_positive}
use Rattle.fz_tree.proofs.Cuts.{cut_once, cut_continues, no_cut_from, no_limit_from, cut_ordered}

pub all_right : {X : Type 0} (P : X → Type 0) (xs ys : List X) → AllByRecursion P (xs ++ ys)
    → AllByRecursion P ys
all_right P [] ys h = h
all_right P (x ∷ xs) ys h = all_right P xs ys h.1

pub only_tokens : (source : List ℕ) (T : List SpannedToken) → LexesWithinLimits source T
    → (tokens : List Token) → IsLexed source tokens → all_spanned tokens ≡ T
only_tokens source T h tokens l = cut_once l.0 h.lexes

pub only_fault : (limits : Limits) (source : List ℕ) (T : List SpannedToken)
    → LexesWithin limits source T → (e : SyntaxError) → IsLexicalFaultWithin limits source e
    → e ≡ Memory
only_fault limits source T h TooLong f = let s = h.short in absurd (omega arith)
only_fault limits source T h (BadByte span) f =
    let n = f.3 in
    let byte : span.start < length source = omega (arith, n.a_byte, length-drop span.start source) in
    let d = cut_continues f.1 h.lexes (omega arith) in
    absurd (no_cut_from d.cut byte n)
only_fault limits source T h (TooLarge span) f =
    let l = f.5 in
    let positive = longest_is_positive _ _ _ l in
    let byte : span.start < length source = omega (arith, l.within, positive, length-drop span.start source) in
    let d = cut_continues f.3 h.lexes (omega arith) in
    let all : AreWithinLimit (f.0 ++ d.rest) = subst AreWithinLimit d.is h.numbers in
    absurd (no_limit_from f.1 f.2 d.cut byte l f.6 (all_right (λ t. IsTokenWithinLimit t.token) f.0 d.rest all))
only_fault limits source T h Memory f = refl
only_fault limits source T h _ f = absurd f

pub fault_placed : (limits : Limits) (source : List ℕ) (e : SyntaxError)
    → IsLexicalFaultWithin limits source e → IsPlacedWithin (length source) e
fault_placed limits source TooLong f = tt
fault_placed limits source (BadByte span) f =
    let n = f.3 in
    (omega arith, omega (arith, n.a_byte, length-drop span.start source))
fault_placed limits source (TooLarge span) f =
    let l = f.5 in
    let positive = longest_is_positive _ _ _ l in
    (omega arith, omega (arith, l.within, positive, length-drop span.start source))
fault_placed limits source Memory f = tt
fault_placed limits source _ f = absurd f

-- what follows from the tokens that were found
pub ruleset of_tokens = (cut_ordered, only_tokens, only_fault, fault_placed)
