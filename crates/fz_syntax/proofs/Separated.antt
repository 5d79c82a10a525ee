-- The steps of a loop over elements with commas between them, and of one over parts that each begin
-- with a mark.
use Rattle.std.proofs.Common.{◌≡◌, ℕ, cond, List, [], ◌∷◌, drop, Result, Ok, Err, refl, ap, arith, length-drop}
use Rattle.fz_syntax.specs.declared.parser.refusal.Refusal.{Refusal}
use Rattle.fz_syntax.specs.declared.parser.refusal.Refusal.TheVariants as refusals
use Rattle.fz_tree.specs.declared.token.Mark.{Mark}
use Rattle.fz_tree.specs.declared.token.Mark.TheVariants.{Comma}
use Rattle.fz_tree.specs.Token.{TokenValue}
use Rattle.fz_syntax.specs.Reading.{Fault, Read, Reader, ◌>>=◌, is_mark, next_is, many_at, after_token, separated_at}
use Rattle.fz_syntax.specs.Outcome.{Fails}
use Rattle.fz_syntax.proofs.Lists.{Shrinks, with_front}

-- any refusal, where reading fails
pub fails_from : {A : Type 0} (e : Refusal) (read : Result A Fault) → read ≡ Err tt → Fails e read
fails_from refusals.Memory read h = tt
fails_from _ read h = h

-- two readings that fail alike
pub fails_like : {A B : Type 0} (e : Refusal) (read : Result A Fault) (all : Result B Fault)
    → (read ≡ Err tt → all ≡ Err tt) → Fails e read → Fails e all
fails_like refusals.Memory read all like h = tt
fails_like _ read all like h = like h

-- what fails at its first step fails
pub fails_bind : {A B : Type 0} (e : Refusal) (read : Read A) (f : A × List TokenValue → Read B)
    → Fails e read → Fails e (read >>= f)
fails_bind e read f h = fails_like e read (read >>= f) (λ k. ap (λ r. r >>= f) k) h

pub Shrinks-after_token : {A : Type 0} (part : ℕ → Reader A) → Shrinks part
    → Shrinks (after_token part)
Shrinks-after_token part shrinks i tokens x rest found = let less = shrinks i (drop 1 tokens) x rest found in omega (arith, length-drop 1 tokens)

-- a loop's tokens before and after it took the mark
abbrev pub Taken : Mark → List TokenValue → List TokenValue → Type 0
Taken m before after = after ≡ cond (next_is m before) (drop 1 before) before

-- the first element was read
pub separated_starts : {A : Type 0} (element : ℕ → Reader A) (tokens : List TokenValue) (x : A)
    (rest : List TokenValue) → element 0 tokens ≡ Ok (x, rest)
    → with_front (x ∷ []) (many_at (is_mark Comma) (after_token element) 1 rest) ≡ separated_at element tokens
unfolding separated_at
separated_starts element tokens x rest found = rw found refl

pub separated_fails : {A : Type 0} (e : Refusal) (element : ℕ → Reader A)
    (tokens : List TokenValue) → Fails e (element 0 tokens) → Fails e (separated_at element tokens)
unfolding separated_at
separated_fails e element tokens h = fails_bind e (element 0 tokens) _ h
