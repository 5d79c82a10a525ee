-- Reading parts one after another: the steps that a loop makes.
use Rattle.std.proofs.Common.{◌≡◌, ℕ, zero, suc, ◌+◌, ◌≤◌, ◌<◌, Bool, true, false, cond, List, [], ◌∷◌, ◌++◌, length, Ok, Err, refl, sym, ap, ◌∙◌, append_assoc, arith}
use Rattle.std.proofs.lemmas.List.{append-nil}
use Rattle.fz_tree.specs.Token.{TokenValue}
use Rattle.fz_syntax.specs.Reading.{Fault, Read, Reader, ◌>>=◌, next_passes, many_upto, many_at}

abbrev done : {A : Type 0} → A × List TokenValue → Read A
done x = Ok x

-- a part that is read takes a token at least
abbrev pub Shrinks : {A : Type 0} → (ℕ → Reader A) → Type 0
Shrinks {A} part = (i : ℕ) (tokens : List TokenValue) (x : A) (rest : List TokenValue) → part i tokens ≡ Ok (x, rest) → length rest < length tokens

bind_same : {A B : Type 0} (r : Read A) (f g : A × List TokenValue → Read B)
    → ((x : A × List TokenValue) → r ≡ Ok x → f x ≡ g x) → (r >>= f) ≡ (r >>= g)
bind_same (Ok x) f g h = h x refl
bind_same (Err e) f g h = refl

-- ---- how much room a reading is given makes no difference

abbrev pub put_first : {A : Type 0} → A → Read (List A) → Read (List A)
put_first x read = read >>= λ others. Ok (x ∷ others.0, others.1)

many_enough : {A : Type 0} (more : TokenValue → Bool) (part : ℕ → Reader A) → Shrinks part
    → (f g i : ℕ) (tokens : List TokenValue) → length tokens ≤ f → length tokens ≤ g
    → many_upto f more part i tokens ≡ many_upto g more part i tokens
unfolding many_upto
many_enough more part shrinks zero zero i tokens a b = refl
many_enough more part shrinks zero (suc g) i [] a b = refl
many_enough more part shrinks zero (suc g) i (t ∷ ts) a b = absurd (omega arith)
many_enough more part shrinks (suc f) zero i [] a b = refl
many_enough more part shrinks (suc f) zero i (t ∷ ts) a b = absurd (omega arith)
many_enough {A} more part shrinks (suc f) (suc g) i tokens a b =
    ap (λ (r : Read (List A)). cond (next_passes more tokens) r (Ok ([], tokens)))
    (bind_same (part i tokens) _ _ (λ x e. let less = shrinks i tokens x.0 x.1 e in ap (put_first x.0) (many_enough more part shrinks f g (i + 1) x.1 (omega arith) (omega arith))))

-- one more part, and the rest of them
pub many_step : {A : Type 0} (more : TokenValue → Bool) (part : ℕ → Reader A) → Shrinks part
    → (i : ℕ) (tokens : List TokenValue) (x : A) (rest : List TokenValue)
    → next_passes more tokens ≡ true → part i tokens ≡ Ok (x, rest)
    → many_at more part i tokens ≡ put_first x (many_at more part (i + 1) rest)
unfolding many_upto many_at
many_step more part shrinks i [] x rest wanted found = absurd cc
many_step more part shrinks i (t ∷ ts) x rest wanted found =
    let less = shrinks i (t ∷ ts) x rest found in
    rw (wanted, found) (ap (put_first x) (many_enough more part shrinks (length ts) (length rest) (i + 1) rest (omega arith) (omega arith)))

pub many_fails : {A : Type 0} (more : TokenValue → Bool) (part : ℕ → Reader A) (i : ℕ)
    (tokens : List TokenValue) (f : Fault) → next_passes more tokens ≡ true → part i tokens ≡ Err f
    → many_at more part i tokens ≡ Err f
unfolding many_upto many_at
many_fails more part i [] f wanted found = absurd cc
many_fails more part i (t ∷ ts) f wanted found = rw (wanted, found) refl

pub many_ends : {A : Type 0} (more : TokenValue → Bool) (part : ℕ → Reader A) (i : ℕ)
    (tokens : List TokenValue) → next_passes more tokens ≡ false
    → many_at more part i tokens ≡ Ok ([], tokens)
unfolding many_upto many_at
many_ends more part i [] wanted = refl
many_ends more part i (t ∷ ts) wanted = rw wanted refl

-- ---- the same in a loop, with what was read before in front

abbrev pub with_front : {A : Type 0} → List A → Read (List A) → Read (List A)
with_front front read = read >>= λ x. Ok (front ++ x.0, x.1)

pub regroup : {A : Type 0} (front : List A) (x : A) (read : Read (List A))
    → with_front front (put_first x read) ≡ with_front (front ++ x ∷ []) read
regroup front x (Ok y) = ap (λ xs. Ok (xs, y.1)) (simp append_assoc)
regroup front x (Err f) = refl

pub loop_step : {A : Type 0} (more : TokenValue → Bool) (part : ℕ → Reader A) → Shrinks part
    → (front : List A) (i : ℕ) (tokens : List TokenValue) (x : A) (rest : List TokenValue)
    (all : Read (List A)) → next_passes more tokens ≡ true → part i tokens ≡ Ok (x, rest)
    → with_front front (many_at more part i tokens) ≡ all → with_front (front ++ x ∷ []) (many_at more part (i + 1) rest) ≡ all
loop_step more part shrinks front i tokens x rest all wanted found so_far =
    sym (regroup front x (many_at more part (i + 1) rest)) ∙ ap (with_front front) (sym (many_step more part shrinks i tokens x rest wanted found)) ∙ so_far

pub loop_fails : {A : Type 0} (more : TokenValue → Bool) (part : ℕ → Reader A) (front : List A)
    (i : ℕ) (tokens : List TokenValue) (f : Fault) (all : Read (List A))
    → next_passes more tokens ≡ true → part i tokens ≡ Err f
    → with_front front (many_at more part i tokens) ≡ all → all ≡ Err f
loop_fails more part front i tokens f all wanted found so_far = sym so_far ∙ ap (with_front front) (many_fails more part i tokens f wanted found)

pub loop_ends : {A : Type 0} (more : TokenValue → Bool) (part : ℕ → Reader A) (front : List A)
    (i : ℕ) (tokens : List TokenValue) (all : Read (List A)) → next_passes more tokens ≡ false
    → with_front front (many_at more part i tokens) ≡ all → all ≡ Ok (front, tokens)
loop_ends more part front i tokens all wanted so_far =
    sym so_far ∙ ap (with_front front) (many_ends more part i tokens wanted) ∙ ap (λ xs. Ok (xs, tokens)) (append-nil front)
