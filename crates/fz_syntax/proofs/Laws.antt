-- How the laws of a production follow from those of its parts: what is read is spelled so, and what
-- is spelled so is read again.
use Rattle.std.proofs.Common.{◌≡◌, ℕ, Bool, true, false, cond, eqb, List, [], ◌∷◌, ◌++◌, drop, Ok, Err, refl, sym, ap, subst, append_assoc, ◌∙◌}
use Rattle.std.proofs.lemmas.Bool.{eqb-true, eq-eqb}
use Rattle.std.proofs.lemmas.Slice.Eq.{bytes_eq-Decides}
use Rattle.fz_tree.specs.declared.token.Mark.{Mark}
use Rattle.fz_tree.specs.declared.token.Mark.TheVariants.{OpenParen, CloseParen, OpenBracket, CloseBracket, OpenBrace, CloseBrace, Comma, Semicolon, Colon, ColonColon, Equals, DotDot}
use Rattle.fz_tree.specs.Token.{TokenValue, Word, Marked}
use Rattle.fz_tree.specs.Tokens.{mark, word}
use Rattle.fz_syntax.specs.Reading.{mark_number, next_word, word_at, Fault, Read, Reader, ◌>>=◌, is_mark, next_is, mark_at}

-- what a reader took from the front
pub record Took {A : Type 0} (toks : A → List TokenValue) (Is : A → Type 0)
    (tokens : List TokenValue) (x : A × List TokenValue) : Type 0 where
  pub parts : tokens ≡ toks x.0 ++ x.1
  pub fits : Is x.0

abbrev pub Takes : {A : Type 0} → (A → List TokenValue) → (A → Type 0) → Reader A → Type 0
Takes {A} toks Is read =
    (tokens : List TokenValue) (x : A × List TokenValue) → read tokens ≡ Ok x
    → Took toks Is tokens x

-- tokens and those behind them
pub record Split (tokens front left : List TokenValue) : Type 0 where
  pub is : tokens ≡ front ++ left

-- and further ones
infixl 10 ◌⟫◌
pub ◌⟫◌ : {tokens front left more rest : List TokenValue} → Split tokens front left
    → Split left more rest → Split tokens (front ++ more) rest
◌⟫◌ {front = front} {more = more} {rest = rest} s t = record {
  is = s.is ∙ ap (λ (ts : List TokenValue). front ++ ts) t.is ∙ sym (append_assoc front more rest);
}

-- A first part that was read, and what the reading goes on with behind it.
pub record Step {A B : Type 0} (toks : A → List TokenValue) (Is : A → Type 0)
    (tokens : List TokenValue) (f : A × List TokenValue → Read B) (y : B × List TokenValue)
    : Type 0 where
  pub value : A
  pub left : List TokenValue
  pub parts : Split tokens (toks value) left
  pub fits : Is value
  pub on : f (value, left) ≡ Ok y

-- ---- what is read is spelled so

-- the first part of a sequence
pub step : {A B : Type 0} {toks : A → List TokenValue} {Is : A → Type 0}
    {tokens : List TokenValue} {read : Read A} (f : A × List TokenValue → Read B)
    {y : B × List TokenValue}
    → ((x : A × List TokenValue) → read ≡ Ok x → Took toks Is tokens x)
    → (read >>= f) ≡ Ok y → Step toks Is tokens f y
step {read = Ok x} f takes e =
    let t = takes x refl in
    record { value = x.0; left = x.1; parts = record { is = t.parts }; fits = t.fits; on = e }
step {read = Err d} f takes e = absurd cc

-- The same, with the rest of the proof behind it: in a long sequence its parts stay variables.
pub next : {A B R : Type 0} {toks : A → List TokenValue} {Is : A → Type 0}
    {tokens : List TokenValue} {read : Read A} (f : A × List TokenValue → Read B)
    {y : B × List TokenValue}
    → ((x : A × List TokenValue) → read ≡ Ok x → Took toks Is tokens x)
    → (read >>= f) ≡ Ok y → (Step toks Is tokens f y → R) → R
next f takes e behind = behind (step f takes e)

abbrev done : {A : Type 0} → A × List TokenValue → Read A
done x = Ok x

abbrev refusal : {A : Type 0} → Fault → Read A
refusal f = Err f

-- the end of a sequence
pub made : {A : Type 0} {toks : A → List TokenValue} {Is : A → Type 0} {tokens : List TokenValue}
    {x y : A × List TokenValue} → done x ≡ done y → Split tokens (toks x.0) x.1 → Is x.0
    → Took toks Is tokens y
made {A} {toks} {Is} {tokens} {x} {y} e parts fits =
    let same : x ≡ y = cc in
    subst (Took toks Is tokens) same (record { parts = parts.is; fits = fits })

-- which way a test went
pub choose : {A R : Type 0} (b : Bool) (x y : Read A) {z : Read A} → cond b x y ≡ z
    → (b ≡ true → x ≡ z → R) → (b ≡ false → y ≡ z → R) → R
choose true x y e then_so else_so = then_so refl e
choose false x y e then_so else_so = else_so refl e

-- what is refused isn't read
pub refused : {A R : Type 0} {f : Fault} {z : A × List TokenValue} → refusal f ≡ done z → R
refused e = absurd cc

-- ---- one token

mark_of : ℕ → Mark
mark_of n = cond (eqb n 0) OpenParen (cond (eqb n 1) CloseParen (cond (eqb n 2) OpenBracket
    (cond (eqb n 3) CloseBracket (cond (eqb n 4) OpenBrace (cond (eqb n 5) CloseBrace
    (cond (eqb n 6) Comma (cond (eqb n 7) Semicolon (cond (eqb n 8) Colon
    (cond (eqb n 9) ColonColon (cond (eqb n 10) Equals DotDot))))))))))

mark_of-mark_number : (m : Mark) → mark_of (mark_number m) ≡ m
unfolding mark_of
mark_of-mark_number OpenParen = refl
mark_of-mark_number _ = refl

pub same_mark : (m n : Mark) → is_mark m (Marked n) ≡ true → m ≡ n
same_mark m n e =
    sym (mark_of-mark_number m) ∙ ap mark_of (eqb-true (mark_number m) (mark_number n) e)
    ∙ mark_of-mark_number n

-- tokens whose first is this mark
pub marked_tokens : (m : Mark) (tokens : List TokenValue) → next_is m tokens ≡ true
    → tokens ≡ Marked m ∷ drop 1 tokens
marked_tokens m [] e = absurd cc
marked_tokens m (Marked n ∷ rest) e = ap (λ k. Marked k ∷ rest) (sym (same_mark m n e))
marked_tokens m (_ ∷ rest) e = absurd cc

-- tokens whose first is this word
pub worded_tokens : (text : List ℕ) (tokens : List TokenValue) → next_word text tokens ≡ true
    → tokens ≡ Word text ∷ drop 1 tokens
worded_tokens text [] e = absurd cc
worded_tokens text (Word w ∷ rest) e = ap (λ k. Word k ∷ rest) ((bytes_eq-Decides w text).0 e)
worded_tokens text (_ ∷ rest) e = absurd cc

pub marked : {m : Mark} {tokens : List TokenValue} → next_is m tokens ≡ true
    → Split tokens (mark m) (drop 1 tokens)
marked e = record { is = marked_tokens _ _ e }

pub worded : {text : List ℕ} {tokens : List TokenValue} → next_word text tokens ≡ true
    → Split tokens (word text) (drop 1 tokens)
worded e = record { is = worded_tokens _ _ e }

-- the first token was read, or none
pub first : {t : TokenValue} {ts : List TokenValue} → Split (t ∷ ts) (t ∷ []) ts
first = record { is = refl }

pub none : {tokens : List TokenValue} → Split tokens [] tokens
none = record { is = refl }

-- a reading of which only the value is changed
pub split_of : {A : Type 0} {toks : A → List TokenValue} {Is : A → Type 0}
    {tokens : List TokenValue} {x : A × List TokenValue} → Took toks Is tokens x
    → Split tokens (toks x.0) x.1
split_of t = record { is = t.parts }

abbrev pub Always : {A : Type 0} → A → Type 0
Always x = Unit {0}

pub mark_takes : (m : Mark) → Takes (λ _. Marked m ∷ []) Always (mark_at m)
unfolding mark_at
mark_takes m tokens x e = choose (next_is m tokens) _ _ e
    (λ is f. made f (marked is) tt) (λ is f. refused f)

pub mark_again : (m : Mark) (rest : List TokenValue) → mark_at m (Marked m ∷ rest) ≡ Ok (tt, rest)
unfolding mark_at
mark_again m rest =
    let same : eqb (mark_number m) (mark_number m) ≡ true = eq-eqb _ _ refl in rw same refl

pub word_takes : (text : List ℕ) → Takes (λ _. Word text ∷ []) Always (word_at text)
unfolding word_at
word_takes text tokens x e = choose (next_word text tokens) _ _ e
    (λ is f. made f (worded is) tt) (λ is f. refused f)
