-- The loop invariant over an array's index sets.
use Rattle.std.proofs.Common.{◌≡◌, ℕ, zero, suc, List, [], ◌∷◌, ◌++◌, Ok, Err, refl, sym, ap, subst, ◌∙◌}
use Rattle.std.proofs.lemmas.List.{append-nil}
use Rattle.fz_tree.specs.Token.{TokenValue}
use Rattle.fz_syntax.specs.declared.parser.refusal.Refusal.{Refusal}
use Rattle.fz_tree.specs.Tree.{Literal}
use Rattle.fz_tree.specs.declared.limits.Limits.{Limits}
use Rattle.fz_syntax.specs.Reading.{Fault, Read}
use Rattle.fz_syntax.specs.ReadingItems.{index_set_at, index_sets_at}
use Rattle.fz_syntax.specs.Outcome.{Fails}
use Rattle.fz_syntax.proofs.Lists.{with_front, put_first, regroup}
use Rattle.fz_syntax.proofs.Separated.{fails_like}
use Rattle.fz_syntax.proofs.Running.{front_of_none}

-- The index sets so far, followed by so many that are still to be read, are all of them.
pub record Counts (limits : Limits) (left : ℕ) (front : List Literal) (tokens : List TokenValue) (all : Read (List Literal)) : Type 0 where
  pub so_far : with_front front (index_sets_at limits left tokens) ≡ all

pub counts_begin : (limits : Limits) (count left : ℕ) (tokens : List TokenValue)
    (front : List Literal) → front ≡ [] → left ≡ count
    → Counts limits left front tokens (index_sets_at limits count tokens)
counts_begin limits count left tokens front empty at =
    subst (λ (xs : List Literal). Counts limits left xs tokens (index_sets_at limits count tokens)) (sym empty)
    (record { so_far = front_of_none (index_sets_at limits left tokens) ∙ ap (λ (n : ℕ). index_sets_at limits n tokens) at })

step : (limits : Limits) (n : ℕ) (tokens : List TokenValue) (x : Literal) (rest : List TokenValue)
    → index_set_at limits tokens ≡ Ok (x, rest)
    → index_sets_at limits (suc n) tokens ≡ put_first x (index_sets_at limits n rest)
unfolding index_sets_at
step limits n tokens x rest found = rw found refl

pub counts_on : (limits : Limits) (left fewer : ℕ) (front items : List Literal)
    (tokens : List TokenValue) (x : Literal) (rest : List TokenValue) (all : Read (List Literal))
    → left ≡ suc fewer → items ≡ front ++ x ∷ []
    → index_set_at limits tokens ≡ Ok (x, rest) → Counts limits left front tokens all → Counts limits fewer items rest all
counts_on limits left fewer front items tokens x rest all one grew found c =
    let now : with_front front (index_sets_at limits (suc fewer) tokens) ≡ all = ap (λ (n : ℕ). with_front front (index_sets_at limits n tokens)) (sym one) ∙ c.so_far in
    let on : with_front (front ++ x ∷ []) (index_sets_at limits fewer rest) ≡ all =
    sym (regroup front x (index_sets_at limits fewer rest)) ∙ ap (with_front front) (sym (step limits fewer tokens x rest found)) ∙ now in
    subst (λ (xs : List Literal). Counts limits fewer xs rest all) (sym grew) (record { so_far = on })

fails_step : (limits : Limits) (n : ℕ) (tokens : List TokenValue) (f : Fault)
    → index_set_at limits tokens ≡ Err f → index_sets_at limits (suc n) tokens ≡ Err f
unfolding index_sets_at
fails_step limits n tokens f found = rw found refl

pub counts_stop : (e : Refusal) (limits : Limits) (left fewer : ℕ) (front : List Literal)
    (tokens : List TokenValue) (all : Read (List Literal)) → left ≡ suc fewer
    → Counts limits left front tokens all → Fails e (index_set_at limits tokens) → Fails e all
counts_stop e limits left fewer front tokens all one c h =
    let now : with_front front (index_sets_at limits (suc fewer) tokens) ≡ all = ap (λ (n : ℕ). with_front front (index_sets_at limits n tokens)) (sym one) ∙ c.so_far in
    fails_like e (index_set_at limits tokens) all (λ found. sym now ∙ ap (with_front front) (fails_step limits fewer tokens tt found)) h

no_more : (limits : Limits) (tokens : List TokenValue)
    → index_sets_at limits zero tokens ≡ Ok ([], tokens)
unfolding index_sets_at
no_more limits tokens = refl

pub counts_all : (limits : Limits) (left : ℕ) (front : List Literal) (tokens : List TokenValue)
    (all : Read (List Literal)) → left ≡ 0 → Counts limits left front tokens all
    → all ≡ Ok (front, tokens)
counts_all limits left front tokens all none c =
    sym c.so_far ∙ ap (λ (n : ℕ). with_front front (index_sets_at limits n tokens)) none ∙ ap (with_front front) (no_more limits tokens) ∙ ap (λ (xs : List Literal). Ok (xs, tokens)) (append-nil front)
