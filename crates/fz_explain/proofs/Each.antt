-- All points that fail, one after another.
use Rattle.std.proofs.Common.{◌≡◌, ◌<◌, ◌≤◌, ◌+◌, ℕ, zero, suc, Bool, true, false, cond, List, [], ◌∷◌, ◌++◌, Some, length, drop, slice_get, refl, sym, ap, ◌∙◌, append-nil, append_assoc, arith}
use Rattle.fz_filling.specs.of_model.Meaning.{Partial, Point}
use Rattle.fz_filling.specs.of_model.States.{state}
use Rattle.fz_filling.proofs.of_model.Lists.{there_is}
use Rattle.fz_explain.specs.Told.{failing_from, failing_in, is_sought}
use Rattle.fz_explain.specs.declared.failing.Sought.TheVariants.{Failing}

opened : {A : Type 0} (xs : List A) (k : ℕ) (x : A) → slice_get xs k ≡ Some x
    → drop k xs ≡ x ∷ drop (suc k) xs
opened [] k x e = cc
opened (y ∷ ys) zero x e = cc
opened (y ∷ ys) (suc k) x e = opened ys k x e

ended : {A : Type 0} (xs : List A) (k : ℕ) → length xs ≤ k → drop k xs ≡ []
ended [] zero h = refl
ended [] (suc k) h = refl
ended (x ∷ xs) zero h = absurd (omega (arith, h))
ended (x ∷ xs) (suc k) h = ended xs k (omega (arith, h))

told : (fails : Bool) (found rest : List ℕ) (k : ℕ)
    → found ++ cond fails (k ∷ rest) rest ≡ cond fails (found ++ k ∷ []) found ++ rest
told true found rest k = sym (append_assoc found (k ∷ []) rest)
told false found rest k = refl

-- one more
pub failing_next : (F : Partial) (ps : List Point) (k : ℕ) (found more : List ℕ) (fails : Bool)
    → k < length ps
    → ((p : Point) → slice_get ps k ≡ Some p → fails ≡ is_sought Failing (state F p))
    → failing_in F ps ≡ found ++ failing_from F k (drop k ps)
    → more ≡ cond fails (found ++ k ∷ []) found
    → failing_in F ps ≡ more ++ failing_from F (k + 1) (drop (k + 1) ps)
failing_next F ps k found more fails less exact so_far longer =
    let (p, at) = there_is ps k less in
    let next : k + 1 ≡ suc k = omega arith in
    let rest : List ℕ = failing_from F (suc k) (drop (suc k) ps) in
    so_far
    ∙ ap (λ xs. found ++ failing_from F k xs) (opened ps k p at)
    ∙ ap (λ b. found ++ cond b (k ∷ rest) rest) (sym (exact p at))
    ∙ told fails found rest k
    ∙ ap (λ xs. xs ++ rest) (sym longer)
    ∙ ap (λ n. more ++ failing_from F n (drop n ps)) (sym next)

-- all were looked at
pub failing_all : (F : Partial) (ps : List Point) (k : ℕ) (found : List ℕ) → length ps ≤ k
    → failing_in F ps ≡ found ++ failing_from F k (drop k ps) → found ≡ failing_in F ps
failing_all F ps k found over so_far =
    sym (so_far ∙ ap (λ xs. found ++ failing_from F k xs) (ended ps k over) ∙ append-nil found)
