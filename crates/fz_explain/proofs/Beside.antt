-- Elements beside their printed values, one after another.
use Rattle.std.proofs.Common.{◌≡◌, ◌<◌, ◌≤◌, ℕ, zero, suc, cond, List, [], ◌∷◌, map, length, drop, get_or, slice_get, None, Some, refl, arith}
use Rattle.fz_store.specs.of_meaning.of_base.declared.value.Value.{Value}
use Rattle.fz_filling.specs.of_model.Meaning.{Partial}
use Rattle.fz_filling.specs.of_model.declared.Term.{Term}
use Rattle.fz_explain.specs.Differing.{differing_from, has_value}

-- one more
pub next : {A : Type 0} (F : Partial) (g : A → Value) (k n : ℕ) (ts : List Term) (ls : List A) (t : Term) (l : A)
    → Some t ≡ slice_get ts n → n < length ls → l ≡ get_or ls n l
    → differing_from F k (drop n ts) (map g (drop n ls)) ≡ cond (has_value F t (g l)) (differing_from F (suc k) (drop (suc n) ts) (map g (drop (suc n) ls))) (Some k)
next F g k n [] ls t l at less is = cc
next F g k n (u ∷ ts) [] t l at less is = absurd (omega arith)
next F g k zero (u ∷ ts) (m ∷ ls) t l at less is =
    let same : t ≡ u = cc in
    rw same (rw is refl)
next F g k (suc n) (u ∷ ts) (m ∷ ls) t l at less is = next F g k n ts ls t l at (omega arith) is

-- no more elements
pub no_element : (F : Partial) (k n : ℕ) (ts : List Term) (vs : List Value) → slice_get ts n ≡ None
    → differing_from F k (drop n ts) vs ≡ None
no_element F k zero [] vs none = refl
no_element F k (suc n) [] vs none = refl
no_element F k zero (t ∷ ts) vs none = cc
no_element F k (suc n) (t ∷ ts) vs none = no_element F k n ts vs none

no_beside : (F : Partial) (k : ℕ) (ts : List Term) → differing_from F k ts [] ≡ None
no_beside F k [] = refl
no_beside F k (t ∷ ts) = refl

-- no more values
pub no_value : {A : Type 0} (F : Partial) (g : A → Value) (k n : ℕ) (ts : List Term) (ls : List A)
    → length ls ≤ n → differing_from F k ts (map g (drop n ls)) ≡ None
no_value F g k zero ts [] over = no_beside F k ts
no_value F g k (suc n) ts [] over = no_beside F k ts
no_value F g k zero ts (l ∷ ls) over = absurd (omega arith)
no_value F g k (suc n) ts (l ∷ ls) over = no_value F g k n ts ls (omega arith)
