-- The narrow tables beside the values of a partial assignment.
use Rattle.std.proofs.Common.{◌≡◌, ℕ, ◌+◌, ◌<◌, ◌≤◌, ℤ, Bool, zero, suc, List, [], ◌∷◌, ◌++◌, length, map, take, replicate, Option, None, Some, is_some, true, false, slice_set, add-one, arith, refl, ap, ◌∙◌}
use Rattle.std.proofs.Math.Seq.{take-append_seam}
use Rattle.std.proofs.lemmas.List.{length-map}
use Rattle.fz_meaning.specs.of_base.declared.value.Value.{Value}
use Rattle.fz_meaning.specs.Meaning.{Variable, value_at}
use Rattle.fz_meaning.specs.Steps.{give}
use Rattle.fz_store.specs.Partial.{IsTabled, number_in, truth_in, unset_count, without}

map_set : {A B : Type 0} (f : A → B) (xs : List A) (n : ℕ) (x : A)
    → slice_set (map f xs) n (f x) ≡ map f (slice_set xs n x)
map_set f (y ∷ xs) (suc n) x = ap (λ ys. f y ∷ ys) (map_set f xs n x)
map_set f _ n x = refl

-- one more value
pub still_tabled : (K : List (Option Value)) (ns : List ℤ) (bs gs : List Bool) (n : ℕ) (v : Value)
    → IsTabled K ns bs gs
    → IsTabled (slice_set K n (Some v)) (slice_set ns n (number_in (Some v))) (slice_set bs n (truth_in (Some v))) (slice_set gs n true)
still_tabled K ns bs gs n v t = record {
  numbers = ap (λ zs. slice_set zs n (number_in (Some v))) t.numbers ∙ map_set number_in K n (Some v);
  truths = ap (λ zs. slice_set zs n (truth_in (Some v))) t.truths ∙ map_set truth_in K n (Some v);
  given = ap (λ zs. slice_set zs n true) t.given ∙ map_set is_some K n (Some v);
}

all_nothing : {A B : Type 0} (f : Option Value → B) (xs : List A)
    → replicate (length xs) (f None) ≡ map f (map (λ x. None) xs)
all_nothing f [] = refl
all_nothing f (x ∷ xs) = ap (λ ys. f None ∷ ys) (all_nothing f xs)

-- none yet
pub none_tabled : (xs : List Variable) (n : ℕ) → n ≡ length xs
    → IsTabled (map (λ x. None) xs) (replicate n (number_in None)) (replicate n (truth_in None))
    (replicate n false)
none_tabled xs n e = record {
  numbers = ap (λ k. replicate k (number_in None)) e ∙ all_nothing number_in xs;
  truths = ap (λ k. replicate k (truth_in None)) e ∙ all_nothing truth_in xs;
  given = ap (λ k. replicate k false) e ∙ all_nothing is_some xs;
}

-- ---- how many have no value

-- a value where there was none leaves one less without
pub one_unset_less : (K : List (Option Value)) (n : ℕ) (v : Value) → n < length K
    → value_at K n ≡ None → unset_count K ≡ suc (unset_count (give K n v))
one_unset_less [] n v h e = absurd (omega arith)
one_unset_less (None ∷ K) zero v h e = refl
one_unset_less (Some u ∷ K) zero v h e = cc
one_unset_less (None ∷ K) (suc n) v h e = ap suc (one_unset_less K n v (omega arith) e)
one_unset_less (Some u ∷ K) (suc n) v h e = one_unset_less K n v (omega arith) e

-- and one that is taken away leaves one more
pub one_unset_more : (K : List (Option Value)) (n : ℕ) → is_some (value_at K n) ≡ true
    → unset_count (without K n) ≡ suc (unset_count K)
one_unset_more (Some u ∷ K) zero e = refl
one_unset_more (None ∷ K) (suc n) e = ap suc (one_unset_more K n e)
one_unset_more (Some u ∷ K) (suc n) e = one_unset_more K n e
one_unset_more _ n e = cc

pub unset_fit : (K : List (Option Value)) → unset_count K ≤ length K
unset_fit [] = omega arith
unset_fit (None ∷ K) = omega (arith, unset_fit K)
unset_fit (Some u ∷ K) = omega (arith, unset_fit K)

-- where there is none, none is taken away
pub none_taken : (K : List (Option Value)) (n : ℕ) → is_some (value_at K n) ≡ false
    → K ≡ without K n
none_taken (Some u ∷ K) zero e = cc
none_taken (o ∷ K) (suc n) e = ap (λ J. o ∷ J) (none_taken K n e)
none_taken _ n e = refl

pub has_place : (K : List (Option Value)) (n : ℕ) → is_some (value_at K n) ≡ true → n < length K
has_place [] n e = cc
has_place (o ∷ K) zero e = omega arith
has_place (o ∷ K) (suc n) e = omega (arith, has_place K n e)

pub one_less_tabled : (K : List (Option Value)) (ns : List ℤ) (bs gs : List Bool) (n : ℕ)
    → IsTabled K ns bs gs
    → IsTabled (without K n) (slice_set ns n (number_in None)) (slice_set bs n (truth_in None)) (slice_set gs n false)
one_less_tabled K ns bs gs n t = record {
  numbers = ap (λ zs. slice_set zs n (number_in None)) t.numbers ∙ map_set number_in K n None;
  truths = ap (λ zs. slice_set zs n (truth_in None)) t.truths ∙ map_set truth_in K n None;
  given = ap (λ zs. slice_set zs n false) t.given ∙ map_set is_some K n None;
}

-- where nothing has a value, each one counts
pub all_unset : {A : Type 0} (xs : List A) → unset_count (map (λ x. None) xs) ≡ length xs
all_unset [] = refl
all_unset (x ∷ xs) = ap suc (all_unset xs)

-- the tables of values that are all taken away
pub cleared_tabled : (K : List (Option Value)) (ns : List ℤ) (bs gs : List Bool) (n m k : ℕ)
    → IsTabled K ns bs gs → n ≡ length ns → m ≡ length bs → k ≡ length gs
    → IsTabled (map (λ v. None) K) (replicate n (number_in None)) (replicate m (truth_in None)) (replicate k false)
cleared_tabled K ns bs gs n m k t e f g = record {
  numbers = ap (λ i. replicate i (number_in None)) (e ∙ ap length t.numbers ∙ length-map K number_in) ∙ all_nothing number_in K;
  truths = ap (λ i. replicate i (truth_in None)) (f ∙ ap length t.truths ∙ length-map K truth_in) ∙ all_nothing truth_in K;
  given = ap (λ i. replicate i false) (g ∙ ap length t.given ∙ length-map K is_some) ∙ all_nothing is_some K;
}

-- what is written over the whole of a list is all that is left
pub all_written : {A : Type 0} (written rest : List A) (n : ℕ) → n ≡ length written
    → take n (written ++ rest) ≡ written
all_written written rest n e = ap (λ k. take k (written ++ rest)) e ∙ take-append_seam written rest

-- ---- values taken away one after another

-- the first so many values taken away
abbrev pub forgotten : ℕ → List (Option Value) → List (Option Value)
forgotten zero K = K
forgotten (suc n) [] = []
forgotten (suc n) (o ∷ K) = None ∷ forgotten n K

pub forgets_next : (K : List (Option Value)) (n : ℕ) → n < length K
    → slice_set (forgotten n K) n None ≡ forgotten (n + 1) K
forgets_next K n h = rw add-one (next K n h)
  where
    next : (K : List (Option Value)) (n : ℕ) → n < length K
        → slice_set (forgotten n K) n None ≡ forgotten (suc n) K
    next [] n h = absurd (omega arith)
    next (o ∷ K) zero h = refl
    next (o ∷ K) (suc n) h = ap (λ J. None ∷ J) (next K n (omega arith))

pub forgets_all : (K : List (Option Value)) (n : ℕ) → n ≡ length K
    → forgotten n K ≡ map (λ v. None) K
forgets_all K n e = ap (λ k. forgotten k K) e ∙ all K
  where
    all : (K : List (Option Value)) → forgotten (length K) K ≡ map (λ v. None) K
    all [] = refl
    all (o ∷ K) = ap (λ J. None ∷ J) (all K)

-- what `forget` cites
pub ruleset forgets = (forgotten, forgets_next, forgets_all)
