-- Variables that are collected part by part.
use Rattle.std.proofs.Common.{◌≡◌, ◌<◌, ◌≤◌, ◌+◌, ℕ, zero, suc, List, [], ◌∷◌, ◌++◌, map, flat_map, length, drop, slice_index_or, add-one, refl, sym, ap, ◌∙◌, arith}
use Rattle.fz_filling.specs.of_model.Meaning.{terms_at}
use Rattle.fz_filling.specs.of_model.Parts.{array_at}
use Rattle.fz_filling.specs.of_model.of_builtins.of_store.declared.parts.Array.{Array}
use Rattle.fz_filling.specs.of_model.declared.Term.{Term}
use Rattle.fz_explain.specs.Sources.{with_term, with_terms}

with_both : (ns : List ℕ) (ts us : List Term)
    → with_terms ns (ts ++ us) ≡ with_terms (with_terms ns ts) us
with_both ns [] us = refl
with_both ns (t ∷ ts) us = with_both (with_term ns t) ts us

next : {A B : Type 0} (f : B → List Term) (view : A → B) (xs : List A) (n : ℕ) (d : A) (ns : List ℕ)
    → n < length xs
    → with_terms ns (flat_map f (map view (drop n xs))) ≡ with_terms (with_terms ns (f (view (slice_index_or xs n d)))) (flat_map f (map view (drop (suc n) xs)))
next f view [] n d ns h = absurd (omega arith)
next f view (y ∷ ys) zero d ns h = with_both ns (f (view y)) (flat_map f (map view ys))
next f view (y ∷ ys) (suc n) d ns h = next f view ys n d ns (omega arith)

-- those of one more part
pub one_more : {A B : Type 0} (f : B → List Term) (view : A → B) (xs : List A) (n : ℕ) (d : A)
    (ns ms : List ℕ) → n < length xs → ms ≡ with_terms ns (f (view (slice_index_or xs n d)))
    → with_terms ns (flat_map f (map view (drop n xs))) ≡ with_terms ms (flat_map f (map view (drop (n + 1) xs)))
one_more f view xs n d ns ms h took =
    next f view xs n d ns h ∙ ap (λ ks. with_terms ks (flat_map f (map view (drop (suc n) xs)))) (sym took) ∙ ap (λ k. with_terms ms (flat_map f (map view (drop k xs)))) (sym (add-one n))

-- of an array that isn't there
pub no_terms : (xs : List Array) (n : ℕ) → length xs ≤ n → terms_at (array_at xs n) ≡ []
no_terms [] n h = refl
no_terms (x ∷ xs) zero h = absurd (omega (arith, h))
no_terms (x ∷ xs) (suc n) h = no_terms xs n (omega (arith, h))
