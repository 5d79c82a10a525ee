-- The element at an index.
use Rattle.std.proofs.Common.{◌≡◌, ℕ, zero, suc, ℤ, pos, negsuc, Bool, true, false, ◌&&◌, ◌||◌, List, [], ◌∷◌, Some, slice_get, refl, sym, ap, subst, ◌∙◌}
use Rattle.std.specs.List.{list_any}
use Rattle.fz_model.specs.Relations.{is_element}
use Rattle.fz_bounds.specs.Decided.{Decides}
use Rattle.fz_bounds.specs.declared.outlook.Outlook.{Outlook}
use Rattle.fz_bounds.specs.declared.outlook.Outlook.TheVariants.{Never}

-- where no element at the index is the wanted one
pub no_element : {A : Type 0} (same : A → A → Bool) (a : ℤ) (bs : List A) (c : A)
    → ((i : ℕ) (b : A) → slice_get bs i ≡ Some b → a ≡ pos (suc i) → same b c ≡ false)
    → is_element same a bs c ≡ false
no_element same a [] c h = refl
no_element same (negsuc n) (b ∷ bs) c h = refl
no_element same (pos zero) (b ∷ bs) c h = refl
no_element same (pos (suc zero)) (b ∷ bs) c h = h zero b refl refl
no_element same (pos (suc (suc n))) (b ∷ bs) c h =
    no_element same (pos (suc n)) bs c (λ i x at is. h (suc i) x at (ap next is))
  where
    next : ℤ → ℤ
    next (pos n) = pos (suc n)
    next (negsuc n) = negsuc n

-- where both never hold and one does, the other doesn't
pub never_both : (o : Outlook) (p q : Bool) → o ≡ Never → Decides o (p && q) → p ≡ true → q ≡ false
never_both o p q e h is =
    let neither : (p && q) ≡ false = subst (λ z. Decides z (p && q)) e h in
    sym (ap (λ z. z && q) is) ∙ neither

-- where each element fails, none passes
pub none_passes : {A : Type 0} (f : A → Bool) (xs : List A)
    → ((i : ℕ) (x : A) → slice_get xs i ≡ Some x → f x ≡ false) → list_any f xs ≡ false
none_passes f [] h = refl
none_passes f (x ∷ xs) h =
    ap (λ b. b || list_any f xs) (h zero x refl) ∙ none_passes f xs (λ i y at. h (suc i) y at)
