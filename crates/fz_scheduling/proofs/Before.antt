-- Lexicographic order, where one of two lists is used up.
use Rattle.std.proofs.Common.{◌≡◌, ℕ, ◌<◌, ◌≤◌, Bool, true, false, ltb, ◌⊎◌, inl, inr, List, [], ◌∷◌, drop, length, refl, sym, ap, ◌∙◌, le-ltb, lt-ltb, arith}
use Rattle.std.proofs.lemmas.Bool.{cases_lt}
use Rattle.std.proofs.lemmas.List.{length-drop}
use Rattle.fz_kernel.specs.of_meaning.Relations.{is_before}
use Rattle.fz_kernel.proofs.Left.{none_left}

module _ {A : Type 0} (less same : A → A → Bool) where
  front_first : (ys : List A) → 0 < length ys → is_before less same [] ys ≡ true
  front_first [] h = absurd (omega arith)
  front_first (y ∷ ys) h = refl

  none_before_nothing : (xs : List A) → is_before less same xs [] ≡ false
  none_before_nothing [] = refl
  none_before_nothing (x ∷ xs) = refl

  -- past the shorter of the two
  pub ends : (xs ys : List A) (i : ℕ) (whole : Bool) → whole
      ≡ is_before less same (drop i xs) (drop i ys) → i ≤ length xs → i ≤ length ys
      → (length xs ≤ i) ⊎ (length ys ≤ i) → ltb (length xs) (length ys) ≡ whole
  ends xs ys i whole so_far in_xs in_ys end = elim (cases_lt i (length ys)) [
    | inl more ↦
        let over : length xs ≤ i = elim end [ inl h ↦ h | inr h ↦ omega arith ] in
        let some : 0 < length (drop i ys) = rw (length-drop i ys) (omega arith) in
        lt-ltb (length xs) (length ys) (omega arith) ∙ sym (so_far ∙ ap (λ l. is_before less same l (drop i ys)) (none_left xs i over) ∙ front_first (drop i ys) some)
    | inr over ↦
        le-ltb (length xs) (length ys) (omega arith) ∙ sym (so_far ∙ ap (λ l. is_before less same (drop i xs) l) (none_left ys i over) ∙ none_before_nothing (drop i xs))
  ]
