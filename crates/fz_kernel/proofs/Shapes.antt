-- The shapes of several arguments, one after another.
use Rattle.std.proofs.Common.{◌≡◌, ◌≢◌, ◌<◌, ◌+◌, min, get_or, drop, ℕ, suc, Bool, true, false, ◌&&◌, List, [], ◌∷◌, map, length, refl, sym, ap, ◌∙◌, arith}
use Rattle.std.proofs.Math.Bool.{and-false}
use Rattle.std.proofs.lemmas.List.{at_drop_more, at_drop_all}
use Rattle.fz_store.specs.of_meaning.Meaning.{Partial}
use Rattle.fz_store.specs.of_meaning.declared.row.Shape.{Shape}
use Rattle.fz_store.specs.of_meaning.Known.{shape_of}
use Rattle.fz_kernel.specs.Arguments.{Reading, reading_is_read, readings_are_read}

module _ {X : Type 0} (K : Partial) (view : X → Reading) where
  -- the arguments can be read as the shapes ask
  abbrev pub fit : List Shape → List X → Bool
  fit ss as' = readings_are_read K (map shape_of ss) (map view as')

  abbrev one : Shape → X → Bool
  one s a = reading_is_read K (shape_of s) (view a)

  pub fit_not_long : (ss : List Shape) (as' : List X) → length ss ≢ length as' → false ≡ fit ss as'
  fit_not_long [] [] h = absurd (h refl)
  fit_not_long [] (a ∷ as') h = refl
  fit_not_long (s ∷ ss) [] h = refl
  fit_not_long (s ∷ ss) (a ∷ as') h = sym (and-false (one s a)) ∙ ap (λ b. one s a && b) (fit_not_long ss as' (λ e. h (ap suc e)))

  module _ (ss : List Shape) (as' : List X) (k : ℕ) where
    module _ (s : Shape) (a : X) (lt : k < length ss) (lt' : k < length as') (at : s ≡ get_or ss k s) (at' : a ≡ get_or as' k a)
        (left : fit ss as' ≡ fit (drop k ss) (drop k as')) (b : Bool) (is : b ≡ one s a) where
      fit_next : fit ss as' ≡ (one s a && fit (drop (k + 1) ss) (drop (k + 1) as'))
      fit_next =
          left ∙ at_drop_more (λ zs. fit zs (drop k as')) ss k s lt ∙ at_drop_more (λ zs. fit (get_or ss k s ∷ drop (k + 1) ss) zs) as' k a lt'
          ∙ ap (λ z. fit (z ∷ drop (k + 1) ss) (get_or as' k a ∷ drop (k + 1) as')) (sym at) ∙ ap (λ z. fit (s ∷ drop (k + 1) ss) (z ∷ drop (k + 1) as')) (sym at')

      pub fit_not : b ≡ false → false ≡ fit ss as'
      fit_not e = sym (fit_next ∙ ap (λ c. c && fit (drop (k + 1) ss) (drop (k + 1) as')) (sym is ∙ e))

      pub fit_more : b ≡ true → fit ss as' ≡ fit (drop (k + 1) ss) (drop (k + 1) as')
      fit_more e = fit_next ∙ ap (λ c. c && fit (drop (k + 1) ss) (drop (k + 1) as')) (sym is ∙ e)

    pub fit_all : length ss ≡ length as' → k ≡ min (length ss) (length as')
        → fit ss as' ≡ fit (drop k ss) (drop k as') → true ≡ fit ss as'
    fit_all n e left =
        sym (left ∙ at_drop_all (λ zs. fit zs (drop k as')) ss k (omega arith) ∙ at_drop_all (λ zs. fit [] zs) as' k (omega arith))
