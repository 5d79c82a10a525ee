-- Which values come before which.
use Rattle.std.proofs.Common.{◌≡◌, ℕ, ◌+◌, ℤ, pos, ◌+ℤ◌, Bool, true, false, not, ◌&&◌, ◌||◌, List, drop, int_le, Some, slice_get, refl, sym, ap, ◌∙◌}
use Rattle.std.specs.Int.{int_max}
use Rattle.std.proofs.lemmas.Bool.Decides.{Decides-int_eq}
use Rattle.fz_kernel.specs.of_meaning.of_base.Sets.{NumberSet}
use Rattle.fz_kernel.specs.of_meaning.Relations.{◌=ℤ◌, has_only, precedes, precedes_in_sets, rises_by_one}
use Rattle.fz_globals.proofs.Compared.{is_other}
use Rattle.fz_kernel.proofs.Left.{next}

-- ---- one value before another

module _ (s t : ℤ) (xs : List ℤ) (i : ℕ) (r : Bool) (so_far : r ≡ precedes s t (drop i xs)) where
  module _ (x : ℤ) (at : slice_get xs i ≡ Some x) where
    one : (is_t is_s : Bool) → (x =ℤ t) ≡ is_t → (x =ℤ s) ≡ is_s
        → r ≡ (not is_t && (is_s || precedes s t (drop (i + 1) xs)))
    one is_t is_s e_t e_s = so_far ∙ ap (precedes s t) (next xs i x at) ∙ (λ k. not (e_t k) && (e_s k || precedes s t (drop (i + 1) xs)))

    pub second_comes : x ≡ t → false ≡ r
    second_comes same = sym (one true (x =ℤ s) ((Decides-int_eq x t).1 same) refl)

    pub first_comes : ¬ (x ≡ t) → x ≡ s → true ≡ r
    first_comes other same = sym (one false true (is_other x t other) ((Decides-int_eq x s).1 same))

    pub neither_comes : ¬ (x ≡ t) → ¬ (x ≡ s) → r ≡ precedes s t (drop (i + 1) xs)
    neither_comes other_t other_s = one false false (is_other x t other_t) (is_other x s other_s)

-- ---- one set before another

module _ (s t : ℤ) (ss : List NumberSet) (i : ℕ) (r : Bool) (so_far : r ≡ precedes_in_sets s t (drop i ss)) where
  module _ (x : NumberSet) (at : slice_get ss i ≡ Some x) where
    one_set : (late early : Bool) → late ≡ has_only t s x → early ≡ has_only s t x
        → r ≡ (not late && (early || precedes_in_sets s t (drop (i + 1) ss)))
    one_set late early is_late is_early = so_far ∙ ap (precedes_in_sets s t) (next ss i x at) ∙ (λ k. not (sym is_late k) && (sym is_early k || precedes_in_sets s t (drop (i + 1) ss)))

    pub late_comes : (late : Bool) → late ≡ has_only t s x → late ≡ true → false ≡ r
    late_comes late is_late e = sym (one_set late (has_only s t x) is_late refl ∙ ap (λ b. not b && (has_only s t x || precedes_in_sets s t (drop (i + 1) ss))) e)

    pub early_comes : (late early : Bool) → late ≡ has_only t s x → early ≡ has_only s t x
        → late ≡ false → early ≡ true → true ≡ r
    early_comes late early is_late is_early e f = sym (one_set late early is_late is_early ∙ (λ k. not (e k) && (f k || precedes_in_sets s t (drop (i + 1) ss))))

    pub none_comes : (late early : Bool) → late ≡ has_only t s x → early ≡ has_only s t x
        → late ≡ false → early ≡ false → r ≡ precedes_in_sets s t (drop (i + 1) ss)
    none_comes late early is_late is_early e f = one_set late early is_late is_early ∙ (λ k. not (e k) && (f k || precedes_in_sets s t (drop (i + 1) ss)))

pub ruleset sets_in_turn = (late_comes, early_comes, none_comes)

-- ---- values that rise

module _ (most : ℤ) (xs : List ℤ) (i : ℕ) (r : Bool) (so_far : r ≡ rises_by_one most (drop i xs)) where
  module _ (x : ℤ) (at : slice_get xs i ≡ Some x) where
    rise : r ≡ (int_le x (most +ℤ pos 1) && rises_by_one (int_max most x) (drop (i + 1) xs))
    rise = so_far ∙ ap (rises_by_one most) (next xs i x at)

    pub rises : (n : ℤ) → n ≡ int_max most x → int_le x (most +ℤ pos 1) ≡ true
        → r ≡ rises_by_one n (drop (i + 1) xs)
    rises n is passed = rise ∙ ap (λ b. b && rises_by_one (int_max most x) (drop (i + 1) xs)) passed ∙ ap (λ m. rises_by_one m (drop (i + 1) xs)) (sym is)

    pub rises_too_far : int_le x (most +ℤ pos 1) ≡ false → false ≡ r
    rises_too_far failed = sym (rise ∙ ap (λ b. b && rises_by_one (int_max most x) (drop (i + 1) xs)) failed)
