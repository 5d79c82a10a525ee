-- Lists that don't lead back.
use Rattle.std.proofs.Common.{◌≡◌, ℕ, ◌+◌, ◌≤◌, ℤ, pos, ◌+ℤ◌, Bool, true, false, ◌&&◌, List, length, Option, Some, slice_get, refl, sym, ap, ◌∙◌, arith, int_le}
use Rattle.std.specs.Option.{option_map_or}
use Rattle.std.proofs.lemmas.Int.{ints}
use Rattle.fz_model.specs.Relations.{◌=ℤ◌, element_at, leads_back, lies_between}
use Rattle.fz_model.proofs.of_builtins.Failing.{indexed_fails}
use Rattle.fz_model.proofs.of_builtins.of_kernel.Passed.{element_found, none_found}

-- at an index, one more than so many, with what the other list has there
back_fails : (f g : List ℤ) (i : ℕ) (x : ℤ) → slice_get f i ≡ Some x
    → option_map_or (λ y. y =ℤ pos (i + 1)) (element_at g x) false ≡ false
    → leads_back (pos 1) f g ≡ false
back_fails f g i x at e =
    indexed_fails (λ p y. option_map_or (λ z. z =ℤ p) (element_at g y) false) (λ p ys. leads_back p ys g) (λ p y ys. refl)
    (pos 1) f i x at (ap (λ n. option_map_or (λ z. z =ℤ n) (element_at g x) false) (next i) ∙ e)
  where
    next : (i : ℕ) → (pos 1 +ℤ pos i) ≡ pos (i + 1)
    next i = omega (arith, ints)

pub no_place : (f g : List ℤ) (i : ℕ) (x : ℤ) → slice_get f i ≡ Some x
    → lies_between (pos 1) (pos (length g)) x ≡ false → leads_back (pos 1) f g ≡ false
no_place f g i x at outside =
    back_fails f g i x at (ap (λ o. option_map_or (λ y. y =ℤ pos (i + 1)) o false) (none_found g x (length g) refl (past x (length g) outside)))
  where
    past : (x : ℤ) (n : ℕ) → lies_between (pos 1) (pos n) x ≡ false → (k : ℕ) → x ≡ pos (k + 1)
        → n ≤ k
    past x n outside k is = grind (arith, ints)

pub not_back : (f g : List ℤ) (i j : ℕ) (y : ℤ) → slice_get f i ≡ Some (pos (j + 1))
    → slice_get g j ≡ Some y → (y =ℤ pos (i + 1)) ≡ false → leads_back (pos 1) f g ≡ false
not_back f g i j y at there e =
    back_fails f g i (pos (j + 1)) at (ap (λ o. option_map_or (λ z. z =ℤ pos (i + 1)) o false) (element_found g (pos (j + 1)) j y refl there) ∙ e)
