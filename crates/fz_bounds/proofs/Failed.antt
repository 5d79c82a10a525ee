-- Where one of several tests fails.
use Rattle.std.proofs.Common.{◌≡◌, ℕ, suc, ◌+◌, ℤ, pos, ◌+ℤ◌, Bool, true, false, ◌&&◌, List, ◌∷◌, Some, slice_get, refl, sym, ap, subst, ◌∙◌, arith, int_le}
use Rattle.std.proofs.lemmas.Bool.{and_right}
use Rattle.fz_model.specs.Relations.{all_both, all_neighbours, count_of, counts_lie, rises_by_one}
use Rattle.fz_model.proofs.Values.{and_first, no'}
use Rattle.fz_model.proofs.of_builtins.Failing.{both_fail, neighbours_fail}
use Rattle.fz_bounds.specs.Decided.{Decides}
use Rattle.fz_bounds.specs.declared.outlook.Outlook.{Outlook}
use Rattle.fz_bounds.specs.declared.outlook.Outlook.TheVariants.{Always, Never}

-- a test that never holds fails
pub never_so : (o : Outlook) (b : Bool) → o ≡ Never → Decides o b → b ≡ false
never_so o b e h = subst (λ p. Decides p b) e h

-- one that always holds passes
pub always_so : (o : Outlook) (b : Bool) → o ≡ Always → Decides o b → b ≡ true
always_so o b e h = subst (λ p. Decides p b) e h

pub count_fails : (xs cover least most : List ℤ) (i : ℕ) (v m n : ℤ) → slice_get cover i ≡ Some v
    → slice_get least i ≡ Some m → slice_get most i ≡ Some n
    → (int_le m (count_of xs v) && int_le (count_of xs v) n) ≡ false
    → counts_lie xs cover least most ≡ false
count_fails xs cover least most i v m n at_v at_m at_n h =
    (elim (int_le m (count_of xs v)) as (λ b. int_le m (count_of xs v) ≡ b → (b && int_le (count_of xs v) n) ≡ false → counts_lie xs cover least most ≡ false) [
      | true ↦ λ _ h. and_right (all_both (λ v n. int_le n (count_of xs v)) cover least) _ (both_fail (λ v n. int_le (count_of xs v) n) cover most i v n at_v at_n h)
      | false ↦ λ e _. ap (λ b. b && all_both (λ v n. int_le (count_of xs v) n) cover most) (both_fail (λ v n. int_le n (count_of xs v)) cover least i v m at_v at_m e)
    ]) refl h

pub next_fails : {A : Type 0} (p : A → A → Bool) (xs : List A) (i j : ℕ) (x y : A) → j ≡ i + 1
    → slice_get xs i ≡ Some x → slice_get xs j ≡ Some y → p x y ≡ false
    → all_neighbours p xs ≡ false
next_fails p xs i j x y e d f h =
    let next : j ≡ suc i = omega arith in
    neighbours_fail p xs i x y d (subst (λ k. slice_get xs k ≡ Some y) next f) h

-- an element that is too great for the greatest before it
pub rise_fails : (whole : Bool) (m n : ℤ) (ns : List ℤ)
    → (whole ≡ true → rises_by_one m (n ∷ ns) ≡ true) → int_le n (m +ℤ pos 1) ≡ false
    → whole ≡ false
rise_fails false m n ns h e = refl
rise_fails true m n ns h e =
    no' (sym (and_first (int_le n (m +ℤ pos 1)) _ (h refl)) ∙ e)
