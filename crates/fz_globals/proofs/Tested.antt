-- A test of one element, and of all elements of a list.
use Rattle.std.proofs.Common.{◌≡◌, ℕ, suc, zero, ℤ, pos, ◌+ℤ◌, Bool, true, List, [], ◌∷◌, Some, get_or, slice_get, sym, ◌∙◌, arith}
use Rattle.std.specs.List.{list_all}
use Rattle.std.proofs.lemmas.Grind.{common_steps}
use Rattle.fz_kernel.proofs.Between.{read_at}
use Rattle.fz_kernel.proofs.of_meaning.Values.{and_first, and_second}
use Rattle.fz_globals.specs.Tests.{IsOfIndex, IsTestedAt}

-- the result at an index is that of the test
pub told_at : (results : ℤ → ℤ → Bool → Type 0) (test : ℤ → ℤ → Bool) → IsOfIndex results test
    → (o : ℤ) (ns : List ℤ) (k : ℕ) (b : Bool) → IsTestedAt results o ns k b
    → b ≡ test (o +ℤ pos k) (get_or ns k (pos 0))
told_at results test is o ns k b (i, n, here, read, fits_i, fits_n, said) =
    is i n b fits_i fits_n said ∙ (λ e. test (here e) (sym (read_at ns (pos 0) k n read) e))

-- where all pass, the one at an index does
pub passed_at : {A : Type 0} (test : A → Bool) (xs : List A) (k : ℕ) (x : A)
    → list_all test xs ≡ true → slice_get xs k ≡ Some x → test x ≡ true
passed_at test [] k x all at = cc
passed_at test (y ∷ ys) zero x all at = grind (arith, common_steps, and_first)
passed_at test (y ∷ ys) (suc k) x all at = passed_at test ys k x (and_second (test y) (list_all test ys) all) at
