-- Sets of the indices of Booleans.
use Rattle.std.proofs.Common.{◌≡◌, ℕ, ◌+◌, ◌↔◌, ℤ, pos, ◌+ℤ◌, ◌-ℤ◌, ◌≤ℤ◌, Bool, true, false, ◌&&◌, List, drop, nat_eq, FitsSigned, w64, Some, slice_get, refl, sym, ap, ◌∙◌, arith}
use Rattle.std.specs.Int.{int_min}
use Rattle.std.specs.Ordering.{int_cmp}
use Rattle.std.specs.Cmp.{int_cmp_total, both_ways}
use Rattle.std.specs.FinSet.{contains, empty, is_subset, len, contains-empty, is_subset-contains, contains-is_subset, empty_of_len, len-empty}
use Rattle.std.proofs.lemmas.Int.{ints}
use Rattle.std.proofs.lemmas.Bool.Decides.{nat_tests}
use Rattle.fz_kernel.specs.of_meaning.of_base.Sets.{NumberSet, numbers_between}
use Rattle.fz_kernel.specs.of_meaning.of_base.Elements.{LiesWithin, Has64Bits}
use Rattle.fz_kernel.specs.of_meaning.of_base.Ranges.{is_between}
use Rattle.fz_kernel.proofs.of_meaning.of_base.Numbers.{contains-numbers_between, same_numbers}
use Rattle.fz_kernel.specs.of_meaning.Relations.{◌=ᴮ◌, flags_are}
use Rattle.fz_kernel.proofs.of_meaning.Values.{no}
use Rattle.fz_globals.proofs.FirstBest.{one_on}
use Rattle.fz_kernel.proofs.Left.{next}

-- ---- the numbers that are indices

abbrev pub last_of : ℤ → ℕ → ℤ
last_of o n = (o +ℤ pos n) -ℤ pos 1

abbrev pub greatest : ℤ
greatest = pos 9223372036854775807

fits_below : (q : ℤ) → FitsSigned w64 q → q ≤ℤ greatest
fits_below q fits = omega (arith, ints)

between_from : (o q : ℤ) (n : ℕ) → o ≤ℤ q → q ≤ℤ int_min (last_of o n) greatest
    → is_between o (last_of o n) q ≡ true
between_from o q n low high = grind (arith, ints)

from_between : (o q : ℤ) (n : ℕ) → is_between o (last_of o n) q ≡ true → q ≤ℤ greatest
    → (o ≤ℤ q) × (q ≤ℤ int_min (last_of o n) greatest)
from_between o q n e high = (grind (arith, ints), grind (arith, ints))

pub told_indices : (r : Bool) (s : NumberSet) (o last : ℤ) (n : ℕ)
    → (r ≡ true ↔ LiesWithin o last s) → Has64Bits s → last ≡ int_min (last_of o n) greatest
    → r ≡ is_subset s (numbers_between o (last_of o n))
told_indices r s o last n h fits is =
    both_ways r (is_subset s (numbers_between o (last_of o n)))
    (λ e. contains-is_subset int_cmp_total s (numbers_between o (last_of o n))
    (λ q in_s. let told = h.0 e q in_s in
    contains-numbers_between o (last_of o n) q ∙ between_from o q n told.0 (rw is at told.1)))
    (λ e. h.1 (λ q in_s.
    let told = from_between o q n (sym (contains-numbers_between o (last_of o n) q) ∙ is_subset-contains int_cmp_total s (numbers_between o (last_of o n)) e q in_s) (fits_below q (fits q in_s)) in
    rw is told))

-- ---- no index

none_between : (o q : ℤ) → is_between o (last_of o 0) q ≡ false
none_between o q = grind (arith, ints)

pub no_index : (o : ℤ) (s : NumberSet)
    → nat_eq (len s) 0 ≡ is_subset s (numbers_between o (last_of o 0))
no_index o s =
    both_ways (nat_eq (len s) 0) (is_subset s (numbers_between o (last_of o 0)))
    (λ e. contains-is_subset int_cmp_total s (numbers_between o (last_of o 0))
    (λ q in_s. no (sym (contains-empty int_cmp q) ∙ ap (λ u. contains u q) (sym (empty_of_len s (is_zero (len s) e))) ∙ in_s)))
    (λ e.
    let none : s ≡ empty = same_numbers s empty (λ q. elim (contains s q) as (λ b. contains s q ≡ b → b ≡ contains {R = int_cmp} empty q) [
      | true ↦ λ in_s. no (sym (none_between o q) ∙ sym (contains-numbers_between o (last_of o 0) q) ∙ is_subset-contains int_cmp_total s (numbers_between o (last_of o 0)) e q in_s)
      | false ↦ λ _. sym (contains-empty int_cmp q)
    ] refl) in
    ap (λ u. nat_eq (len u) 0) none ∙ ap (λ n. nat_eq n 0) (len-empty int_cmp))
  where
    is_zero : (n : ℕ) → nat_eq n 0 ≡ true → n ≡ 0
    is_zero n e = grind (arith, nat_tests)
