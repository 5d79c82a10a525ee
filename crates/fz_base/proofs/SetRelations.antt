-- From relations of the stored numbers to relations of the sets that they make.
use Rattle.std.proofs.Common.{◌≡◌, ℤ, ◌≤ℤ◌, Bool, true, ◌↔◌, List, Option, Some, None, IfSome, IfNone, FitsSigned, w64, sym, ap, ◌∙◌}
use Rattle.std.specs.List.{list_any}
use Rattle.std.specs.List.Sorted.{IsPermutation}
use Rattle.std.specs.Ordering.{int_eq}
use Rattle.std.proofs.lemmas.List.Sorted.{list_any-IsPermutation}
use Rattle.std.specs.Cmp.{int_cmp_total, both_ways}
use Rattle.std.specs.FinSet.{contains, from_list, contains-from_list, is_subset, contains-union, contains-intersection, contains-difference, is_subset-contains, contains-is_subset}
use Rattle.fz_base.specs.declared.ranges.Range.{Range}
use Rattle.fz_base.specs.declared.ranges.Rule.{Rule}
use Rattle.fz_base.specs.declared.ranges.Rule.TheVariants.{Union, Intersect, Minus, Symdiff}
use Rattle.fz_base.specs.Sets.{NumberSet, numbers_between}
use Rattle.fz_base.specs.Elements.{LiesWithin, IsOnly}
use Rattle.fz_base.specs.declared.kept.Numbers.{Numbers}
use Rattle.fz_base.specs.declared.kept.Numbers.TheVariants.{Low, Ranges}
use Rattle.fz_base.specs.Keeping.{combined, has, set_of, AreKept}
use Rattle.fz_base.specs.Ranges.{lowest, AreInOrder, covers, is_between, keeps}
use Rattle.fz_base.proofs.Numbers.{contains-numbers_of, contains-numbers_between, contains-symmetric_difference, same_numbers}
use Rattle.fz_base.proofs.Covers.{covered_fits}
use Rattle.fz_base.proofs.Unique.{same_ranges}
use Rattle.fz_base.proofs.Words.{contains-numbers_of_bits, low_fits}

contains-set_of : (n : Numbers) (x : ℤ) → contains (set_of n) x ≡ has n x
contains-set_of (Low bits) x = contains-numbers_of_bits bits x
contains-set_of (Ranges ranges) x = contains-numbers_of ranges.value.items x

-- numbers that are stored for a set
pub seen : (n : Numbers) (s : NumberSet) → set_of n ≡ s → (x : ℤ) → has n x ≡ contains s x
seen n s view x = sym (contains-set_of n x) ∙ ap (λ t. contains t x) view

-- numbers that are what a set contains
pub made : (n : Numbers) (s : NumberSet) → ((x : ℤ) → has n x ≡ contains s x) → set_of n ≡ s
made n s is = same_numbers (set_of n) s (λ x. contains-set_of n x ∙ is x)

pub between_made : (lo hi : ℤ) (out : Numbers) → ((x : ℤ) → has out x ≡ is_between lo hi x)
    → set_of out ≡ numbers_between lo hi
between_made lo hi out is = made out (numbers_between lo hi) (λ x. is x ∙ sym (contains-numbers_between lo hi x))

pub listed_made : (numbers : List ℤ) (out : Numbers)
    → ((x : ℤ) → has out x ≡ list_any (int_eq x) numbers) → set_of out ≡ from_list numbers
listed_made numbers out is = made out (from_list numbers) (λ x. is x ∙ sym (contains-from_list int_cmp_total numbers x))

contains-combined : (rule : Rule) (s t : NumberSet) (x : ℤ)
    → contains (combined rule s t) x ≡ keeps rule (contains s x) (contains t x)
contains-combined Union s t x = contains-union int_cmp_total s t x
contains-combined Intersect s t x = contains-intersection int_cmp_total s t x
contains-combined Minus s t x = contains-difference int_cmp_total s t x
contains-combined Symdiff s t x = contains-symmetric_difference s t x

-- ranges in order cover the same where they are the same, and only there
pub same_covered : (a b : List Range) → AreInOrder lowest a → AreInOrder lowest b → (r : Bool)
    → (r ≡ true ↔ (a ≡ b)) → (r ≡ true ↔ ((x : ℤ) → covers a x ≡ covers b x))
same_covered a b order_a order_b r h = (λ e x. ap (λ rs. covers rs x) (h.0 e), λ alike. h.1 (same_ranges lowest lowest a b order_a order_b alike))

-- numbers that are sorted are the same
pub sorted_listed : (numbers sorted : List ℤ) → IsPermutation numbers sorted → (x : ℤ)
    → list_any (int_eq x) sorted ≡ list_any (int_eq x) numbers
sorted_listed numbers sorted moved x = sym (list_any-IsPermutation (int_eq x) numbers sorted moved)

module _ (s t : NumberSet) (a b : Numbers) (is_a : (x : ℤ) → has a x ≡ contains s x) (is_b : (x : ℤ) → has b x ≡ contains t x) where
  pub combined_made : (rule : Rule) (out : Numbers)
      → ((x : ℤ) → has out x ≡ keeps rule (has a x) (has b x)) → set_of out ≡ combined rule s t
  combined_made rule out kept = made out (combined rule s t) (λ x. kept x ∙ (λ i. keeps rule (is_a x i) (is_b x i)) ∙ sym (contains-combined rule s t x))

  pub is_subset_is : (r : Bool) → (r ≡ true ↔ ((x : ℤ) → has a x ≡ true → has b x ≡ true))
      → r ≡ is_subset s t
  is_subset_is r h =
      both_ways r (is_subset s t)
      (λ e. contains-is_subset int_cmp_total s t (λ x in_s. sym (is_b x) ∙ h.0 e x (is_a x ∙ in_s)))
      (λ e. h.1 (λ x in_a. is_b x ∙ is_subset-contains int_cmp_total s t e x (sym (is_a x) ∙ in_a)))

  pub equals_is : (r : Bool) → (r ≡ true ↔ ((x : ℤ) → has a x ≡ has b x)) → (r ≡ true ↔ (s ≡ t))
  equals_is r h = (
    λ e. same_numbers s t (λ x. sym (is_a x) ∙ h.0 e x ∙ is_b x),
    λ e. h.1 (λ x. is_a x ∙ ap (λ u. contains u x) e ∙ sym (is_b x)),
  )

  pub is_combined_is : (rule : Rule) (u : NumberSet) (c : Numbers)
      → ((x : ℤ) → has c x ≡ contains u x) → (r : Bool)
      → (r ≡ true ↔ ((x : ℤ) → has c x ≡ keeps rule (has a x) (has b x)))
      → (r ≡ true ↔ (u ≡ combined rule s t))
  is_combined_is rule u c is_c r h = (
    λ e. same_numbers u (combined rule s t) (λ x. sym (is_c x) ∙ h.0 e x ∙ result x),
    λ e. h.1 (λ x. is_c x ∙ ap (λ w. contains w x) e ∙ sym (result x)),
  )
    where
      result : (x : ℤ) → keeps rule (has a x) (has b x) ≡ contains (combined rule s t) x
      result x = (λ i. keeps rule (is_a x i) (is_b x i)) ∙ sym (contains-combined rule s t x)

pub lies_within_is : (s : NumberSet) (a : Numbers) → ((x : ℤ) → has a x ≡ contains s x)
    → (lo hi : ℤ) (r : Bool) → (r ≡ true ↔ ((x : ℤ) → has a x ≡ true → (lo ≤ℤ x) × (x ≤ℤ hi)))
    → (r ≡ true ↔ LiesWithin lo hi s)
lies_within_is s a is_a lo hi r h = (λ e x in_s. h.0 e x (is_a x ∙ in_s), λ all. h.1 (λ x in_a. all x (sym (is_a x) ∙ in_a)))

-- ---- one number alone

module _ (s : NumberSet) (rs : Numbers) (is : (x : ℤ) → has rs x ≡ contains s x) where
  pub only_found : (o : Option ℤ) → IfSome o (λ n. ((x : ℤ) → (has rs x ≡ true) ↔ (x ≡ n)))
      → IfSome o (λ n. IsOnly n s)
  only_found None h = h
  only_found (Some n) h = λ x. ((λ e. (h x).0 (is x ∙ e)), (λ e. sym (is x) ∙ (h x).1 e))

  pub only_none : (o : Option ℤ) → IfNone o ((n : ℤ) → ((x : ℤ) → (has rs x ≡ true) ↔ (x ≡ n)) → ⊥)
      → IfNone o ((n : ℤ) → IsOnly n s → ⊥)
  only_none None h = λ n g. h n (λ x. ((λ e. (g x).0 (sym (is x) ∙ e)), (λ e. is x ∙ (g x).1 e)))
  only_none (Some n) h = h

-- numbers that are stored have 64 bits
pub has_fits : (x : ℤ) (n : Numbers) → AreKept n → has n x ≡ true → FitsSigned w64 x
has_fits x (Low bits) kept in_it = low_fits bits x in_it
has_fits x (Ranges ranges) kept in_it = covered_fits x ranges.value.items kept in_it
