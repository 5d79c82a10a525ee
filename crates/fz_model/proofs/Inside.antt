-- Where each element of a set lies in a domain.
use Rattle.std.proofs.Common.{◌≡◌, ℤ, ◌≤ℤ◌, Bool, true, ◌&&◌, refl, sym, ◌∙◌, int_le, arith}
use Rattle.std.proofs.lemmas.Int.{ints}
use Rattle.std.specs.Prelude.{◌↔◌}
use Rattle.std.specs.List.{list_all}
use Rattle.std.specs.FinSet as sets
use Rattle.std.specs.Cmp.{int_cmp_total}
use Rattle.fz_builtins.specs.of_meaning.of_base.Sets.{NumberSet}
use Rattle.fz_builtins.specs.of_meaning.of_base.Elements.{LiesWithin}
use Rattle.fz_builtins.proofs.of_meaning.of_base.Covers.{at_most_yes}
use Rattle.fz_builtins.proofs.of_globals.NoGaps.{each_element, element_each}
use Rattle.fz_builtins.proofs.of_meaning.Values.{and_both, and_first, and_second, same_truth}

pub all_admitted : (s : NumberSet) → true ≡ list_all (λ n. true) (sets.items s)
all_admitted s = sym (each_element (λ n. true) s (λ x _. refl))

at_most : (x z : ℤ) → int_le x z ≡ true → x ≤ℤ z
at_most x z h = grind (arith, ints)

abbrev between : ℤ → ℤ → ℤ → Bool
between lo hi n = int_le lo n && int_le n hi

pub within_admitted : (lo hi : ℤ) (s : NumberSet) (r : Bool) → (r ≡ true ↔ LiesWithin lo hi s)
    → r ≡ list_all (between lo hi) (sets.items s)
within_admitted lo hi s r h =
    same_truth r (list_all (between lo hi) (sets.items s))
    (λ e. each_element (between lo hi) s (λ x in_s.
    let both = h.0 e x in_s in
    and_both (int_le lo x) (int_le x hi) (at_most_yes lo x both.0) (at_most_yes x hi both.1)))
    (λ all. h.1 (λ x in_s.
    let lies = element_each (between lo hi) s all x in_s in
    (at_most lo x (and_first (int_le lo x) (int_le x hi) lies), at_most x hi (and_second (int_le lo x) (int_le x hi) lies))))

pub among_admitted : (s t : NumberSet) (r : Bool) → r ≡ sets.is_subset s t
    → r ≡ list_all (sets.contains t) (sets.items s)
among_admitted s t r e =
    e ∙ same_truth (sets.is_subset s t) (list_all (sets.contains t) (sets.items s))
    (λ sub. each_element (sets.contains t) s (sets.is_subset-contains int_cmp_total s t sub))
    (λ all. sets.contains-is_subset int_cmp_total s t (element_each (sets.contains t) s all))
