-- Whether a number is the weight of a set, once the parts of that are told.
use Rattle.std.proofs.Common.{◌≡◌, ℤ, true, false, ◌&&◌, List, map, sym, ap, ◌∙◌}
use Rattle.std.specs.List.{filter, zip}
use Rattle.std.specs.FinSet as sets
use Rattle.fz_kernel.specs.of_meaning.of_base.Sets.{NumberSet}
use Rattle.fz_kernel.proofs.of_meaning.of_base.Covers.{and-false}
use Rattle.fz_kernel.specs.of_meaning.Relations.{◌=ℤ◌, all_different, is_weight_of, total}

module _ (things weights : List ℤ) (s : NumberSet) where
  pub things_alike : all_different things ≡ false → (n : ℤ) → is_weight_of things weights s n ≡ false
  things_alike alike n =
      ap (λ b. b && sets.is_subset s (sets.from_list things) && (n =ℤ total (map (λ p. p.1) (filter (λ p. sets.contains s p.0) (zip things weights))))) alike

  pub no_things : (all : NumberSet) → all ≡ sets.from_list things → sets.is_subset s all ≡ false → (n : ℤ)
      → is_weight_of things weights s n ≡ false
  no_things all is other n =
      let sum = total (map (λ p. p.1) (filter (λ p. sets.contains s p.0) (zip things weights))) in
      ap (λ b. all_different things && b && (n =ℤ sum)) (ap (sets.is_subset s) (sym is) ∙ other)
      ∙ ap (λ b. b && (n =ℤ sum)) (and-false (all_different things))

  pub weighed : (all : NumberSet) → all ≡ sets.from_list things → all_different things ≡ true
      → sets.is_subset s all ≡ true → (w : ℤ)
      → w ≡ total (map (λ p. p.1) (filter (λ p. sets.contains s p.0) (zip things weights))) → (n : ℤ)
      → is_weight_of things weights s n ≡ (n =ℤ w)
  weighed all is differ within w sum n =
      λ i. differ i && (ap (sets.is_subset s) (sym is) ∙ within) i && (n =ℤ sym sum i)
