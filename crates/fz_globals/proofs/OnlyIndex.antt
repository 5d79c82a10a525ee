-- The best element of a list has one index: that of the first element that is the number.
use Rattle.std.proofs.Common.{◌≡◌, ℤ, Bool, true, false, List, Option, Some, None, IfSome, IfNone, sym, ap, ◌∙◌, rules}
use Rattle.std.specs.Option.{option_map_or}
use Rattle.fz_kernel.specs.of_meaning.Relations.{◌=ℤ◌, index_from, is_index_of_best}
use Rattle.fz_kernel.proofs.of_meaning.Values.{same_int, int_itself}
use Rattle.fz_kernel.proofs.Best.{IsOrder, is_best}
use Rattle.fz_globals.proofs.FirstBest.{at_the_best}

turned_round : (a b : ℤ) → (a =ℤ b) ≡ (b =ℤ a)
turned_round a b = search (rules, same_int, int_itself)

module _ (below : ℤ → ℤ → Bool) (order : IsOrder below) (o m : ℤ) (xs : List ℤ) (best : is_best below m xs ≡ true) where
  at_index : (r : Option ℤ) → r ≡ index_from o xs m → (j : ℤ)
      → is_index_of_best below xs o j ≡ option_map_or (λ (i : ℤ). i =ℤ j) r false
  at_index r is j =
      sym (at_the_best below order xs m (λ n. option_map_or (λ (i : ℤ). i =ℤ j) (index_from o xs n) false) best)
      ∙ ap (λ p. option_map_or (λ (i : ℤ). i =ℤ j) p false) (sym is)

  pub only_index : (r : Option ℤ) → r ≡ index_from o xs m
      → IfSome r (λ i. (j : ℤ) → is_index_of_best below xs o j ≡ (j =ℤ i))
  only_index None is = tt
  only_index (Some i) is = λ j. at_index (Some i) is j ∙ turned_round i j

  pub no_index : (r : Option ℤ) → r ≡ index_from o xs m
      → IfNone r ((j : ℤ) → is_index_of_best below xs o j ≡ false)
  no_index None is = λ j. at_index None is j
  no_index (Some i) is = tt
