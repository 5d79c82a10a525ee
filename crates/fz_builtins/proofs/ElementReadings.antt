-- What the elements of an argument are read as.
use Rattle.std.proofs.Common.{◌≡◌, ℕ, List}
use Rattle.fz_globals.specs.of_meaning.Meaning.{Argument, Partial}
use Rattle.fz_globals.specs.of_kernel.Given.{ints_of, bools_of, sets_of, ints_at, bools_at, sets_at, slots_at}
use Rattle.fz_globals.specs.of_kernel.Views.{ints, bools, sets, slots_of, under}
use Rattle.fz_globals.specs.of_kernel.declared.elements.Elements.{Elements}

module _ (e : Elements) (K : Partial) (xs : List Argument) (j : ℕ) (slots : slots_of e ≡ slots_at xs j) (is : under e ≡ K) where
  pub ints_are : ints e ≡ ints_at K xs j
  ints_are = λ i. ints_of (is i) (slots i)

  pub bools_are : bools e ≡ bools_at K xs j
  bools_are = λ i. bools_of (is i) (slots i)

  pub sets_are : sets e ≡ sets_at K xs j
  sets_are = λ i. sets_of (is i) (slots i)
