use Rattle.std.proofs.Common.{◌≡◌, ℕ, ◌<◌, FitsSigned, List, Option, None, Some, arith, length, rules, slice_set, subst, subst₂, suc, sym, true, w64}
use Rattle.std.proofs.lemmas.Int.{to_z-of_z}
use Rattle.fz_meaning.specs.of_base.declared.value.Value.{Value}
use Rattle.fz_meaning.specs.Meaning.{value_at}
use Rattle.fz_meaning.specs.Steps.{give}
use Rattle.fz_store.specs.Partial.{IsTabled, unset_count}
use Rattle.fz_store.proofs.Tabled.{one_unset_less, still_tabled}
use Rattle.fz_store.proofs.partial.Partial.set.Goals as goal

-- the fields' values are those that the clauses speak of
counted_down : (K J : List (Option Value)) (n : ℕ) (v : Value) → K ≡ J → n < length J
    → value_at J n ≡ None → unset_count K ≡ suc (unset_count (give K n v))
counted_down K J n v seen within none = one_unset_less K n v (subst (λ L. n < length L) (sym seen) within) (subst (λ L. value_at L n ≡ None) (sym seen) none)

pub overflow_sub-self : goal.overflow_sub-self
overflow_sub-self c =
    let p = c.self.inside in
    let less : unset_count p.values.items ≡ suc (unset_count (give p.values.items c.args.number c.args.value)) = counted_down p.values.items c.args.self.now c.args.number c.args.value c.self.view_is c.requires.in_range c.requires.unset in
    omega (arith, c.self.invariant.2)

pub invariant_of-self : goal.invariant_of-self
invariant_of-self c =
    let p = c.self.inside in
    let fits : FitsSigned w64 c.number_of.result = search rules in
    let less : unset_count p.values.items ≡ suc (unset_count (give p.values.items c.args.number c.args.value)) = counted_down p.values.items c.args.self.now c.args.number c.args.value c.self.view_is c.requires.in_range c.requires.unset in (
      c.self.invariant.0,
      rw (to_z-of_z, c.put.ensures.there)
          (subst₂ (λ a b. IsTabled (slice_set p.values.items c.args.number (Some c.args.value)) (slice_set p.numbers.items c.args.number a) (slice_set p.truths.items c.args.number b) (slice_set p.given.items c.args.number true))
          (sym c.number_of.ensures.read) (sym c.truth_of.ensures.read) (still_tabled p.values.items p.numbers.items p.truths.items p.given.items c.args.number c.args.value c.self.invariant.1)),
      rw (c.put.ensures.there) (omega (arith, c.self.invariant.2, less)),
    )
