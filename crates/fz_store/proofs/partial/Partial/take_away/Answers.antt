use Rattle.std.proofs.Common.{◌≡◌, ℕ, List, Option, arith, is_some, length, suc, sym, ap, true, ◌∙◌}
use Rattle.std.proofs.lemmas.List.{length-map}
use Rattle.fz_meaning.specs.of_base.declared.value.Value.{Value}
use Rattle.fz_meaning.specs.Meaning.{value_at}
use Rattle.fz_store.specs.Partial.{number_in, truth_in, unset_count, without}
use Rattle.fz_store.proofs.Tabled.{has_place, none_taken, one_less_tabled, one_unset_more, unset_fit}
use Rattle.fz_store.proofs.partial.Partial.take_away.Goals as goal

-- it has a value
given : (K J : List (Option Value)) (n : ℕ) (b : _) → K ≡ J → b ≡ true → b ≡ is_some (value_at J n)
    → is_some (value_at K n) ≡ true
given K J n b seen is told = ap (λ L. is_some (value_at L n)) seen ∙ sym told ∙ is

pub overflow_add-self : goal.overflow_add-self
overflow_add-self c =
    let p = c.self.inside in
    let there = given p.values.items c.args.self.now c.args.number _ c.self.view_is c.if-has.true c.has.ensures.given in
    let more = one_unset_more p.values.items c.args.number there in
    let all = unset_fit p.values.items in
    let place = has_place p.values.items c.args.number there in
    omega (arith, c.self.invariant.2, p.values.ok.0)

pub index_mut-requires : goal.index_mut-requires
index_mut-requires c =
    let p = c.self.inside in
    let place = has_place p.values.items c.args.number (given p.values.items c.args.self.now c.args.number _ c.self.view_is c.if-has.true c.has.ensures.given) in
    let same : length p.numbers.items ≡ length p.values.items = ap length c.self.invariant.1.numbers ∙ length-map p.values.items number_in in
    omega (arith, p.numbers.ok.0)

pub index_mut-requires-then-has : goal.index_mut-requires-then-has
index_mut-requires-then-has c =
    let p = c.self.inside in
    let place = has_place p.values.items c.args.number (given p.values.items c.args.self.now c.args.number _ c.self.view_is c.if-has.true c.has.ensures.given) in
    let same : length p.truths.items ≡ length p.values.items = ap length c.self.invariant.1.truths ∙ length-map p.values.items truth_in in
    omega (arith, p.truths.ok.0)

pub index_mut-requires-then-has-2 : goal.index_mut-requires-then-has-2
index_mut-requires-then-has-2 c =
    let p = c.self.inside in
    let place = has_place p.values.items c.args.number (given p.values.items c.args.self.now c.args.number _ c.self.view_is c.if-has.true c.has.ensures.given) in
    let same : length p.given.items ≡ length p.values.items = ap length c.self.invariant.1.given ∙ length-map p.values.items is_some in
    omega (arith, p.given.ok.0)

pub index_mut-requires-then-has-3 : goal.index_mut-requires-then-has-3
index_mut-requires-then-has-3 c =
    let p = c.self.inside in
    let place = has_place p.values.items c.args.number (given p.values.items c.args.self.now c.args.number _ c.self.view_is c.if-has.true c.has.ensures.given) in
    omega (arith, p.values.ok.0)

pub invariant_of-self : goal.invariant_of-self
invariant_of-self c =
    let p = c.self.inside in
    let there = given p.values.items c.args.self.now c.args.number _ c.self.view_is c.if-has.true c.has.ensures.given in
    let more : unset_count (without p.values.items c.args.number) ≡ suc (unset_count p.values.items) = one_unset_more p.values.items c.args.number there in
    rw (c.empty.ensures.gone)
    (c.self.invariant.0, one_less_tabled p.values.items p.numbers.items p.truths.items p.given.items c.args.number c.self.invariant.1, omega (arith, c.self.invariant.2, more))

pub returns-else-has : goal.returns-else-has
returns-else-has c = record { taken = none_taken c.args.self.now c.args.number (sym c.has.ensures.given ∙ c.if-has.false) }
