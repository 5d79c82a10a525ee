use Rattle.std.proofs.Common.{pos, ◌+ℤ◌, ◌≤ℤ◌, sym, ◌∙◌, arith}
use Rattle.std.proofs.lemmas.Int.{ints}
use Rattle.std.specs.List.{sum_by}
use Rattle.fz_base.specs.Sets.{count_between}
use Rattle.fz_base.specs.Ranges.{lowest, highest, AreInOrder}
use Rattle.fz_base.proofs.Numbers.{len-numbers_of, count_up_to}
use Rattle.fz_base.proofs.kept.Numbers.count.Goals as goal

pub returns-in-Ranges-clause-exact : goal.returns-in-Ranges-clause-exact
returns-in-Ranges-clause-exact c =
    let order : AreInOrder lowest c.in-Ranges.own.value.items = rw c.in-Ranges.is at c.requires.kept in
    rw c.in-Ranges.is (c.count-in-Ranges.ensures ∙ rw (c.deref-in-Ranges.ensures.value, c.deref.ensures) (sym (len-numbers_of lowest c.in-Ranges.own.value.items order)))

pub returns-in-Ranges-clause-bound : goal.returns-in-Ranges-clause-bound
returns-in-Ranges-clause-bound c =
    let order : AreInOrder lowest c.in-Ranges.own.value.items = rw c.in-Ranges.is at c.requires.kept in
    let numbers = sum_by (λ r. count_between r.lo r.hi) c.in-Ranges.own.value.items in
    let room : (lowest +ℤ pos numbers) ≤ℤ (highest +ℤ pos 1) = count_up_to lowest c.in-Ranges.own.value.items order (omega (arith, ints)) in
    rw (c.count-in-Ranges.ensures, c.deref-in-Ranges.ensures.value, c.deref.ensures) (omega (arith, ints))
