use Rattle.std.proofs.Common.{◌≡◌, ◌≤ℤ◌, FitsSigned, subst, sym, true, w64, arith, rules}
use Rattle.std.proofs.lemmas.Int.{ints, to_z-of_z}
use Rattle.std.specs.FinSet.{contains}
use Rattle.fz_bounds.proofs.declarations.membership.Goals as goal

pub returns-then-has_none : goal.returns-then-has_none
returns-then-has_none c = λ n low high.
    let low_fits : FitsSigned w64 c.args.low = search rules in
    let high_fits : FitsSigned w64 c.args.high = search rules in
    let from = subst (λ z. z ≤ℤ n) (sym (to_z-of_z w64 c.args.low low_fits)) low in
    let to = subst (λ z. n ≤ℤ z) (sym (to_z-of_z w64 c.args.high high_fits)) high in
    c.has_none.ensures (search rules) n from to

pub returns-then-contains : goal.returns-then-contains
returns-then-contains c = λ n low high.
    let is : contains c.args.numbers.now c.args.low ≡ true = search rules in
    let same : c.args.low ≡ n = omega (arith, ints) in
    subst (λ z. contains c.args.numbers.now z ≡ true) same is
