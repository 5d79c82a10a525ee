use Rattle.std.proofs.Common.{◌≤ℤ◌, FitsSigned, subst, sym, w64, ◌∙◌, rules}
use Rattle.std.proofs.lemmas.Int.{to_z-of_z}
use Rattle.std.proofs.lemmas.Option.{same_Some}
use Rattle.fz_bounds.specs.Bounds.{number_as}
use Rattle.fz_bounds.proofs.Declared.{not_admitted}
use Rattle.fz_bounds.proofs.Numbers.{value_between}
use Rattle.fz_bounds.proofs.declarations.lies_outside.Goals as goal

pub returns-in-Int : goal.returns-in-Int
returns-in-Int c = λ out A inside v is.
    let e = c.in-Some.ends in
    let (a, there, low, high) = value_between c.args.bounds.now c.args.number e c.in-Some.ensures.exact A inside in
    let low_fits : FitsSigned w64 e.low = search rules in
    let high_fits : FitsSigned w64 e.high = search rules in
    let from = subst (λ z. z ≤ℤ a) (sym (to_z-of_z w64 e.low low_fits)) low in
    let to = subst (λ z. a ≤ℤ z) (sym (to_z-of_z w64 e.high high_fits)) high in
    not_admitted c.args.domain.now e.kind a v c.in-Int.is (same_Some v (number_as e.kind a) (sym is ∙ there)) (c.admits_none.ensures out a from to)
