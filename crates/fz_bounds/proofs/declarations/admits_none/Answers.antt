use Rattle.std.proofs.Common.{◌≡◌, ◌≤ℤ◌, ◌&&◌, FitsSigned, false, int_le, subst, subst₂, sym, w64, rules}
use Rattle.std.proofs.lemmas.Int.{to_z-of_z}
use Rattle.fz_model.specs.Meaning.{admits}
use Rattle.fz_bounds.proofs.declarations.admits_none.Goals as goal

pub returns-in-Within : goal.returns-in-Within
returns-in-Within c = λ out n low high.
    let low_fits : FitsSigned w64 c.args.low = search rules in
    let high_fits : FitsSigned w64 c.args.high = search rules in
    let least_fits : FitsSigned w64 c.in-Within.least = search rules in
    let greatest_fits : FitsSigned w64 c.in-Within.greatest = search rules in
    let from = subst (λ z. z ≤ℤ n) (sym (to_z-of_z w64 c.args.low low_fits)) low in
    let to = subst (λ z. n ≤ℤ z) (sym (to_z-of_z w64 c.args.high high_fits)) high in
    subst (λ d. admits d n ≡ false) (sym c.in-Within.is)
    (subst₂ (λ a b. (int_le a n && int_le n b) ≡ false) (to_z-of_z w64 c.in-Within.least least_fits) (to_z-of_z w64 c.in-Within.greatest greatest_fits) (c.have_none.ensures out n from to))
