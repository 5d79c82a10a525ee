use Rattle.std.proofs.Common.{◌≡◌, int_le, true, FitsSigned, subst, sym, w64, rules}
use Rattle.std.proofs.lemmas.Int.{to_z-of_z}
use Rattle.fz_model.specs.of_builtins.of_kernel.Given.{ints_at}
use Rattle.fz_bounds.specs.Within.{given}
use Rattle.fz_bounds.proofs.Lists.{ints_in_order}
use Rattle.fz_bounds.proofs.bounded.BoundedConstraint.number_at.Goals as goal

pub returns : goal.returns
returns c = λ K h n at.
    let s = c.args.self.now in
    let i = c.args.index in
    let low : FitsSigned w64 c.least.result = search rules in
    let high : FitsSigned w64 c.greatest.result = search rules in
    let above : int_le c.least.result n ≡ true = ints_in_order (ints_at s.lowest.now (given s) i) (ints_at K (given s) i) c.args.place c.least.result n h.low c.least.ensures at in
    let below : int_le n c.greatest.result ≡ true = ints_in_order (ints_at K (given s) i) (ints_at s.highest.now (given s) i) c.args.place n c.greatest.result h.high at c.greatest.ensures in
    c.between.ensures n (subst (λ z. int_le z n ≡ true) (sym (to_z-of_z w64 c.least.result low)) above) (subst (λ z. int_le n z ≡ true) (sym (to_z-of_z w64 c.greatest.result high)) below)
