use Rattle.std.proofs.Common.{◌≡◌, ◌*ℤ◌, ◌∙◌, FitsSigned, subst, w64, rules}
use Rattle.std.proofs.lemmas.Int.{to_z-of_z}
use Rattle.fz_model.specs.of_builtins.of_kernel.Given.{int_at}
use Rattle.fz_bounds.specs.Decided.{LiesIn}
use Rattle.fz_bounds.specs.Within.{given}
use Rattle.fz_bounds.proofs.Ranges.{product_above, product_below}
use Rattle.fz_bounds.proofs.bounded.BoundedConstraint.product.Goals as goal

pub returns : goal.returns
returns c = λ K f g.
    let s = c.args.self.now in
    let l = int_at s.lowest.now (given s) c.args.one in
    let h = int_at s.highest.now (given s) c.args.one in
    let a = int_at K (given s) c.args.one in
    let b = int_at K (given s) c.args.other in
    let low_fits : FitsSigned w64 c.int.result = search rules in
    let high_fits : FitsSigned w64 c.int-2.result = search rules in
    let low_is : c.int.result ≡ l = search rules in
    let high_is : c.int-2.result ≡ h = search rules in
    let least : LiesIn c.times-least.result (l *ℤ b) = subst (λ z. LiesIn c.times-least.result (z *ℤ b)) (to_z-of_z w64 c.int.result low_fits ∙ low_is) (c.times-least.ensures b (c.number.ensures K g)) in
    let most : LiesIn c.times-most.result (h *ℤ b) = subst (λ z. LiesIn c.times-most.result (z *ℤ b)) (to_z-of_z w64 c.int-2.result high_fits ∙ high_is) (c.times-most.ensures b (c.number-2.ensures K g)) in
    c.hull.ensures (l *ℤ b) (h *ℤ b) (a *ℤ b) least most (product_above l a h b f.low f.high) (product_below l a h b f.low f.high)
