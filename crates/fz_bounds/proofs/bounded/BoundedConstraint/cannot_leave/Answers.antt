use Rattle.std.proofs.Common.{◌≡◌, ◌&&◌, ap, int_rem, not, pos, subst, true, rules}
use Rattle.fz_model.specs.Relations.{◌=ℤ◌}
use Rattle.fz_model.specs.of_builtins.of_kernel.Given.{int_at}
use Rattle.fz_bounds.specs.Decided.{Decides}
use Rattle.fz_bounds.specs.Within.{given}
use Rattle.fz_bounds.specs.declared.outlook.Outlook.TheVariants.{Always, Never}
use Rattle.fz_bounds.proofs.Remainders.{unless_zero}
use Rattle.fz_bounds.proofs.bounded.BoundedConstraint.cannot_leave.Goals as goal

pub returns-then-is_always : goal.returns-then-is_always
returns-then-is_always c = λ _ K f g r lies.
    let a = int_at K (given c.args.self.now) 0 in
    let b = int_at K (given c.args.self.now) 1 in
    let always : c.equal-by_zero.result ≡ Always = search rules in
    let zero : (b =ℤ pos 0) ≡ true = subst (λ o. Decides o (b =ℤ pos 0)) always (c.equal-by_zero.ensures b (pos 0) (c.number.ensures K g) c.of.ensures) in
    ap (λ z. not z && (r =ℤ int_rem a b)) zero

pub returns : goal.returns
returns c = λ so K f g r lies.
    let a = int_at K (given c.args.self.now) 0 in
    let b = int_at K (given c.args.self.now) 1 in
    let never : c.equal-same.result ≡ Never = search rules in
    unless_zero (b =ℤ pos 0) (r =ℤ int_rem a b) (λ e. subst (λ o. Decides o (r =ℤ int_rem a b)) never (c.equal-same.ensures r (int_rem a b) lies (c.remainder.ensures a b (c.number-2.ensures K f) (c.number-3.ensures K g) e)))
