use Rattle.std.proofs.Common.{◌≡◌, ◌∙◌, FitsSigned, subst, w64, rules}
use Rattle.std.proofs.lemmas.Int.{to_z-of_z}
use Rattle.std.specs.FinSet.{contains}
use Rattle.fz_model.specs.of_builtins.of_kernel.Given.{ints_at, set_at}
use Rattle.fz_model.proofs.Values.{same_set_is}
use Rattle.fz_bounds.specs.Decided.{Decides}
use Rattle.fz_bounds.specs.Within.{given}
use Rattle.fz_bounds.proofs.Lists.{first_at_most, ints_in_order, last_at_least}
use Rattle.fz_bounds.proofs.bounded.BoundedConstraint.element_is_in.Goals as goal

pub returns : goal.returns
returns c = λ K h g n at.
    let s = c.args.self.now in
    let low_fits : FitsSigned w64 c.least.result = search rules in
    let high_fits : FitsSigned w64 c.greatest.result = search rules in
    let above = ints_in_order (ints_at s.lowest.now (given s) 1) (ints_at K (given s) 1) c.args.place c.least.result n h.low c.least.ensures at in
    let below = ints_in_order (ints_at K (given s) 1) (ints_at s.highest.now (given s) 1) c.args.place n c.greatest.result h.high at c.greatest.ensures in
    let set_is : c.set.result.now ≡ set_at s.lowest.now (given s) 2 = search rules in
    let same = set_is ∙ same_set_is (set_at s.lowest.now (given s) 2) (set_at K (given s) 2) g.low in
    subst (λ z. Decides c.membership.result (contains z n)) same
    (c.membership.ensures n (first_at_most _ _ n (to_z-of_z w64 c.least.result low_fits) above) (last_at_least _ _ n (to_z-of_z w64 c.greatest.result high_fits) below))
