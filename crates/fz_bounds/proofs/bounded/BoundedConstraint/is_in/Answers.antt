use Rattle.std.proofs.Common.{◌≡◌, ◌∙◌, FitsSigned, subst, w64, rules}
use Rattle.std.proofs.lemmas.Int.{to_z-of_z}
use Rattle.std.specs.FinSet.{contains}
use Rattle.fz_model.specs.of_builtins.of_kernel.Given.{int_at, set_at}
use Rattle.fz_model.proofs.Values.{same_set_is}
use Rattle.fz_bounds.specs.Decided.{Decides}
use Rattle.fz_bounds.specs.Within.{given}
use Rattle.fz_bounds.proofs.Lists.{first_at_most, last_at_least}
use Rattle.fz_bounds.proofs.bounded.BoundedConstraint.is_in.Goals as goal

pub returns : goal.returns
returns c = λ K f g.
    let s = c.args.self.now in
    let n = int_at K (given s) 0 in
    let low_fits : FitsSigned w64 c.int.result = search rules in
    let high_fits : FitsSigned w64 c.int-2.result = search rules in
    let low_is : c.int.result ≡ int_at s.lowest.now (given s) 0 = search rules in
    let high_is : c.int-2.result ≡ int_at s.highest.now (given s) 0 = search rules in
    let set_is : c.set.result.now ≡ set_at s.lowest.now (given s) 1 = search rules in
    let same = set_is ∙ same_set_is (set_at s.lowest.now (given s) 1) (set_at K (given s) 1) g.low in
    subst (λ z. Decides c.membership.result (contains z n)) same
    (c.membership.ensures n (first_at_most _ _ n (to_z-of_z w64 c.int.result low_fits ∙ low_is) f.low) (last_at_least _ _ n (to_z-of_z w64 c.int-2.result high_fits ∙ high_is) f.high))
