use Rattle.std.proofs.Common.{◌≡◌, ◌<◌, ◌∙◌, ℤ, false, ap, length, slice_get, subst, true, Some, arith, rules}
use borrow.Author.Count.{below_more}
use Rattle.fz_model.specs.Relations.{◌=ℤ◌}
use Rattle.fz_model.specs.of_builtins.of_kernel.Given.{ints_at, slots_at}
use Rattle.fz_model.proofs.Values.{same_int}
use Rattle.fz_bounds.specs.Decided.{Decides}
use Rattle.fz_bounds.specs.Within.{given}
use Rattle.fz_bounds.specs.declared.outlook.Outlook.TheVariants.{Always}
use Rattle.fz_bounds.proofs.Failed.{never_so}
use Rattle.fz_model.proofs.of_builtins.Failing.{comes_too_early}
use Rattle.fz_bounds.proofs.Lists.{is_there}
use Rattle.fz_bounds.proofs.bounded.BoundedConstraint.precedes.Goals as goal

pub loop-place-preserved : goal.loop-place-preserved
loop-place-preserved c = λ K f s g.
    let ns = ints_at K (given c.args.self.now) c.args.array in
    below_more (λ i. (n : ℤ) → slice_get ns i ≡ Some n → (n =ℤ s) ≡ false) c.loop-place.place (c.loop-place.invariant K f s g)
    (λ n at. never_so c.equal-in-loop-place.result (n =ℤ s) (search rules) (c.equal-in-loop-place.ensures n s (c.number_at-number.ensures K f n at) g))

pub returns-then-is_always : goal.returns-then-is_always
returns-then-is_always c = λ K f s t g h.
    let xs = given c.args.self.now in
    let p = c.loop-place.place in
    let within : p < length (slots_at xs c.args.array) = omega arith in
    let (n, at) = is_there K xs c.args.array p within in
    let always : c.equal.result ≡ Always = search rules in
    let same : (n =ℤ t) ≡ true = subst (λ o. Decides o (n =ℤ t)) always (c.equal.ensures n t (c.number_at-number.ensures K f n at) h) in
    comes_too_early s t (ints_at K xs c.args.array) p (c.loop-place.invariant K f s g) (at ∙ ap Some (same_int n t same))
