use Rattle.std.proofs.Common.{◌≡◌, Some, ap, option_map, slice_get, subst, sym, true, false, ◌∙◌}
use Rattle.std.proofs.lemmas.Option.{same_Some, slice_get-map}
use Rattle.fz_model.specs.Relations.{as_number}
use Rattle.fz_model.specs.of_builtins.of_kernel.Given.{bools_at}
use Rattle.fz_bounds.specs.Decided.{LiesIn}
use Rattle.fz_bounds.specs.Within.{ElementsLie, given, numbers_at}
use Rattle.fz_bounds.proofs.Lists.{truth_there}
use Rattle.fz_bounds.proofs.bounded.BoundedConstraint.element.Goals as goal

pub returns-then-truths : goal.returns-then-truths
returns-then-truths c = λ K f n at.
    let s = c.args.self.now in
    let xs = given s in
    let i = c.args.index in
    let p = c.args.place in
    let lie = subst (λ t. ElementsLie t s i K) c.if-truths.true f in
    let here : slice_get (numbers_at true K xs i) p ≡ Some n = subst (λ t. slice_get (numbers_at t K xs i) p ≡ Some n) c.if-truths.true at in
    let (b, at_b) = truth_there K xs i p c.requires.in_range in
    let is : as_number b ≡ n = same_Some (as_number b) n (sym (slice_get-map as_number (bools_at K xs i) p ∙ ap (option_map as_number) at_b) ∙ here) in
    subst (LiesIn c.number.result) is (c.number.ensures b (c.truth_at.ensures K lie b at_b))

pub returns-else-truths : goal.returns-else-truths
returns-else-truths c = λ K f n at.
    let s = c.args.self.now in
    c.number_at.ensures K (subst (λ t. ElementsLie t s c.args.index K) c.if-truths.false f) n
    (subst (λ t. slice_get (numbers_at t K (given s) c.args.index) c.args.place ≡ Some n) c.if-truths.false at)
