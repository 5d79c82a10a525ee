use Rattle.std.proofs.Common.{◌≡◌, ◌∙◌, ◌<◌, Some, ap, length, arith, rules}
use Rattle.fz_model.specs.of_builtins.of_kernel.Given.{slots_at}
use Rattle.fz_bounds.specs.Within.{given}
use Rattle.fz_bounds.proofs.Lists.{is_there}
use Rattle.fz_bounds.proofs.bounded.BoundedConstraint.stands_before.Goals as goal

pub returns-then-only-number : goal.returns-then-only-number
returns-then-only-number c = λ _ K h.
    let xs = given c.args.self.now in
    let p = c.loop-before.before in
    let before : p < c.args.place = omega arith in
    let within : p < length (slots_at xs 0) = omega arith in
    let (n, at) = is_there K xs 0 p within in
    let same : c.in-Some.only ≡ c.args.number = search rules in
    (p, before, at ∙ ap Some (c.in-Some.ensures K h n at ∙ same))
