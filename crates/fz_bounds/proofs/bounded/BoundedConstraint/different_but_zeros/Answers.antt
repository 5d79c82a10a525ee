use Rattle.std.proofs.Common.{◌≡◌, ◌∙◌, ◌<◌, FitsSigned, Some, true, ap, length, w64, arith, rules}
use Rattle.std.proofs.lemmas.Int.{ints, to_z-of_z}
use Rattle.fz_model.specs.Relations.{is_nonzero}
use Rattle.fz_model.specs.of_builtins.of_kernel.Given.{ints_at, slots_at}
use Rattle.fz_bounds.specs.Within.{given}
use Rattle.fz_model.proofs.of_builtins.Failing.{clash_of_kept}
use Rattle.fz_bounds.proofs.Lists.{is_there}
use Rattle.fz_bounds.proofs.bounded.BoundedConstraint.different_but_zeros.Goals as goal

pub returns-then-stands_before : goal.returns-then-stands_before
returns-then-stands_before c = λ K h.
    let xs = given c.args.self.now in
    let place = c.loop-place.place in
    let within : place < length (slots_at xs 0) = omega arith in
    let (n, at) = is_there K xs 0 place within in
    let (p, before, also) = c.stands_before.ensures (search rules) K h in
    let nonzero : is_nonzero c.in-Some.number ≡ true = grind (arith, ints) in
    let fits : FitsSigned w64 c.in-Some.number = search rules in
    clash_of_kept is_nonzero c.in-Some.number nonzero (ints_at K xs 0) p place before (also ∙ ap Some (to_z-of_z w64 c.in-Some.number fits)) (at ∙ ap Some (c.in-Some.ensures K h n at))
