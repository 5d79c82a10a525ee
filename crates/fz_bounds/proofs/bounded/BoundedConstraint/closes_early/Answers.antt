use Rattle.std.proofs.Common.{◌≡◌, ◌<◌, length, sym, ◌∙◌, arith}
use Rattle.fz_model.specs.Relations.{as_places}
use Rattle.fz_model.specs.of_builtins.of_kernel.Given.{int_at, ints_at}
use Rattle.fz_model.proofs.of_builtins.of_globals.Led.{placed_counted}
use Rattle.fz_bounds.specs.Within.{given}
use Rattle.fz_bounds.proofs.Circuits.{short_ring}
use Rattle.fz_bounds.proofs.Lists.{numbers_counted}
use Rattle.fz_bounds.proofs.bounded.BoundedConstraint.closes_early.Goals as goal

pub returns-then-steps-count : goal.returns-then-steps-count
returns-then-steps-count c = λ _ K f g.
    let xs = given c.args.self.now in
    let o = int_at K xs 0 in
    let successors = as_places o (ints_at K xs 1) in
    let counted : c.count-count.result ≡ length successors = numbers_counted K xs 1 c.count-count.result c.count-count.ensures ∙ sym (placed_counted o (ints_at K xs 1)) in
    let inside : c.in-Some.start < length successors = omega arith in
    let fewer : c.in-Some-ring_from.steps < length successors = omega arith in
    short_ring successors c.in-Some.start c.in-Some-ring_from.steps inside c.in-Some-ring_from.ensures.some fewer (c.in-Some-ring_from.ensures.back K f g)
