use Rattle.std.proofs.Common.{◌≡◌, ◌+◌, ◌<◌, Some, add-one, ap, length, pos, refl, ◌∙◌, arith}
use Rattle.fz_model.specs.Meaning.{Partial}
use Rattle.fz_model.specs.Relations.{as_places, element_at, end_of_tour}
use Rattle.fz_model.specs.of_builtins.of_kernel.Given.{int_at, ints_at, slots_at}
use Rattle.fz_model.proofs.of_builtins.of_kernel.Passed.{element_found}
use Rattle.fz_model.proofs.of_builtins.of_globals.Walked.{one_further}
use Rattle.fz_bounds.specs.Within.{given}
use Rattle.fz_bounds.proofs.bounded.BoundedConstraint.ring_from.Goals as goal

pub returns-then-place-start-clause-back : goal.returns-then-place-start-clause-back
returns-then-place-start-clause-back c = λ K f g.
    let successors = as_places (int_at K (given c.args.self.now) 0) (ints_at K (given c.args.self.now) 1) in
    let from = pos (c.args.start + 1) in
    let here = pos (c.loop-step.place + 1) in
    let there = pos (c.in_ok-place.place + 1) in
    let leads : element_at successors here ≡ Some there = element_found successors here c.loop-step.place there refl (c.in_ok-place.ensures.next K f g) in
    let same : c.in_ok-place.place ≡ c.args.start = omega arith in
    ap (λ n. end_of_tour successors n from) (add-one c.loop-step.step) ∙ one_further successors c.loop-step.step from here there (c.loop-step.invariant.here K f g) leads ∙ ap (λ n. Some (pos (n + 1))) same

pub loop-step-preserved : goal.loop-step-preserved
loop-step-preserved c = record {
  in_range = omega (arith, c.in_ok-place.ensures.inside, c.count.ensures);
  here = λ K f g.
      let successors = as_places (int_at K (given c.args.self.now) 0) (ints_at K (given c.args.self.now) 1) in
      let from = pos (c.args.start + 1) in
      let here = pos (c.loop-step.place + 1) in
      let there = pos (c.in_ok-place.place + 1) in
      let leads : element_at successors here ≡ Some there = element_found successors here c.loop-step.place there refl (c.in_ok-place.ensures.next K f g) in
      ap (λ n. end_of_tour successors n from) (add-one c.loop-step.step) ∙ one_further successors c.loop-step.step from here there (c.loop-step.invariant.here K f g) leads;
}
