use Rattle.std.proofs.Common.{◌≡◌, ◌+◌, ◌<◌, pos, Some, FitsSigned, w64, ap, ◌∙◌, add-one, arith}
use Rattle.std.proofs.lemmas.Int.{to_z-of_z}
use Rattle.fz_kernel.specs.of_meaning.Relations.{element_at, as_places, end_of_tour}
use Rattle.fz_kernel.specs.Views.{ints}
use Rattle.fz_globals.proofs.Walked.{NotBack, one_further, back_early, still_ahead}
use Rattle.fz_globals.proofs.tours.walk.Goals.{else-step-gt0-via-then-step-gt0+else-place-start, else-step-gt0-via-else-step-gt0}
use Rattle.fz_globals.proofs.tours.walk.Goals as goal

pub returns-then-place-start-clause-comes_back : goal.returns-then-place-start-clause-comes_back
returns-then-place-start-clause-comes_back c =
    let o = c.args.first in
    let fits_o : FitsSigned w64 o = c.ranges.first in
    let f = as_places o (ints c.args.next.now) in
    let start = pos (c.args.start + 1) in
    let here : end_of_tour f c.loop-step.step start ≡ Some (pos (c.loop-step.place + 1)) = simp to_z-of_z at c.loop-step.invariant.here in
    let same : c.loop-step.place ≡ c.args.start = omega arith in
    back_early f c.args.steps c.loop-step.step start (omega arith) (omega arith) (here ∙ ap (λ p. Some (pos (p + 1))) same)

pub loop-step-preserved : goal.loop-step-preserved
loop-step-preserved c =
    let o = c.args.first in
    let fits_o : FitsSigned w64 o = c.ranges.first in
    let f = as_places o (ints c.args.next.now) in
    let start = pos (c.args.start + 1) in
    let here : end_of_tour f c.loop-step.step start ≡ Some (pos (c.loop-step.place + 1)) = simp to_z-of_z at c.loop-step.invariant.here in
    let ahead : NotBack f start c.loop-step.step = simp to_z-of_z at c.loop-step.invariant.ahead in
    let leads : element_at f (pos (c.loop-step.place + 1)) ≡ Some (pos (c.led_to-place.result + 1)) = simp to_z-of_z at c.led_to-place.ensures.leads in
    let apart : 0 < c.loop-step.step → c.loop-step.place ≡ c.args.start → ⊥ =
    elim c.else-step-gt0.branch [
      | else-step-gt0-via-then-step-gt0+else-place-start w ↦ λ some same. omega arith
      | else-step-gt0-via-else-step-gt0 w ↦ λ some same. omega arith
    ] in
    simp to_z-of_z
    (record {
      in_range = c.led_to-place.ensures.within;
      here = ap (λ n. end_of_tour f n start) (add-one c.loop-step.step) ∙ one_further f c.loop-step.step start (pos (c.loop-step.place + 1)) (pos (c.led_to-place.result + 1)) here leads;
      ahead = still_ahead f c.args.start c.loop-step.place c.loop-step.step ahead here apart;
    })

pub returns-clause-ends : goal.returns-clause-ends
returns-clause-ends c =
    let o = c.args.first in
    let fits_o : FitsSigned w64 o = c.ranges.first in
    let f = as_places o (ints c.args.next.now) in
    let start = pos (c.args.start + 1) in
    let here : end_of_tour f c.loop-step.step start ≡ Some (pos (c.loop-step.place + 1)) = simp to_z-of_z at c.loop-step.invariant.here in
    let all : c.args.steps ≡ c.loop-step.step = omega arith in
    ap (λ n. end_of_tour f n start) all ∙ here
