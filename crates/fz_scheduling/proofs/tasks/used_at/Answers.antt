use Rattle.std.proofs.Common.{◌≡◌, ◌+◌, ◌*◌, pos, neg_ℤ, ◌+ℤ◌, ◌≤ℤ◌, ◌∷◌, drop, FitsSigned, w64, to_z, of_z, sym, ap, subst, ◌∙◌, arith, rules}
use Rattle.std.specs.Int.{w128}
use Rattle.std.specs.List.{zip}
use Rattle.std.proofs.lemmas.Int.{ints as numerals, to_z-of_z}
use Rattle.fz_kernel.specs.of_meaning.Relations.{runs_at}
use Rattle.fz_kernel.specs.Views.{ints}
use Rattle.fz_scheduling.specs.Places.{number_at, span_at}
use Rattle.fz_scheduling.proofs.Chosen.{chosen, one_chosen, one_left_out, all_chosen}
use Rattle.fz_scheduling.proofs.Zipped.{next_task}
use Rattle.fz_scheduling.proofs.tasks.used_at.Goals.{then-runs_at, else-runs_at}
use Rattle.fz_scheduling.proofs.tasks.used_at.Goals as goal

pub loop-task-preserved : goal.loop-task-preserved
loop-task-preserved c =
    let xs = ints c.args.starts.now in
    let ys = ints c.args.durations.now in
    let zs = ints c.args.uses.now in
    let tasks = zip (zip xs ys) zs in
    let test = runs_at (to_z w64 (of_z w64 c.args.time)) in
    let i = c.loop-task.task in
    let s = to_z w128 c.loop-task.sum-bits in
    let t = to_z w128 c.if-runs_at.sum-bits in
    let next : drop i tasks ≡ (span_at xs ys i, number_at zs i) ∷ drop (i + 1) tasks = next_task xs ys zs i (omega arith) in
    elim c.if-runs_at.branch [
      | then-runs_at w ↦
          let fits : FitsSigned w64 w.number_at.result = search rules in
          let low : neg_ℤ (pos (9223372036854775808 * i)) ≤ℤ s = c.loop-task.invariant.low in
          let high : s ≤ℤ pos (9223372036854775808 * i) = c.loop-task.invariant.high in
          let is : t ≡ (s +ℤ w.number_at.result) = omega (arith, numerals) in
          one_chosen test tasks i s (span_at xs ys i) (number_at zs i) c.loop-task.invariant next
          t (is ∙ ap (λ n. s +ℤ n) w.number_at.ensures) (sym c.runs_at.ensures.exact ∙ w.if-runs_at.true) (subst (λ n. FitsSigned w64 n) w.number_at.ensures fits)
      | else-runs_at w ↦
          one_left_out test tasks i s (span_at xs ys i) (number_at zs i) c.loop-task.invariant next
          t w.sum-is (sym c.runs_at.ensures.exact ∙ w.if-runs_at.false)
    ]

pub returns : goal.returns
returns c =
    let tasks = zip (zip (ints c.args.starts.now) (ints c.args.durations.now)) (ints c.args.uses.now) in
    let time = to_z w64 (of_z w64 c.args.time) in
    record {
      exact = all_chosen (runs_at time) tasks c.loop-task.task (to_z w128 c.loop-task.sum-bits) c.loop-task.invariant (omega arith)
          ∙ ap (λ t. chosen (runs_at t) tasks) (to_z-of_z w64 c.args.time c.ranges.time);
    }
