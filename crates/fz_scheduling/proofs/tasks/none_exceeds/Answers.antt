use Rattle.std.proofs.Common.{◌∙◌, arith, rules}
use Rattle.std.specs.List.{zip}
use Rattle.fz_kernel.specs.Views.{ints}
use Rattle.fz_kernel.proofs.Between.{all_of}
use Rattle.fz_scheduling.specs.Places.{keeps_within, number_at, span_at}
use Rattle.fz_scheduling.proofs.Zipped.{next_task}
use Rattle.fz_scheduling.proofs.tasks.none_exceeds.Goals as goal

pub returns : goal.returns
returns c =
    let xs = ints c.args.starts.now in
    let ys = ints c.args.durations.now in
    let zs = ints c.args.uses.now in
    let tasks = zip (zip xs ys) zs in
    let test = keeps_within c.args.most tasks in
    c.all_between.ensures.exact (λ k. test (span_at xs ys k, number_at zs k)) (λ k b from below r. search rules)
    ∙ all_of tasks (λ k. (span_at xs ys k, number_at zs k)) (next_task xs ys zs) test 0 _ (omega arith)
