use Rattle.std.proofs.Common.{◌&&◌, ℤ, ◌∙◌, arith, rules}
use Rattle.std.specs.List.{zip}
use Rattle.fz_kernel.specs.of_meaning.Relations.{Span, is_natural}
use Rattle.fz_kernel.specs.Views.{ints}
use Rattle.fz_kernel.proofs.Between.{all_of}
use Rattle.fz_scheduling.specs.Places.{number_at, span_at}
use Rattle.fz_scheduling.proofs.Zipped.{next_task}
use Rattle.fz_scheduling.proofs.tasks.are_natural.Goals as goal

pub returns : goal.returns
returns c =
    let xs = ints c.args.starts.now in
    let ys = ints c.args.durations.now in
    let zs = ints c.args.uses.now in
    let test = λ (k : Span × ℤ). is_natural k.0.1 && is_natural k.1 in
    c.all_between.ensures.exact (λ k. is_natural (number_at ys k) && is_natural (number_at zs k)) (λ k b from below r. search rules)
    ∙ all_of (zip (zip xs ys) zs) (λ k. (span_at xs ys k, number_at zs k)) (next_task xs ys zs) test 0 _ (omega arith)
