use Rattle.std.proofs.Common.{◌∙◌, arith, rules}
use Rattle.std.specs.List.{zip}
use Rattle.fz_kernel.specs.of_meaning.Relations.{Span, is_natural}
use Rattle.fz_kernel.specs.Views.{ints}
use Rattle.fz_kernel.proofs.Between.{all_of}
use Rattle.fz_scheduling.specs.Places.{number_at, span_at}
use Rattle.fz_scheduling.proofs.Zipped.{next_span}
use Rattle.fz_scheduling.proofs.spans.last_naturally.Goals as goal

pub returns : goal.returns
returns c =
    let xs = ints c.args.starts.now in
    let ys = ints c.args.lengths.now in
    c.all_between.ensures.exact (λ k. is_natural (number_at ys k)) (λ k b from below r. search rules)
    ∙ all_of (zip xs ys) (span_at xs ys) (next_span xs ys) (λ (k : Span). is_natural k.1) 0 _ (omega arith)
