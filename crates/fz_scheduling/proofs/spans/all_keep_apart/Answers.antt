use Rattle.std.proofs.Common.{◌∙◌, arith, rules}
use Rattle.std.specs.List.{zip}
use Rattle.fz_kernel.specs.Views.{ints}
use Rattle.fz_kernel.proofs.Between.{all_pairs_of}
use Rattle.fz_scheduling.specs.Places.{keep_apart, span_at}
use Rattle.fz_scheduling.proofs.Zipped.{next_span}
use Rattle.fz_scheduling.proofs.spans.all_keep_apart.Goals as goal

pub returns : goal.returns
returns c =
    let xs = ints c.args.starts.now in
    let ys = ints c.args.lengths.now in
    let pass = keep_apart c.args.spare in
    c.all_pairs.ensures.exact (λ j k. pass (span_at xs ys j) (span_at xs ys k)) (λ j k b from below r. search rules)
    ∙ all_pairs_of (zip xs ys) (span_at xs ys) (next_span xs ys) pass 0 _ (omega arith)
