use Rattle.std.proofs.Common.{◌∙◌, arith, rules}
use Rattle.fz_kernel.specs.of_meaning.Relations.{is_natural}
use Rattle.fz_kernel.specs.Views.{ints}
use Rattle.fz_kernel.proofs.Between.{all_of}
use Rattle.fz_scheduling.specs.Places.{number_at}
use Rattle.fz_scheduling.proofs.Zipped.{next_number}
use Rattle.fz_scheduling.proofs.packed.are_natural.Goals as goal

pub returns : goal.returns
returns c =
    let xs = ints c.args.xs.now in
    c.all_between.ensures.exact (λ k. is_natural (number_at xs k)) (λ k b from below r. search rules)
    ∙ all_of xs (number_at xs) (next_number xs) is_natural 0 _ (omega arith)
