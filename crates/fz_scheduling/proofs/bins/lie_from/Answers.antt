use Rattle.std.proofs.Common.{pos, ◌+ℤ◌, ◌-ℤ◌, ◌∙◌, arith, rules}
use Rattle.fz_kernel.specs.of_meaning.Relations.{lies_between}
use Rattle.fz_kernel.specs.Views.{ints}
use Rattle.fz_kernel.proofs.Between.{all_of}
use Rattle.fz_scheduling.specs.Places.{number_at}
use Rattle.fz_scheduling.proofs.Zipped.{next_number}
use Rattle.fz_scheduling.proofs.bins.lie_from.Goals as goal

pub returns : goal.returns
returns c =
    let xs = ints c.args.numbers.now in
    let test = lies_between c.args.first ((c.args.first +ℤ pos c.args.count) -ℤ pos 1) in
    c.all_between.ensures.exact (λ k. test (number_at xs k)) (λ k b from below r. search rules)
    ∙ all_of xs (number_at xs) (next_number xs) test 0 _ (omega arith)
